-- By the cases of `multiplied`; the product fits by `fits`.
use Rattle.std.proofs.Common.{arith}
use Rattle.trials_cells.proofs.Laws.{fits, multiplied-small, multiplied-right, multiplied-left}
use Rattle.trials_cells.proofs.cells.product.Goals as goal
use Rattle.trials_cells.proofs.cells.product.Goals.{then-a-ge-FACTORS-via-then-a-ge-FACTORS, then-a-ge-FACTORS-via-else-a-ge-FACTORS+then-b-ge-FACTORS}

pub returns-then-a-ge-FACTORS : goal.returns-then-a-ge-FACTORS
returns-then-a-ge-FACTORS c =
    elim c.then-a-ge-FACTORS.branch [
      | then-a-ge-FACTORS-via-then-a-ge-FACTORS w ↦ multiplied-left _ _ (omega arith)
      | then-a-ge-FACTORS-via-else-a-ge-FACTORS+then-b-ge-FACTORS w ↦ multiplied-right _ _ (omega arith) (omega arith)
    ]

pub overflow_mul-result : goal.overflow_mul-result
overflow_mul-result c = record { fits = fits (omega arith) (omega arith) }

pub returns : goal.returns
returns c = multiplied-small _ _ (omega arith) (omega arith)
