-- By the cases of `divided` (divided-none, divided-some).
use Rattle.trials_cells.proofs.Laws.{divided-none, divided-some}
use Rattle.std.proofs.Common.{arith}
use Rattle.trials_cells.proofs.cells.quotient.Goals as goal

pub returns-then-b-eq0 : goal.returns-then-b-eq0
returns-then-b-eq0 c = divided-none _ _ (omega arith)

pub returns : goal.returns
returns c = divided-some _ _ (λ h. omega arith)
