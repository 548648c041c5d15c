-- By the cases of `reduced` (reduced-none, reduced-some).
use Rattle.trials_cells.proofs.Laws.{reduced-none, reduced-some}
use Rattle.std.proofs.Common.{arith}
use Rattle.trials_cells.proofs.cells.remainder.Goals as goal

pub returns-then-b-eq0 : goal.returns-then-b-eq0
returns-then-b-eq0 c = reduced-none _ _ (omega arith)

pub returns : goal.returns
returns c = reduced-some _ _ (λ h. omega arith)
