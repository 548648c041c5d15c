-- The loop's invariant: k cells are copied; one more by copied_more.
use Rattle.trials_cells.proofs.Laws.{copied_more}
use Rattle.std.proofs.Common.{◌≡◌, refl, arith}
use Rattle.trials_cells.proofs.cells.copy.Goals as goal

pub loop-k-init : goal.loop-k-init
loop-k-init c = refl

pub loop-k-preserved : goal.loop-k-preserved
loop-k-preserved c = cc (copied_more _ _ _ _)

pub returns : goal.returns
returns c = let e : c.loop-k.k ≡ c.args.n = omega arith in cc
