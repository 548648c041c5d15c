-- The loop's invariant: the differences of k cells; one more by differing-more.
use Rattle.std.proofs.Common.{◌≡◌, refl, arith}
use Rattle.trials_cells.proofs.cells.differences.Goals as goal

pub loop-k-init : goal.loop-k-init
loop-k-init c = refl

pub returns : goal.returns
returns c = let e : c.loop-k.k ≡ c.args.n = omega arith in cc
