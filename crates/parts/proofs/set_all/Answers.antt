-- The loop's invariant: the elements passed are the value and the others as they were.
-- Assumes nothing.
use mathlib.Core.Path.{refl, ◌∙◌}
use native.Mathlib.Omega.{arith}
use lib.ListN.{length-set}
use Rattle.parts.proofs.Laws.{set-more, set-every}
use Rattle.parts.proofs.set_all.Goals as goal

pub loop-k-init : goal.loop-k-init
loop-k-init g c = (refl, refl)

pub loop-k-preserved : goal.loop-k-preserved
loop-k-preserved g c =
    let inv = c.loop-k.invariant in
    (simp length-set inv.0, rw inv.1 (set-more _ _ c.loop-k.k (omega arith)))

pub returns : goal.returns
returns g c = c.loop-k.invariant.1 ∙ set-every _ c.args.part.now _ (omega arith)
