-- The loop's invariant: the words passed are those of `from` and the others as they were.
-- Assumes nothing.
use mathlib.Core.Path.{refl, ◌∙◌}
use native.Mathlib.Omega.{arith}
use lib.ListN.{length-set}
use Rattle.parts.proofs.Laws.{front-more, front-all}
use Rattle.parts.proofs.copy.Goals as goal

pub loop-k-init : goal.loop-k-init
loop-k-init c = (refl, refl)

pub loop-k-preserved : goal.loop-k-preserved
loop-k-preserved c =
    let k = c.loop-k.k in
    let inv = c.loop-k.invariant in
    (simp length-set inv.0, rw inv.1 (front-more _ _ k (omega arith) (omega arith)))

pub returns : goal.returns
returns c =
    let a = c.args in
    c.loop-k.invariant.1 ∙ front-all a.from.now a.to.now _ (omega arith) (omega arith)
