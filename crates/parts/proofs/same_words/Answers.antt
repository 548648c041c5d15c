-- The loop's invariant: each pair of words passed is the same.
-- Assumes nothing.
use mathlib.Core.Path.{◌≡◌, refl, sym, ◌∙◌}
use native.Mathlib.Omega.{arith}
use lib.Dec.{eqb}
use lib.ListN.{length}
use borrow.Author.Tests.{eq-eqb, ne_eqb}
use Rattle.parts.proofs.Laws.{all_more, all-false, pointwise-is}
use Rattle.parts.proofs.same_words.Invariants.{same_at}
use Rattle.parts.proofs.same_words.Goals as goal

pub loop-k-init : goal.loop-k-init
loop-k-init c = refl

pub returns : goal.returns
returns c =
    let a = c.args in
    let e : c.loop-k.k ≡ length a.x.now = omega arith in
    sym (pointwise-is eqb a.x.now a.y.now (sym c.requires) ∙ rw e at c.loop-k.invariant)
