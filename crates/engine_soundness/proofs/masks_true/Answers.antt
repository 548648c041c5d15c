-- The invariant: each mask passed is the true one of its block.
-- Assumes nothing.
use mathlib.Core.Path.{◌≡◌, sym, ◌∙◌}
use native.Mathlib.Omega.{arith}
use borrow.Author.Tests.{ne_eqb}
use Rattle.protocol.specs.Tables.{tables}
use Rattle.protocol.specs.Masks.{masked}
use Rattle.parts.proofs.Laws.{all-false}
use Rattle.engine_soundness.proofs.Lines.{mask_test, true-masks-is}
use Rattle.engine_soundness.proofs.masks_true.Goals as goal

pub returns-then-masks-b : goal.returns-then-masks-b
returns-then-masks-b c m w g =
    let a = c.args in
    let x = masked (tables a.blocks.now a.counters.now m w g) a.masks.now in
    let differs = ne_eqb _ _ (λ d. c.if-masks-b.true (d ∙ sym (c.block_mask.ensures m w g))) in
    sym (true-masks-is a.setup x ∙ all-false (mask_test a.setup x) a.setup.blocks c.loop-b.b (omega arith) differs)

pub returns : goal.returns
returns c m w g =
    let a = c.args in
    let x = masked (tables a.blocks.now a.counters.now m w g) a.masks.now in
    let e : c.loop-b.b ≡ a.setup.blocks = omega arith in
    sym (true-masks-is a.setup x ∙ rw e at (c.loop-b.invariant m w g))
