-- What `sees` tells (looked-is).
use Prim.Native.Nat.{ℕ, ◌*◌}
use mathlib.Core.Path.{ap, sym, ◌∙◌}
use native.Mathlib.Nat.{add-sub_cancel_left, add-zero}
use Rattle.protocol_types.specs.Lists.{part}
use Rattle.protocol_types.specs.Board.{word_index}
use Rattle.engine_tables.proofs.Tests.{looked-is}
use Rattle.engine_tables.proofs.look.Goals as goal

pub returns-then-not-sees : goal.returns-then-not-sees
returns-then-not-sees c =
    let a = c.args in
    rw (looked-is a.setup a.blocks.now a.counters.now a.words.now a.processor a.block, sym c.sees.ensures ∙ c.if-not-sees.true)

pub returns : goal.returns
unfolding word_index
returns c =
    let a = c.args in
    rw (
      looked-is a.setup a.blocks.now a.counters.now a.words.now a.processor a.block,
      sym c.sees.ensures ∙ c.if-not-sees.false,
      add-sub_cancel_left (c.slot.result * a.setup.words) a.setup.words,
      add-zero,
    )
    (ap (λ (k : ℕ). part a.words.now (k * a.setup.words) a.setup.words) c.slot.ensures.value)
