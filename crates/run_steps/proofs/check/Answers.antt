-- The first condition met gives the number: each test by what it passed or failed, and the setup fits once it is not refused (setup-fits).
use Prim.Native.Nat.{ℕ}
use mathlib.Core.Path.{◌≡◌, refl, sym, ◌∙◌}
use mathlib.Core.Bool.{Bool, true, false, cond}
use mathlib.Core.List.{List}
use borrow.Author.Tests.{eq-eqb, ne_eqb}
use Rattle.protocol.specs.Tables.{tables}
use Rattle.protocol.specs.Runs.{masked_refusal}
use Rattle.protocol_types.proofs.Board.{setup-fits}
use Rattle.engine_tables.proofs.Tests.{sized-is, passed-lengths}
use Rattle.protocol_types.specs.Refusals.{number}
use Rattle.protocol_types.specs.Board.{setup_refusal}
use Rattle.protocol_types.specs.declared.Refusal.{Refusal}
use Rattle.protocol_types.specs.declared.Setup.{Setup}
use Rattle.protocol_types.specs.declared.Account.{Account}
use Rattle.protocol_types.proofs.Refusals.{refusal-at_exit, number-refuses}
use Rattle.protocol.specs.Masks.{Masked, masked}
use Rattle.host_decoding.specs.Records.{partial_refusal}
use Rattle.run_steps.specs.Stored.{stored_refusal}
use Rattle.host_decoding.proofs.Whole.{passed-whole}
use Rattle.run_steps.proofs.check.Goals as goal

-- a setup's refusal comes first
setup-first : (s : Setup) (x : Masked) (a : Account) (whole : Bool) (n : ℕ) (vs : List ℕ) (r : Refusal) → number r ≡ cond whole (setup_refusal s) (partial_refusal s) → number r ≡ stored_refusal s x a whole n vs
unfolding masked_refusal
setup-first s x a true n vs r e = rw (sym e, number-refuses r) refl
setup-first s x a false n vs r e = e

pub returns-in_err-check_whole : goal.returns-in_err-check_whole
returns-in_err-check_whole c =
    let a = c.args in
    let x = masked (tables a.blocks.now a.counters.now a.marks.now a.words.now a.memory.now) a.masks.now in
    refusal-at_exit _ _ c.from_residual.result c.from_residual.ensures.1
    (setup-first a.setup x a.account a.whole a.count a.values.now _ c.in_err-check_whole.ensures)

pub lengths_fit-requires : goal.lengths_fit-requires
lengths_fit-requires c = setup-fits c.args.setup (passed-whole c.args.setup c.args.whole c.in_ok-check_whole.ensures).1

pub returns-then-not-lengths_fit : goal.returns-then-not-lengths_fit
unfolding masked_refusal
returns-then-not-lengths_fit c =
    let a = c.args in
    let x = masked (tables a.blocks.now a.counters.now a.marks.now a.words.now a.memory.now) a.masks.now in
    let p = passed-whole a.setup a.whole c.in_ok-check_whole.ensures in
    rw (p.0, p.1, sized-is a.setup x ∙ sym c.lengths_fit.ensures ∙ c.if-not-lengths_fit.true)

pub returns-then-values-count : goal.returns-then-values-count
unfolding masked_refusal
returns-then-values-count c =
    let a = c.args in
    let x = masked (tables a.blocks.now a.counters.now a.marks.now a.words.now a.memory.now) a.masks.now in
    let p = passed-whole a.setup a.whole c.in_ok-check_whole.ensures in
    rw (
      p.0,
      p.1,
      sized-is a.setup x ∙ sym c.lengths_fit.ensures ∙ c.if-not-lengths_fit.false,
      ne_eqb _ _ c.if-values-count.true,
    )

pub is_sound-requires : goal.is_sound-requires
is_sound-requires c =
    let a = c.args in
    let x = masked (tables a.blocks.now a.counters.now a.marks.now a.words.now a.memory.now) a.masks.now in
    let l = passed-lengths a.setup x (sized-is a.setup x ∙ sym c.lengths_fit.ensures ∙ c.if-not-lengths_fit.false) in record {
      fits = setup-fits a.setup (passed-whole a.setup a.whole c.in_ok-check_whole.ensures).1;
      sized = l.0;
      masks_len = l.1;
    }

pub returns-then-not-is_sound : goal.returns-then-not-is_sound
unfolding masked_refusal
returns-then-not-is_sound c =
    let a = c.args in
    let x = masked (tables a.blocks.now a.counters.now a.marks.now a.words.now a.memory.now) a.masks.now in
    let p = passed-whole a.setup a.whole c.in_ok-check_whole.ensures in
    rw (
      p.0,
      p.1,
      sized-is a.setup x ∙ sym c.lengths_fit.ensures ∙ c.if-not-lengths_fit.false,
      eq-eqb _ _ c.if-values-count.false,
      sym c.is_sound.ensures ∙ c.if-not-is_sound.true,
    )

pub is_possible-requires : goal.is_possible-requires
is_possible-requires c =
    let a = c.args in
    setup-fits a.setup (passed-whole a.setup a.whole c.in_ok-check_whole.ensures).1

pub returns-then-not-is_possible : goal.returns-then-not-is_possible
unfolding masked_refusal
returns-then-not-is_possible c =
    let a = c.args in
    let x = masked (tables a.blocks.now a.counters.now a.marks.now a.words.now a.memory.now) a.masks.now in
    let p = passed-whole a.setup a.whole c.in_ok-check_whole.ensures in
    rw (
      p.0,
      p.1,
      sized-is a.setup x ∙ sym c.lengths_fit.ensures ∙ c.if-not-lengths_fit.false,
      eq-eqb _ _ c.if-values-count.false,
      sym c.is_sound.ensures ∙ c.if-not-is_sound.false,
      sym c.is_possible.ensures ∙ c.if-not-is_possible.true,
    )

pub returns : goal.returns
unfolding masked_refusal
returns c =
    let a = c.args in
    let x = masked (tables a.blocks.now a.counters.now a.marks.now a.words.now a.memory.now) a.masks.now in
    let p = passed-whole a.setup a.whole c.in_ok-check_whole.ensures in
    rw (
      p.0,
      p.1,
      sized-is a.setup x ∙ sym c.lengths_fit.ensures ∙ c.if-not-lengths_fit.false,
      eq-eqb _ _ c.if-values-count.false,
      sym c.is_sound.ensures ∙ c.if-not-is_sound.false,
      sym c.is_possible.ensures ∙ c.if-not-is_possible.false,
    )
