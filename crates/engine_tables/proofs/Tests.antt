-- What starting does in each of its cases, and what the tests on lengths and of a look tell; by the definitions and setup-fits.
-- Assumes nothing.
use Prim.Native.Nat.{ℕ, ◌*◌, ◌<◌}
use mathlib.Core.Path.{◌≡◌, refl, sym}
use mathlib.Core.Logic.{◌≢◌}
use mathlib.Core.Bool.{true, false, true≢false, ◌&&◌, cond}
use mathlib.Core.List.{List, []}
use lib.ListN.{length}
use lib.Dec.{ltb, eqb}
use borrow.Author.Tests.{eqb-true, ltb-true, ne_eqb}
use Rattle.protocol_types.specs.Lists.{part}
use Rattle.std.specs.Prelude.{Result, Ok, Err, is_err}
use Rattle.protocol_types.specs.declared.Refusal.{Refusal}
use Rattle.protocol_types.specs.Refusals.{no_refusal, unless, wrong_length, refusal_number}
use Rattle.protocol_types.specs.Board.{Fits, setup_refusal, slot, slots, word_index}
use Rattle.protocol.specs.Tables.{Sized, sized, directory, holds}
use Rattle.protocol.specs.Masks.{Masked, fresh_masked, sized_masked}
use Rattle.protocol.specs.Runs.{start_refusal, started, looked}
use Rattle.protocol_types.specs.declared.Setup.{Setup}
use Rattle.protocol_types.specs.declared.Block.{Block}
use Rattle.protocol_types.proofs.Laws.{both_true}
use Rattle.protocol_types.proofs.Refusals.{first-refuses}
use Rattle.protocol_types.proofs.Board.{setup-fits}
use Rattle.protocol.proofs.Checked.{passed-sized}
use Rattle.engine_tables.specs.Entries.{lengths_fit, seen}

-- ---- what a check answers

-- a check that answers no error lets through
pub passes : {A : Type 0} (r : Result A Refusal) {n : ℕ} → refusal_number r ≡ n → is_err r ≡ false → n ≡ no_refusal
passes (Ok x) e f = sym e
passes (Err r) e f = absurd (true≢false f)

-- ---- starting

module _ (s : Setup) (x : Masked) where
  pub start-refused : setup_refusal s ≢ no_refusal → (setup_refusal s ≡ start_refusal s x) × (x ≡ started s x)
  unfolding start_refusal started
  start-refused d =
      let e = first-refuses (setup_refusal s) (unless (sized_masked s x) wrong_length no_refusal) d in
      (sym e, sym (rw (e, ne_eqb (setup_refusal s) no_refusal d)))

  pub start-unsized : setup_refusal s ≡ no_refusal → sized_masked s x ≡ false → (wrong_length ≡ start_refusal s x) × (x ≡ started s x)
  unfolding start_refusal started
  start-unsized r l = (sym (rw (r, l)), sym (rw (r, l)))

  pub start-filled : setup_refusal s ≡ no_refusal → sized_masked s x ≡ true → (no_refusal ≡ start_refusal s x) × (fresh_masked s ≡ started s x)
  unfolding start_refusal started
  start-filled r l = (sym (rw (r, l)), sym (rw (r, l)))

  -- ---- tests

  pub sized-is : sized_masked s x
      ≡ lengths_fit s (length x.tables.blocks) (length x.tables.counters) (length x.tables.marks) (length x.tables.words) (length x.tables.memory) (length x.masks)
  unfolding sized_masked sized lengths_fit
  sized-is = refl

  -- the right lengths, as facts
  pub passed-lengths : sized_masked s x ≡ true → Sized s x.tables × (length x.masks ≡ s.blocks)
  unfolding sized_masked
  passed-lengths e =
      let l = both_true (sized s x.tables) (eqb (length x.masks) s.blocks) e in
      (passed-sized s x.tables l.0, eqb-true _ _ l.1)

pub looked-is : (s : Setup) (b c w : List ℕ) (i : ℕ) (d : Block) → looked s b c w i d ≡ cond (seen s b c (length w) i d) (part w (word_index s (slot s i d) 0) s.words) []
unfolding looked seen
looked-is s b c w i d = refl

-- what a look that shows its block may use
pub record Shown (s : Setup) (n i : ℕ) : Type 0 where
  pub fits : Fits s
  pub words : n ≡ slots s * s.words
  pub processor : i < s.processors

pub shown : (s : Setup) (b c : List ℕ) (n i : ℕ) (d : Block) → seen s b c n i d ≡ true → Shown s n i
unfolding seen
shown s b c n i d e =
    let r = eqb (setup_refusal s) no_refusal in
    let lb = eqb (length b) (slots s) && eqb (length c) (slots s) in
    let lw = eqb n (slots s * s.words) in
    let e₁ = both_true (r && (lb && lw) && ltb i s.processors && ltb d.0 s.blocks) (holds s (directory b c) i d) e in
    let e₂ = both_true (r && (lb && lw) && ltb i s.processors) (ltb d.0 s.blocks) e₁.0 in
    let e₃ = both_true (r && (lb && lw)) (ltb i s.processors) e₂.0 in
    let e₄ = both_true r (lb && lw) e₃.0 in
    let e₅ = both_true lb lw e₄.1 in
    record { fits = setup-fits s (eqb-true _ _ e₄.0); words = eqb-true _ _ e₅.1; processor = ltb-true _ _ e₃.1 }
