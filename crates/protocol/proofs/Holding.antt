-- What the tests of holding a block say, and what is known of another holder, of the payer and of the owner.
use Prim.Native.Nat.{ℕ, ◌/◌, ◌%◌, ◌≤◌, ◌<◌}
use mathlib.Core.Path.{◌≡◌, sym, ◌∙◌}
use mathlib.Core.Logic.{◌≢◌}
use mathlib.Core.Bool.{Bool, true, false, ◌&&◌, true≢false}
use native.Mathlib.Omega.{arith}
use lib.Dec.{ltb}
use borrow.Author.Tests.{ltb-true, ltb-false, eqb-true, lt-ltb, le-ltb, eq-eqb}
use Rattle.protocol_types.specs.Lists.{another, other}
use Rattle.protocol_types.specs.Board.{Fits, slot, line_of}
use Rattle.protocol.specs.Tables.{Tables, counter, block, mark, holds_at, holds, sharing, line_counter, marked}
use Rattle.protocol.specs.Rules.{owner, payer}
use Rattle.protocol_types.specs.declared.Setup.{Setup}
use Rattle.protocol_types.specs.declared.Block.{Block}
use Rattle.protocol_types.proofs.Laws.{Known, sure, not_so, known, both_true, and-true, first_holds, first-none, Another, another-true, true-another, other-found, other_none, other-some, Smallest, smallest-only, Argmin, none_pass, some-pass, argmin-is}
use Rattle.protocol_types.proofs.Board.{block-path, block-number, slot_of}

-- ---- a slot

pub holds_at-true : (t : Tables) (k : ℕ) (b : Block) → holds_at t k b ≡ true → (0 < counter t k) × (block t k ≡ b)
unfolding holds_at
holds_at-true t k b e = let e' = both_true _ _ e in (ltb-true _ _ e'.0, block-path (eqb-true _ _ e'.1))

pub true-holds_at : (t : Tables) (k : ℕ) (b : Block) → 0 < counter t k → block t k ≡ b → holds_at t k b ≡ true
unfolding holds_at
true-holds_at t k b h e = and-true (lt-ltb _ _ h) (eq-eqb _ _ (block-number e))

pub holds_at-false : (t : Tables) (k : ℕ) (b : Block) → holds_at t k b ≡ false → 0 < counter t k → block t k ≢ b
holds_at-false t k b e h p = true≢false (sym (true-holds_at t k b h p) ∙ e)

-- ---- a processor

pub holder-slot : (s : Setup) (t : Tables) (j : ℕ) (b : Block) → holds s t j b ≡ true → (0 < counter t (slot s j b)) × (block t (slot s j b) ≡ b)
unfolding holds
holder-slot s t j b e = holds_at-true t (slot s j b) b e

-- slot k, which holds b in its proper line, as a processor's
pub slot-holder : (s : Setup) (ok : Fits s) (t : Tables) (k : ℕ) (b : Block) → k % s.lines ≡ line_of s b → 0 < counter t k → block t k ≡ b
    → (slot s (k / s.lines) b ≡ k) × (holds s t (k / s.lines) b ≡ true)
unfolding holds
slot-holder s ok t k b pr l e = let g = slot_of s ok k b pr in (g, rw g (true-holds_at t k b l e))

-- ---- another holder

pub sharing-some : (s : Setup) (t : Tables) (i : ℕ) (b : Block) (j : ℕ) → j < s.processors → j ≢ i → holds s t j b ≡ true → sharing s t i b ≡ true
unfolding sharing
sharing-some s t i b j l d e = other-some s.processors i (λ j. holds s t j b) j l d e

pub sharing-found : (s : Setup) (t : Tables) (i : ℕ) (b : Block) → sharing s t i b ≡ true
    → (j : ℕ) × (j < s.processors) × Another i (λ j. holds s t j b) j
unfolding sharing
sharing-found s t i b e =
    let l = ltb-true _ _ e in
    (other s.processors i (λ j. holds s t j b), l, other-found s.processors i (λ j. holds s t j b) l)

pub sharing-none : (s : Setup) (t : Tables) (i : ℕ) (b : Block) → sharing s t i b ≡ false
    → (j : ℕ) → j < s.processors → j ≢ i → holds s t j b ≡ false
unfolding sharing
sharing-none s t i b e = other_none s.processors i (λ j. holds s t j b) (ltb-false _ _ e)

-- ---- the payer: another holder, of the smallest counter and the lowest of equals; or there is none

module _ (s : Setup) (t : Tables) (i : ℕ) (b : Block) where
  abbrev H : ℕ → Bool
  H j = holds s t j b

  -- what document 02, P5, says of a payer
  abbrev pub Payer : ℕ → Type 0
  Payer k = Smallest (another i H) (line_counter s t b) s.processors k

  payer-or-none : Argmin (another i H) (line_counter s t b) s.processors s.processors (payer s t i b)
  unfolding payer
  payer-or-none = argmin-is (another i H) (line_counter s t b) s.processors

  pub payer-smallest : sharing s t i b ≡ true → Payer (payer s t i b)
  payer-smallest e = go (payer s t i b) payer-or-none
    where
      go : (k : ℕ) → Argmin (another i H) (line_counter s t b) s.processors s.processors k → Payer k
      go k (none_pass _ f) =
          let a = sharing-found s t i b e in
          absurd (true≢false (sym (true-another i H a.0 a.2) ∙ f a.0 a.1))
      go k (some-pass a) = a

  -- and this says all: there is only one
  pub payer-only : (k : ℕ) → Payer k → k ≡ payer s t i b
  payer-only k a =
      let c = another-true i H k a.passes in
      smallest-only (another i H) (line_counter s t b) s.processors k (payer s t i b) a
      (payer-smallest (sharing-some s t i b k a.below c.differs c.passes))

  pub payer-below : sharing s t i b ≡ true → payer s t i b < s.processors
  payer-below e = (payer-smallest e).below

  pub payer-found : sharing s t i b ≡ true → Another i (λ j. holds s t j b) (payer s t i b)
  payer-found e = another-true i H (payer s t i b) (payer-smallest e).passes

  pub payer-none : sharing s t i b ≡ false → s.processors ≤ payer s t i b
  payer-none e = go (payer s t i b) payer-or-none
    where
      go : (k : ℕ) → Argmin (another i H) (line_counter s t b) s.processors s.processors k → s.processors ≤ k
      go k (none_pass p _) = omega arith
      go k (some-pass a) =
          let c = another-true i H k a.passes in
          absurd (true≢false (sym c.passes ∙ sharing-none s t i b e k a.below c.differs))

-- there is one exactly if another cache holds the block
pub payer-sharing : (s : Setup) (t : Tables) (i : ℕ) (b : Block) → ltb (payer s t i b) s.processors ≡ sharing s t i b
payer-sharing s t i b = go (known (sharing s t i b))
  where
    go : Known (sharing s t i b) → ltb (payer s t i b) s.processors ≡ sharing s t i b
    go (sure e) = lt-ltb _ _ (payer-below s t i b e) ∙ sym e
    go (not_so e) = le-ltb _ _ (payer-none s t i b e) ∙ sym e

-- ---- the owner: a holder that is marked, or there is none

pub owner-found : (s : Setup) (t : Tables) (b : Block) → owner s t b < s.processors
    → (holds s t (owner s t b) b ≡ true) × (mark t (slot s (owner s t b) b) ≡ 1)
unfolding owner marked
owner-found s t b h =
    let e = both_true _ _ (first_holds s.processors (λ j. holds s t j b && marked t (slot s j b)) h) in
    (e.0, eqb-true _ _ e.1)

pub owner-none : (s : Setup) (t : Tables) (b : Block) → s.processors ≤ owner s t b
    → (j : ℕ) → j < s.processors → holds s t j b ≡ true → mark t (slot s j b) ≢ 1
unfolding owner marked
owner-none s t b h j l e p =
    true≢false (sym (and-true e (eq-eqb _ _ p)) ∙ first-none s.processors (λ j. holds s t j b && marked t (slot s j b)) h j l)
