-- What each part of a rule does to the masks of tables: a line emptied, fetched into, refilled or charged. From the law of one slot (Slots).
-- Assumes nothing.
use Prim.Native.Nat.{ℕ, ◌+◌, ◌-◌, ◌*◌, ◌<◌}
use mathlib.Core.Path.{◌≡◌, refl, sym, ap, ◌∙◌}
use mathlib.Core.Logic.{◌≢◌}
use mathlib.Core.Bool.{false, and-false}
use native.Mathlib.Omega.{arith}
use lib.ListN.{set}
use lib.Dec.{eqb}
use borrow.Author.Tests.{lt-ltb, eqb-true, eqb-false, ne_eqb}
use Rattle.protocol_types.specs.Board.{Fits, slots, line_slot, slot, line_of}
use Rattle.protocol.specs.Tables.{Tables, Sized, counter, block, holds_at}
use Rattle.protocol.specs.Masks.{masks_of}
use Rattle.protocol.specs.Rules.{evicted, fetched, charged}
use Rattle.protocol_types.specs.declared.Setup.{Setup}
use Rattle.protocol_types.specs.declared.Block.{Block}
use Rattle.protocol_types.proofs.Laws.{choice, at_set, at_set_other}
use Rattle.protocol_types.proofs.Board.{block-path, row-mod, line_slot-lt, line-lt}
use Rattle.protocol.proofs.Holding.{true-holds_at}
use Rattle.protocol.proofs.Slots.{evicted-counter, evicted-block, evicted-zero, refetched-counter-same, refetched-block-same, refetched-counter, refetched-block, charged-counter-same, charged-counter, charged-block}
use Rattle.engine_masks.specs.Copies.{gained, lost, lost_at, Proper, StandsAt}
use Rattle.engine_masks.proofs.Slots.{Elsewhere, masks-stay, masks-gain, masks-lose}

-- ---- what a slot does not hold

none-empty : (t : Tables) (k : ℕ) (c : Block) → counter t k ≡ 0 → holds_at t k c ≡ false
unfolding holds_at
none-empty t k c e = rw e

none_other : (t : Tables) (k : ℕ) (c : Block) → c ≢ block t k → holds_at t k c ≡ false
unfolding holds_at
none_other t k c d = simp (ne_eqb (block t k).0 c.0 (λ z. d (sym (block-path z))), and-false)

-- a block in its proper line stands at its own slot
pub stands : (s : Setup) (ok : Fits s) (t : Tables) → Proper s t → (i l : ℕ) → i < s.processors → l < s.lines → StandsAt s t i (line_slot s i l)
unfolding slot
stands s ok t h i l hi hl p = ap (λ x. i * s.lines + x) (sym (h (line_slot s i l) (line_slot-lt s ok i l hi hl) p) ∙ row-mod i s.lines l hl)

pub stands-for : (s : Setup) (ok : Fits s) (t : Tables) → Proper s t → (i : ℕ) (b : Block) → i < s.processors → StandsAt s t i (slot s i b)
unfolding slot
stands-for s ok t h i b hi = stands s ok t h i (line_of s b) hi (line-lt s ok b)

module _ (s : Setup) (ok : Fits s) (t : Tables) where
  -- ---- the block in the way leaves

  away : (k : ℕ) → Elsewhere t (evicted s t k) k
  away k = record { counters = evicted-counter s t k; blocks = evicted-block s t k }

  none_left : (k : ℕ) (c : Block) → holds_at (evicted s t k) k c ≡ false
  none_left k c = none-empty (evicted s t k) k c (evicted-zero s t k)

  pub masks-evicted : (i k : ℕ) → StandsAt s t i k → (block t k).0 < s.blocks → lost_at t (masks_of s t) i k ≡ masks_of s (evicted s t k)
  unfolding lost_at
  masks-evicted i k e hb =
      choice (λ x. x ≡ masks_of s (evicted s t k)) (eqb (counter t k) 0)
      (λ q. sym (masks-stay s ok t (evicted s t k) k (away k) (λ c. none_left k c ∙ sym (none-empty t k c (eqb-true _ _ q)))))
      (λ q. let h : 0 < counter t k = omega (arith, eqb-false (counter t k) 0 q) in
      masks-lose s ok t (evicted s t k) k (away k) i (block t k) (sym (e h)) hb (λ c d. none_left k c ∙ sym (none_other t k c d)) (none_left k (block t k)))

  -- ---- a block is fetched into the slot that was emptied

  module _ (z : Sized s t) (i : ℕ) (b : Block) (k : ℕ) (is-k : k ≡ slot s i b) (hk : k < slots s) (hb : b.0 < s.blocks) (hi : i < s.processors) where
    abbrev t' : Tables
    t' = fetched s (evicted s t k) k b

    pub masks-fetched : gained (masks_of s (evicted s t k)) b i ≡ masks_of s t'
    masks-fetched =
        masks-gain s ok (evicted s t k) t' k
        (record {
          counters = λ m d. refetched-counter s t z k b hk m d ∙ sym (evicted-counter s t k m d);
          blocks = λ m d. refetched-block s t z k b hk m d ∙ sym (evicted-block s t k m d);
        })
        i b is-k hb (λ c d. none_other t' k c (λ (y : c ≡ block t' k). d (y ∙ here)) ∙ sym (none_left k c)) hi
        (true-holds_at t' k b (omega (arith, refetched-counter-same s t z k b hk, ok.some-fetch)) here)
      where
        here : block t' k ≡ b
        here = block-path (refetched-block-same s t z k b hk)

  -- ---- the counter of a copy changes, and the copy stays

  pub masks-recounted : (t' : Tables) (k x : ℕ) → t'.blocks ≡ t.blocks → t'.counters ≡ set t.counters k x → 0 < x → 0 < counter t k → masks_of s t' ≡ masks_of s t
  unfolding holds_at
  masks-recounted t' k x eb ec hx h =
      masks-stay s ok t t' k
      (record {
        counters = λ m d. rw ec (at_set_other t.counters k x m d);
        blocks = λ m d. rw eb;
      })
      (λ c. rw (eb, ec, lt-ltb 0 (counter t k) h, lt-ltb 0 _ (at_set (λ y. 0 < y) t.counters k x k hx h)))

  -- ---- the payer, processor j with block b at slot k, is charged

  module _ (z : Sized s t) (k : ℕ) (hk : k < slots s) where
    pub masks-charged : 0 < counter t k → counter t k ≢ 1 → masks_of s (charged s t k) ≡ masks_of s t
    unfolding charged
    masks-charged h d =
        choice (λ x. masks_of s x ≡ masks_of s t) (eqb (counter t k) 1)
        (λ e. absurd (d (eqb-true _ _ e)))
        (λ e. masks-recounted _ k (counter t k - 1) refl refl (omega arith) h)

    pub masks-charged-empty : (j : ℕ) (b : Block) → k ≡ slot s j b → b.0 < s.blocks → block t k ≡ b → counter t k ≡ 1
        → lost (masks_of s t) b j ≡ masks_of s (charged s t k)
    masks-charged-empty j b is-k hb here e =
        masks-lose s ok t (charged s t k) k
        (record { counters = charged-counter s t z k hk; blocks = charged-block s t z k hk })
        j b is-k hb (λ c d. gone c ∙ sym (none_other t k c (λ (y : c ≡ block t k). d (y ∙ here)))) (gone b)
      where
        gone : (c : Block) → holds_at (charged s t k) k c ≡ false
        gone c = none-empty (charged s t k) k c (charged-counter-same s t z k hk ∙ omega arith)
