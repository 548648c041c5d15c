-- Where one slot changes, held blocks stay in their proper lines if the block of that slot does.
-- Assumes nothing.
use Prim.Native.Nat.{ℕ, zero, suc, ◌-◌, ◌%◌, ◌<◌}
use mathlib.Core.Path.{◌≡◌, refl, sym, ap, ◌∙◌}
use mathlib.Core.Bool.{true}
use native.Mathlib.Omega.{arith}
use lib.ListN.{set}
use Rattle.protocol_types.specs.Board.{Fits, slots, line_slot, slot, line_of, fetch_price}
use Rattle.protocol.specs.Tables.{Tables, Sized, counter, block, holds, sharing}
use Rattle.protocol.specs.Rules.{evicted, fetched, obtained, payer, written_alone, broadcast, charged, written, cleared}
use Rattle.protocol_types.specs.declared.Setup.{Setup}
use Rattle.protocol_types.specs.declared.Block.{Block}
use Rattle.protocol_types.proofs.Laws.{Same, same, apart, same?, choice, at_set_other}
use Rattle.protocol_types.proofs.Board.{block-path, slot_lt, slot-proper}
use Rattle.protocol.proofs.Holding.{holder-slot, payer-below}
use Rattle.protocol.proofs.Slots.{evicted-counter, evicted-block, evicted-zero, refetched-block-same, refetched-counter, refetched-block, charged-counter, charged-block, charged-block-same, charged-counter-same}
use Rattle.protocol.proofs.Lengths.{sized-broadcast}
use Rattle.engine_masks.specs.Copies.{Proper}
use Rattle.engine_masks.proofs.Slots.{Elsewhere}

-- slot k of t, if it is held
abbrev ProperAt : Setup → Tables → ℕ → Type 0
ProperAt s t k = 0 < counter t k → k % s.lines ≡ line_of s (block t k)

proper-slot : (s : Setup) (t t' : Tables) (k : ℕ) → Elsewhere t t' k → Proper s t → ProperAt s t' k → Proper s t'
proper-slot s t t' k e h here m u l = go (same? m k)
  where
    go : Same m k → m % s.lines ≡ line_of s (block t' m)
    go (same p q) = rw p (here (rw p at l))
    go (apart p q) = h m u (rw (e.counters m p) at l) ∙ ap (line_of s) (sym (block-path (e.blocks m p)))

module _ (s : Setup) (ok : Fits s) where
  pub proper-evicted : (t : Tables) (k : ℕ) → Proper s t → Proper s (evicted s t k)
  proper-evicted t k h =
      proper-slot s t (evicted s t k) k (record { counters = evicted-counter s t k; blocks = evicted-block s t k }) h
      (λ l. absurd (omega (arith, evicted-zero s t k, l)))

  pub proper-cleared : (t : Tables) (i n : ℕ) → Proper s t → Proper s (cleared s t i n)
  proper-cleared t i zero h = h
  proper-cleared t i (suc n) h = proper-evicted (cleared s t i n) (line_slot s i n) (proper-cleared t i n h)

  module _ (t : Tables) (z : Sized s t) (h : Proper s t) (i : ℕ) (b : Block) (hi : i < s.processors) where
    abbrev k : ℕ
    k = slot s i b

    hk : k < slots s
    hk = slot_lt s ok i b hi

    pub proper-obtained : Proper s (obtained s t i b)
    unfolding obtained
    proper-obtained =
        choice (Proper s) (holds s t i b) (λ e. h)
        (λ e. proper-slot s t (fetched s (evicted s t k) k b) k (record { counters = refetched-counter s t z k b hk; blocks = refetched-block s t z k b hk }) h
        (λ l. slot-proper s ok i b ∙ ap (line_of s) (sym (block-path (refetched-block-same s t z k b hk)))))

    -- the counter of its copy changes
    proper-recounted : (t' : Tables) (x : ℕ) → holds s t i b ≡ true → t'.blocks ≡ t.blocks → t'.counters ≡ set t.counters k x → Proper s t'
    proper-recounted t' x e eb ec =
        proper-slot s t t' k (record { counters = λ m d. rw ec (at_set_other t.counters k x m d); blocks = λ m d. rw eb }) h
        (λ l. rw eb (h k hk (holder-slot s t i b e).0))

    pub proper-charged : Proper s (charged s t k)
    proper-charged =
        proper-slot s t (charged s t k) k (record { counters = charged-counter s t z k hk; blocks = charged-block s t z k hk }) h
        (λ l. let u : 0 < counter t k - 1 = rw (charged-counter-same s t z k hk) at l in
        h k hk (omega arith) ∙ ap (line_of s) (sym (block-path (charged-block-same s t z k hk u))))

  -- a holder writes
  pub proper-written : (t : Tables) → Sized s t → Proper s t → (i : ℕ) (b : Block) (o x : ℕ) → i < s.processors → holds s t i b ≡ true → Proper s (written s t i b o x)
  unfolding written broadcast written_alone
  proper-written t z h i b o x hi e =
      choice (Proper s) (sharing s t i b)
      (λ q. proper-charged (broadcast s t (slot s i b) b o x) (sized-broadcast s t z (slot s i b) b o x)
      (proper-recounted t z h i b hi (broadcast s t (slot s i b) b o x) (fetch_price s) e refl refl) (payer s t i b) b (payer-below s t i b q))
      (λ q. proper-recounted t z h i b hi (written_alone s t (slot s i b) o x) (fetch_price s) e refl refl)
