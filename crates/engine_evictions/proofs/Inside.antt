-- Tables that name no block outside main memory do so again after a line was emptied: only 0 is stored.
use Prim.Native.Nat.{ℕ, zero, suc, ◌<◌}
use Rattle.protocol_types.specs.Board.{Fits, line_slot}
use Rattle.protocol.specs.Tables.{Tables, block, marked}
use Rattle.protocol.specs.Rules.{written_back, emptied, saved, evicted, cleared}
use Rattle.protocol_types.specs.declared.Setup.{Setup}
use Rattle.protocol_types.proofs.Laws.{choice, at_set}

abbrev pub Inside : Setup → Tables → Type 0
Inside s t = (k : ℕ) → (block t k).0 < s.blocks

module _ (s : Setup) (f : Fits s) where
  inside-saved : (t : Tables) (k : ℕ) → Inside s t → Inside s (saved s t k)
  unfolding saved written_back
  inside-saved t k h = choice (Inside s) (marked t k) (λ e. h) (λ e. h)

  pub inside-emptied : (t : Tables) (k : ℕ) → Inside s t → Inside s (emptied s t k)
  unfolding emptied
  inside-emptied t k h j = at_set (λ x. x < s.blocks) t.blocks k 0 j f.some_block (h j)

  pub inside-evicted : (t : Tables) (k : ℕ) → Inside s t → Inside s (evicted s t k)
  unfolding evicted
  inside-evicted t k h = inside-emptied (saved s t k) k (inside-saved t k h)

  pub inside-cleared : (t : Tables) (i n : ℕ) → Inside s t → Inside s (cleared s t i n)
  inside-cleared t i zero h = h
  inside-cleared t i (suc n) h = inside-evicted (cleared s t i n) (line_slot s i n) (inside-cleared t i n h)
