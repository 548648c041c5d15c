-- Laws of the engine's tables for two processors: what a request leaves of the other slots, and who shares and pays.
use Prim.Native.Nat.{ℕ, zero, suc, ◌-◌, ◌<◌}
use mathlib.Core.Path.{◌≡◌, refl, sym, ◌∙◌}
use mathlib.Core.Logic.{◌≢◌}
use mathlib.Core.Bool.{true, true≢false}
use native.Mathlib.Omega.{arith}
use Rattle.protocol_types.specs.Board.{Fits, line_slot, slot, line_of}
use Rattle.protocol.specs.Tables.{Tables, counter, block, mark, holds_at, holds, sharing, marked, Sized}
use Rattle.protocol.specs.Rules.{written_back, emptied, saved, evicted, obtained, payer, cleared}
use Rattle.protocol_types.specs.declared.Setup.{Setup}
use Rattle.protocol_types.specs.declared.Block.{Block}
use Rattle.protocol_types.proofs.Laws.{Known, sure, not_so, known, choice, at_set_other}
use Rattle.protocol_types.proofs.Board.{row-inj, slot_lt, slot-inj, line-lt}
use Rattle.protocol.proofs.Slots.{evicted-counter, evicted-block, refetched-counter, refetched-block}
use Rattle.protocol.proofs.Holding.{sharing-some, sharing-found, payer-below, payer-found}

-- slot m has the same counter and block number
pub record SameSlot (t t' : Tables) (m : ℕ) : Type 0 where
  pub counters : counter t' m ≡ counter t m
  pub blocks : (block t' m).0 ≡ (block t m).0

pub same-slot : {t : Tables} {m : ℕ} → SameSlot t t m
same-slot = record { counters = refl; blocks = refl }

pub same-slot-on : {t t' t'' : Tables} {m : ℕ} → SameSlot t t' m → SameSlot t' t'' m → SameSlot t t'' m
same-slot-on a b = record { counters = b.counters ∙ a.counters; blocks = b.blocks ∙ a.blocks }

pub same-holds_at : (t t' : Tables) (m : ℕ) (b : Block) → SameSlot t t' m → holds_at t' m b ≡ holds_at t m b
unfolding holds_at
same-holds_at t t' m b e = rw (e.counters, e.blocks)

-- ---- a block obtained

module _ (s : Setup) (ok : Fits s) (t : Tables) (z : Sized s t) (i : ℕ) (b : Block) (hi : i < s.processors) where
  pub obtained-other : (m : ℕ) → m ≢ slot s i b → SameSlot t (obtained s t i b) m
  unfolding obtained
  obtained-other m d =
      choice (λ x. SameSlot t x m) (holds s t i b) (λ e. same-slot)
      (λ e. record {
        counters = refetched-counter s t z (slot s i b) b (slot_lt s ok i b hi) m d;
        blocks = refetched-block s t z (slot s i b) b (slot_lt s ok i b hi) m d;
      })

  -- another processor's copies stay
  pub obtained-apart : (j : ℕ) (c : Block) → j ≢ i → SameSlot t (obtained s t i b) (slot s j c)
  obtained-apart j c d = obtained-other (slot s j c) (λ e. d (slot-inj s ok j i c b e))

-- ---- a cache cleared

-- slot m has the same mark too
pub record SameLine (t t' : Tables) (m : ℕ) : Type 0 where
  pub slots : SameSlot t t' m
  pub marks : mark t' m ≡ mark t m

evicted-line : (s : Setup) (t : Tables) (k m : ℕ) → m ≢ k → SameLine t (evicted s t k) m
unfolding evicted emptied saved written_back
evicted-line s t k m d =
    record {
      slots = record { counters = evicted-counter s t k m d; blocks = evicted-block s t k m d };
      marks = at_set_other (saved s t k).marks k 0 m d ∙ choice (λ (x : Tables). mark x m ≡ mark t m) (marked t k) (λ e. at_set_other t.marks k 0 m d) (λ e. refl);
    }

-- a slot that is none of the first n lines of processor i
pub cleared-other : (s : Setup) (t : Tables) (i m n : ℕ) → ((l : ℕ) → l < n → m ≢ line_slot s i l) → SameLine t (cleared s t i n) m
cleared-other s t i m zero d = record { slots = same-slot; marks = refl }
cleared-other s t i m (suc n) d =
    let a = cleared-other s t i m n (λ l h. d l (omega arith)) in
    let e = evicted-line s (cleared s t i n) (line_slot s i n) m (d n (omega arith)) in
    record { slots = same-slot-on a.slots e.slots; marks = e.marks ∙ a.marks }

-- a later line of that processor, and the copies of another one
pub cleared-later : (s : Setup) (t : Tables) (i n : ℕ) → n < s.lines → SameLine t (cleared s t i n) (line_slot s i n)
cleared-later s t i n h = cleared-other s t i (line_slot s i n) n (λ l u e. let z = row-inj i i s.lines n l h (omega arith) e in absurd (omega (arith, z.1)))

pub cleared-apart : (s : Setup) → Fits s → (t : Tables) (i j : ℕ) (b : Block) → j ≢ i → SameLine t (cleared s t i s.lines) (slot s j b)
unfolding slot
cleared-apart s ok t i j b d = cleared-other s t i (slot s j b) s.lines (λ l u e. d (row-inj j i s.lines (line_of s b) l (line-lt s ok b) u e).0)

-- ---- two processors

module _ (s : Setup) (two : s.processors ≡ 2) (t : Tables) (i : ℕ) (b : Block) (hi : i < 2) where
  -- only the other one can share
  pub two-sharing : sharing s t i b ≡ holds s t (1 - i) b
  two-sharing = go (known (holds s t (1 - i) b)) (known (sharing s t i b))
    where
      go : Known (holds s t (1 - i) b) → Known (sharing s t i b) → sharing s t i b ≡ holds s t (1 - i) b
      go (sure e) k = sharing-some s t i b (1 - i) (omega arith) (omega arith) e ∙ sym e
      go (not_so e) (sure f) =
          let a = sharing-found s t i b f in
          let p : a.0 ≡ 1 - i = omega (arith, a.1, a.2.differs) in
          absurd (true≢false (sym (rw p at a.2.passes) ∙ e))
      go (not_so e) (not_so f) = f ∙ sym e

  -- and so it pays
  pub two-payer : sharing s t i b ≡ true → payer s t i b ≡ 1 - i
  two-payer e = omega (arith, payer-below s t i b e, (payer-found s t i b e).differs)
