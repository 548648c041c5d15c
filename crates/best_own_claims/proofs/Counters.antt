-- The eight counters are those of the engine's tables, for each block held: each request keeps that.
use Prim.Native.Nat.{ℕ, ◌+◌, ◌-◌, ◌≤◌, ◌<◌}
use mathlib.Core.Path.{◌≡◌, refl, sym, ap, ◌∙◌}
use mathlib.Core.Logic.{◌≢◌}
use mathlib.Core.Bool.{true, cond}
use mathlib.Core.List.{List}
use native.Mathlib.Omega.{arith}
use lib.ListN.{length, set, length-set}
use borrow.Author.Tests.{le-ltb}
use Rattle.protocol_types.specs.Lists.{at, zeros}
use Rattle.protocol_types.specs.Board.{Fits, slots, slot, line_of, block_of, offset_of, fetch_price}
use Rattle.protocol_types.specs.Conditions.{Named}
use Rattle.protocol.specs.Tables.{Tables, fresh, counter, block, holds, sharing, Sized}
use Rattle.protocol.specs.Soundness.{Sound}
use Rattle.protocol.specs.Rules.{evicted, fetched, obtained, payer, written_alone, broadcast, charged, written, cleared}
use Rattle.protocol.specs.Requests.{served_by}
use Rattle.protocol.specs.Rival.{Rival}
use Rattle.competitive.specs.EngineSchedule.{SameCopies}
use Rattle.protocol_types.specs.declared.Setup.{Setup}
use Rattle.protocol_types.specs.declared.Block.{Block}
use Rattle.protocol_types.specs.declared.Operation.{Operation}
use Rattle.protocol_types.specs.declared.Operation.TheVariants.{Read, Write, Clear}
use Rattle.protocol_types.proofs.Laws.{Same, same, apart, same?, Known, sure, not_so, known, at_set_same, at_set_other, at-zeros}
use Rattle.protocol_types.proofs.Board.{block-number, slot_lt, slot-inj, line-lt, block-lt, offset-lt}
use Rattle.protocol.proofs.Slots.{refetched-counter-same, refetched-block-same, charged-counter-same, charged-counter, charged-block-same, charged-block, obtained-holds}
use Rattle.protocol.proofs.Holding.{holder-slot}
use Rattle.competitive.proofs.StepSound.{sound-obtained, shared-facts}
use Rattle.competitive.proofs.Clears.{cleared-zero}
use Rattle.best_positions.specs.Position.{block_no, number, asked_by}
use Rattle.best_positions.proofs.RivalSound.{RivalSound}
use Rattle.best_own.specs.Own.{counter_index, refilled, written_counters, read_counters, served_counters}
use Rattle.best_own_claims.proofs.Tables.{SameSlot, same-slot-on, same-holds_at, obtained-other, obtained-apart, cleared-apart, two-sharing, two-payer}
use Rattle.best_own_claims.proofs.Codes.{told, sharing-told, read_asked, write-asked}

-- c has the counter of each block held
pub record Counted (s : Setup) (t : Tables) (c : List ℕ) : Type 0 where
  pub eight : length c ≡ 8
  pub counters : (i b : ℕ) → i < 2 → b < s.blocks → holds s t i (block_no b) ≡ true → at c (counter_index i b) ≡ counter t (slot s i (block_no b))

-- a fresh engine holds nothing
pub counted-fresh : (s : Setup) → Counted s (fresh s) (zeros 8)
unfolding fresh
counted-fresh s =
    record { eight = refl; counters = λ i b hi hb h. absurd (omega (arith, (holder-slot s (fresh s) i (block_no b) h).0, at-zeros (slots s) (slot s i (block_no b)))) }

-- x is stored as the counter of processor i's line for block b, where that line then holds no other block
stored : (s : Setup) (ok : Fits s) (small : s.blocks ≤ 4) (t t' : Tables) (c : List ℕ) (i b x : ℕ) → i < 2 → b < s.blocks
    → counter t' (slot s i (block_no b)) ≡ x → (0 < counter t' (slot s i (block_no b)) → (block t' (slot s i (block_no b))).0 ≡ b)
    → ((m : ℕ) → m ≢ slot s i (block_no b) → SameSlot t t' m) → Counted s t c → Counted s t' (set c (counter_index i b) x)
unfolding holds
stored s ok small t t' c i b x hi hb is there others counted =
    record { eight = length-set c (counter_index i b) x ∙ counted.eight; counters = λ j e hj he h. go j e hj he h (same? (counter_index j e) (counter_index i b)) }
  where
    go : (j e : ℕ) → j < 2 → e < s.blocks → holds s t' j (block_no e) ≡ true → Same (counter_index j e) (counter_index i b)
        → at (set c (counter_index i b) x) (counter_index j e) ≡ counter t' (slot s j (block_no e))
    go j e hj he h (same p q) =
        let p₁ : j ≡ i = omega arith in
        let p₂ : e ≡ b = omega arith in
        rw (p₁, p₂) (at_set_same c (counter_index i b) x (omega (arith, counted.eight)) ∙ sym is)
    go j e hj he h (apart d q) = at_set_other c (counter_index i b) x (counter_index j e) d ∙ counted.counters j e hj he (sym (same-holds_at t t' (slot s j (block_no e)) (block_no e) kept) ∙ h) ∙ sym kept.counters
      where
        kept : SameSlot t t' (slot s j (block_no e))
        kept =
            others (slot s j (block_no e))
            (λ y.
            let z = holder-slot s t' j (block_no e) h in
            let p : (block t' (slot s j (block_no e))).0 ≡ b = rw (← y) at (there (rw y at z.0)) in
            d (omega (arith, slot-inj s ok j i (block_no e) (block_no b) y, p, block-number z.1)))

module _ (s : Setup) (ok : Fits s) (two : s.processors ≡ 2) (small : s.blocks ≤ 4) (t : Tables) (sd : Sound s t) (r : Rival) (rs : RivalSound s r)
    (m : SameCopies s t r) (n : ℕ) (c : List ℕ) (counted : Counted s t c) (i : ℕ) (hi : i < 2) where
  -- ---- a block is obtained

  module _ (b : ℕ) (hb : b < s.blocks) where
    abbrev B : Block
    B = block_no b

    abbrev k : ℕ
    k = slot s i B

    hk : k < slots s
    hk = slot_lt s ok i B (omega arith)

    read-counted : Counted s (obtained s t i B) (read_counters s (number s r n) c i b)
    unfolding read_counters refilled obtained
    read-counted = rw (told s ok two small t sd r rs m n i B hi (omega arith)) (go (known (holds s t i B)))
      where
        go : Known (holds s t i B) → Counted s (obtained s t i B) (cond (holds s t i B) c (set c (counter_index i b) (fetch_price s)))
        go (sure e) = rw e counted
        go (not_so e) =
            rw e
            (stored s ok small t (fetched s (evicted s t k) k B) c i b (fetch_price s) hi hb (refetched-counter-same s t sd.lengths k B hk)
            (λ h. refetched-block-same s t sd.lengths k B hk) (λ x d. rw e at (obtained-other s ok t sd.lengths i B (omega arith) x d)) counted)

    -- ---- and written

    abbrev t₁ : Tables
    t₁ = obtained s t i B

    sd₁ : Sound s t₁
    sd₁ = sound-obtained s ok t sd i B (omega arith) hb

    holds₁ : holds s t₁ i B ≡ true
    holds₁ = obtained-holds s ok t sd.lengths i B (omega arith)

    -- the writer's counter becomes full
    module _ (t₂ : Tables) (counters-are : t₂.counters ≡ set t₁.counters k (fetch_price s)) (blocks-are : t₂.blocks ≡ t₁.blocks) where
      written-other : (x : ℕ) → x ≢ k → SameSlot t t₂ x
      written-other x d =
          same-slot-on (obtained-other s ok t sd.lengths i B (omega arith) x d)
          (record { counters = ap (λ l. at l x) counters-are ∙ at_set_other t₁.counters k (fetch_price s) x d; blocks = ap (λ l. at l x) blocks-are })

      full-counted : Counted s t₂ (refilled s c i b)
      unfolding refilled
      full-counted =
          stored s ok small t t₂ c i b (fetch_price s) hi hb
          (ap (λ l. at l k) counters-are ∙ at_set_same t₁.counters k (fetch_price s) (omega (arith, sd₁.lengths.counters, hk)))
          (λ h. ap (λ l. at l k) blocks-are ∙ block-number (holder-slot s t₁ i B holds₁).1) written-other counted

    abbrev j : ℕ
    j = 1 - i

    -- the other processor's line, and its copy where it shares
    other-slot : slot s j B ≢ k
    other-slot e = omega (arith, slot-inj s ok j i B B e)

    shared-there : sharing s t₁ i B ≡ true → holds s t j B ≡ true
    unfolding holds
    shared-there e =
        sym (two-sharing s two t₁ i B hi ∙ same-holds_at t t₁ (slot s j B) B (obtained-apart s ok t sd.lengths i B (omega arith) j B (omega arith))) ∙ e

    -- the payer's falls by 1
    shared-counted : (o x : ℕ) → o < s.words → sharing s t₁ i B ≡ true
        → Counted s (charged s (broadcast s t₁ k B o x) (slot s j B)) (set (refilled s c i b) (counter_index j b) (at c (counter_index j b) - 1))
    unfolding broadcast
    shared-counted o x ho e =
        stored s ok small t₂ (charged s t₂ (slot s j B)) (refilled s c i b) j b (at c (counter_index j b) - 1) (omega arith) hb
        (charged-counter-same s t₂ z₂ (slot s j B) hj ∙ ap (λ y. y - 1) (here.counters ∙ sym (counted.counters j b (omega arith) hb (shared-there e))))
        (λ h.
        charged-block-same s t₂ z₂ (slot s j B) hj (omega (arith, h, charged-counter-same s t₂ z₂ (slot s j B) hj)) ∙ here.blocks
        ∙ block-number (holder-slot s t j B (shared-there e)).1)
        (λ y d. record { counters = charged-counter s t₂ z₂ (slot s j B) hj y d; blocks = charged-block s t₂ z₂ (slot s j B) hj y d })
        (full-counted t₂ refl refl)
      where
        t₂ : Tables
        t₂ = broadcast s t₁ k B o x

        z₂ : Sized s t₂
        z₂ = (shared-facts s ok t₁ sd₁ i B (omega arith) o x ho holds₁ e).sound.lengths

        hj : slot s j B < slots s
        hj = slot_lt s ok j B (omega arith)

        here : SameSlot t t₂ (slot s j B)
        here = written-other t₂ refl refl (slot s j B) other-slot

    write-counted : (o x : ℕ) → o < s.words → Counted s (written s t₁ i B o x) (written_counters s (number s r n) c i b)
    unfolding written written_counters written_alone
    write-counted o x ho = rw (← sharing-told s ok two small t sd r rs m n i hi B hb) (go (known (sharing s t₁ i B)))
      where
        go : Known (sharing s t₁ i B)
            → Counted s (cond (sharing s t₁ i B) (charged s (broadcast s t₁ k B o x) (slot s (payer s t₁ i B) B)) (written_alone s t₁ k o x))
            (cond (sharing s t₁ i B) (set (refilled s c i b) (counter_index j b) (at c (counter_index j b) - 1)) (refilled s c i b))
        go (sure e) = rw (e, two-payer s two t₁ i B hi e) (shared-counted o x ho e)
        go (not_so e) = rw e (full-counted (written_alone s t₁ k o x) refl refl)

  -- ---- a cache is cleared

  clear-counted : Counted s (cleared s t i s.lines) c
  unfolding holds slot
  clear-counted = record { eight = counted.eight; counters = λ j b hj hb h. go j b hj hb h (same? j i) }
    where
      t' : Tables
      t' = cleared s t i s.lines

      go : (j b : ℕ) → j < 2 → b < s.blocks → holds s t' j (block_no b) ≡ true → Same j i → at c (counter_index j b) ≡ counter t' (slot s j (block_no b))
      go j b hj hb h (same p q) =
          let z : counter t' (slot s j (block_no b)) ≡ 0 = rw p (cleared-zero s t i s.lines (line_of s (block_no b)) (line-lt s ok (block_no b))) in
          absurd (omega (arith, z, (holder-slot s t' j (block_no b) h).0))
      go j b hj hb h (apart d q) =
          let e = (cleared-apart s ok t i j (block_no b) d).slots in
          counted.counters j b hj hb (sym (same-holds_at t t' (slot s j (block_no b)) (block_no b) e) ∙ h) ∙ sym e.counters

  -- ---- the request

  pub served-counted : (o : Operation) → Named s o → Counted s (served_by s t i o) (served_counters s (number s r n) c (asked_by s i o))
  unfolding served_counters
  served-counted (Read v) h =
      let hb : (block_of s v).0 < s.blocks = block-lt s ok v h in
      let a = read_asked i (block_of s v).0 hi (omega arith) in
      rw (a.low, a.processor, a.block, a.written) (read-counted (block_of s v).0 hb)
  served-counted (Write v x) h =
      let hb : (block_of s v).0 < s.blocks = block-lt s ok v h in
      let a = write-asked i (block_of s v).0 hi (omega arith) in
      rw (a.low, a.processor, a.block, a.written) (write-counted (block_of s v).0 hb (offset_of s v) x (offset-lt s ok v))
  served-counted Clear h = rw (le-ltb (16 + i) 16 (omega arith)) clear-counted
