-- A step keeps the tables sound, and leaves the requesting processor with the block.
use Prim.Native.Nat.{ℕ, zero, suc, ◌/◌, ◌%◌, ◌≤◌, ◌<◌}
use mathlib.Core.Path.{◌≡◌, sym, ap, ◌∙◌}
use mathlib.Core.Logic.{◌≢◌}
use mathlib.Core.Bool.{true, false, true≢false}
use native.Mathlib.Omega.{arith}
use native.Mathlib.Nat.{le_refl}
use lib.ListN.{set}
use lib.Dec.{ltb}
use borrow.Author.Tests.{ltb-true, ltb-false, eqb-true}
use Rattle.protocol_types.specs.Lists.{at}
use Rattle.protocol_types.specs.Board.{Fits, slots, line_slot, slot, line_of, block_of, offset_of, fetch_price}
use Rattle.protocol.specs.Tables.{Tables, counter, block, mark, holds, sharing, marked}
use Rattle.protocol.specs.Soundness.{Sound}
use Rattle.protocol.specs.Rules.{written_back, saved, evicted, owner, released, fetched, obtained, payer, broadcast, charged, written, cleared}
use Rattle.protocol_types.specs.Conditions.{Named, Valid}
use Rattle.protocol.specs.Requests.{served_by, served}
use Rattle.protocol_types.specs.declared.Setup.{Setup}
use Rattle.protocol_types.specs.declared.Block.{Block}
use Rattle.protocol_types.specs.declared.Request.{Request}
use Rattle.protocol_types.specs.declared.Operation.{Operation}
use Rattle.protocol_types.specs.declared.Operation.TheVariants.{Read, Write, Clear}
use Rattle.protocol_types.proofs.Laws.{Same, same, apart, same?, choice, at_set_other}
use Rattle.protocol_types.proofs.Board.{block-number, line_slot-lt, slot_lt, slot-inj, offset-lt, block-lt, processor-lt, slot-proper}
use Rattle.protocol.proofs.Holding.{holder-slot, slot-holder, sharing-none, payer-below, payer-found, owner-found, owner-none}
use Rattle.protocol.proofs.Lengths.{mark-stored}
use Rattle.protocol.proofs.Slots.{obtained-holds}
use Rattle.competitive.proofs.Sound.{sound-written_back, sound-emptied, sound-filled, sound-written_alone, sound-broadcast, sound-charged}

module _ (s : Setup) (ok : Fits s) (t : Tables) (sd : Sound s t) where
  pub sound-saved : (k : ℕ) → k < slots s → Sound s (saved s t k)
  unfolding saved marked
  sound-saved k h = choice (Sound s) (marked t k) (λ e. sound-written_back s ok t sd k h (eqb-true _ _ e)) (λ e. sd)

  pub sound-evicted : (k : ℕ) → k < slots s → Sound s (evicted s t k)
  unfolding evicted
  sound-evicted k h = sound-emptied s ok (saved s t k) (sound-saved k h) k h

  pub sound-released : (b : Block) → Sound s (released s t b)
  unfolding released
  sound-released b =
      choice (Sound s) (ltb (owner s t b) s.processors)
      (λ e. let l = ltb-true _ _ e in sound-written_back s ok t sd (slot s (owner s t b) b) (slot_lt s ok (owner s t b) b l) (owner-found s t b l).1) (λ e. sd)

  -- a marked slot holds its block
  pub marked-holds : (m : ℕ) → m < slots s → mark t m ≡ 1 → 0 < counter t m
  marked-holds m h e = omega (arith, (sd.line m h).full e, ok.some-fetch)

  -- slot m, which holds b, as a processor's
  pub placed : (m : ℕ) → m < slots s → 0 < counter t m → (b : Block) → block t m ≡ b → (slot s (m / s.lines) b ≡ m) × (holds s t (m / s.lines) b ≡ true)
  placed m h l b e = slot-holder s ok t m b ((sd.line m h).proper l ∙ ap (line_of s) e) l e

  pub released-unmarked : (b : Block) (m : ℕ) → m < slots s → mark (released s t b) m ≡ 1 → block (released s t b) m ≢ b
  unfolding released written_back
  released-unmarked b m h =
      choice (λ z. mark z m ≡ 1 → block z m ≢ b) (ltb (owner s t b) s.processors) (λ e. found (ltb-true _ _ e)) (λ e. none (ltb-false _ _ e))
    where
      found : owner s t b < s.processors → mark (written_back s t (slot s (owner s t b) b)) m ≡ 1 → block (written_back s t (slot s (owner s t b) b)) m ≢ b
      found l e p = go (same? m k)
        where
          k : ℕ
          k = slot s (owner s t b) b

          hk : k < slots s
          hk = slot_lt s ok (owner s t b) b l

          go : Same m k → ⊥
          go (same c q) = omega (arith, e, ap (at (set t.marks k 0)) c, mark-stored s t sd.lengths k 0 hk)
          go (apart c q) =
              let e' : mark t m ≡ 1 = sym (at_set_other t.marks k 0 m c) ∙ e in
              sd.lone k m hk h (owner-found s t b l).1 c (marked-holds m h e') (p ∙ sym (holder-slot s t (owner s t b) b (owner-found s t b l).0).1)

      none : s.processors ≤ owner s t b → mark t m ≡ 1 → block t m ≢ b
      none l e p =
          let g = placed m h (marked-holds m h e) b p in
          owner-none s t b l (m / s.lines) (processor-lt s ok m h) g.1 (rw g.0 e)

pub sound-fetched : (s : Setup) (ok : Fits s) (t : Tables) (sd : Sound s t) (k : ℕ) (b : Block) → k < slots s → b.0 < s.blocks → k % s.lines ≡ line_of s b
    → Sound s (fetched s t k b)
unfolding fetched
sound-fetched s ok t sd k b h hb pr = sound-filled s ok (released s t b) (sound-released s ok t sd b) k b h hb pr (λ m u e. released-unmarked s ok t sd b m u e)

-- sound tables with an unmarked copy in slot k
pub record Broadcasted (s : Setup) (t : Tables) (k : ℕ) : Type 0 where
  pub sound : Sound s t
  pub slot : k < slots s
  pub holds : 0 < counter t k
  pub clean : mark t k ≢ 1

module _ (s : Setup) (ok : Fits s) (t : Tables) (sd : Sound s t) (i : ℕ) (b : Block) (hi : i < s.processors) where
  pub sound-obtained : b.0 < s.blocks → Sound s (obtained s t i b)
  unfolding obtained
  sound-obtained hb =
      let k = slot s i b in
      let hk = slot_lt s ok i b hi in
      choice (Sound s) (holds s t i b) (λ e. sd)
      (λ e. sound-fetched s ok (evicted s t k) (sound-evicted s ok t sd k hk) k b hk hb (slot-proper s ok i b))

  -- two holders: no copy is marked
  pub shared-unmarked : (j : ℕ) → j < s.processors → j ≢ i → holds s t i b ≡ true → holds s t j b ≡ true
      → (m : ℕ) → m < slots s → 0 < counter t m → block t m ≡ b → mark t m ≢ 1
  shared-unmarked j hj d e g m h l p q = go (same? m (slot s i b))
    where
      go : Same m (slot s i b) → ⊥
      go (same c y) =
          sd.lone m (slot s j b) h (slot_lt s ok j b hj) q (λ x. d (slot-inj s ok j i b b (x ∙ c))) (holder-slot s t j b g).0
          ((holder-slot s t j b g).1 ∙ sym p)
      go (apart c y) =
          sd.lone m (slot s i b) h (slot_lt s ok i b hi) q (λ x. c (sym x)) (holder-slot s t i b e).0 ((holder-slot s t i b e).1 ∙ sym p)

  -- no other holder: no other slot has the block
  pub alone-slots : sharing s t i b ≡ false → (m : ℕ) → m < slots s → m ≢ slot s i b → 0 < counter t m → block t m ≢ b
  alone-slots n m h d l p =
      let g = placed s ok t sd m h l b p in
      true≢false (sym g.1 ∙ sharing-none s t i b n (m / s.lines) (processor-lt s ok m h) (λ e. d (sym g.0 ∙ ap (λ z. slot s z b) e)))

  module _ (o x : ℕ) (ho : o < s.words) (e : holds s t i b ≡ true) where
    -- the broadcast and the payer's slot then
    pub shared-facts : sharing s t i b ≡ true → Broadcasted s (broadcast s t (slot s i b) b o x) (slot s (payer s t i b) b)
    unfolding broadcast
    shared-facts c =
        let l = payer-below s t i b c in
        let k = slot s i b in
        let a = payer-found s t i b c in
        let j = payer s t i b in
        let kj = slot s j b in
        let hk = slot_lt s ok i b hi in
        let hkj = slot_lt s ok j b l in
        let un = shared-unmarked j l a.differs e a.passes in
        let hs = holder-slot s t i b e in
        let hj = holder-slot s t j b a.passes in
        let d : kj ≢ k = λ y. a.differs (slot-inj s ok j i b b y) in
        record {
          sound = sound-broadcast s ok t sd k b o x hk hs.0 hs.1 ho un;
          slot = hkj;
          holds = rw (at_set_other t.counters k (fetch_price s) kj d) hj.0;
          clean = un kj hkj hj.0 hj.1;
        }

    pub sound-shared : sharing s t i b ≡ true → Sound s (charged s (broadcast s t (slot s i b) b o x) (slot s (payer s t i b) b))
    sound-shared l =
        let w = shared-facts l in
        sound-charged s ok (broadcast s t (slot s i b) b o x) w.sound (slot s (payer s t i b) b) w.slot w.holds w.clean

    pub sound-written : Sound s (written s t i b o x)
    unfolding written
    sound-written =
        choice (Sound s) (sharing s t i b)
        (λ c. sound-shared c)
        (λ c. let hs = holder-slot s t i b e in
        sound-written_alone s ok t sd (slot s i b) o x (slot_lt s ok i b hi) hs.0 ho
        (λ m u d l. rw (block-number hs.1) (alone-slots c m u d l)))

-- ---- a clear

pub sound-cleared : (s : Setup) (ok : Fits s) (t : Tables) (sd : Sound s t) (i n : ℕ) → i < s.processors → n ≤ s.lines → Sound s (cleared s t i n)
sound-cleared s ok t sd i zero hi hn = sd
sound-cleared s ok t sd i (suc n) hi hn =
    sound-evicted s ok (cleared s t i n) (sound-cleared s ok t sd i n hi (omega arith)) (line_slot s i n) (line_slot-lt s ok i n hi hn)

-- ---- requests that 3 and 4 let through

pub sound-served_by : (s : Setup) (ok : Fits s) (t : Tables) (sd : Sound s t) (i : ℕ) (o : Operation) → i < s.processors → Named s o → Sound s (served_by s t i o)
sound-served_by s ok t sd i (Read v) hi n = sound-obtained s ok t sd i (block_of s v) hi (block-lt s ok v n)
sound-served_by s ok t sd i (Write v x) hi n =
    let b : Block = block_of s v in
    sound-written s ok (obtained s t i b) (sound-obtained s ok t sd i b hi (block-lt s ok v n)) i b hi (offset_of s v) x (offset-lt s ok v)
    (obtained-holds s ok t sd.lengths i b hi)
sound-served_by s ok t sd i Clear hi n = sound-cleared s ok t sd i s.lines hi (le_refl _)

pub sound-served : (s : Setup) (ok : Fits s) (t : Tables) (sd : Sound s t) (q : Request) → Valid s q → Sound s (served s t q)
unfolding served
sound-served s ok t sd q v = sound-served_by s ok t sd q.processor q.operation v.processor v.operation
