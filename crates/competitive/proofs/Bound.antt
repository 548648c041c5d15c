-- Every legal schedule pays for what the engine is charged, for any potential.
use Prim.Native.Nat.{ℕ, zero, suc, ◌+◌, ◌-◌, ◌≤◌, ◌<◌}
use mathlib.Core.Path.{◌≡◌, refl, sym, ap, ◌∙◌}
use mathlib.Core.Logic.{◌≢◌}
use mathlib.Core.Bool.{Bool, true, false, cond, true≢false}
use mathlib.Core.List.{List, [], ◌∷◌}
use native.Mathlib.Omega.{arith}
use native.Mathlib.Nat.{le_refl}
use lib.ListN.{set}
use lib.Dec.{eqb}
use borrow.Author.Tests.{eqb-true, eq-eqb}
use Rattle.protocol_types.specs.Lists.{at}
use Rattle.protocol_types.specs.Refusals.{no_refusal, line_in_use, block_not_held, drop_of_marked}
use Rattle.protocol_types.specs.Board.{Fits, slots, line_slot, slot, block_of, offset_of, fetch_price}
use Rattle.protocol.specs.Tables.{Tables, Sized, counter, block, holds_at, holds, sharing, marked}
use Rattle.protocol.specs.Soundness.{Sound}
use Rattle.protocol.specs.Rules.{evicted, fetched, obtained, payer, written_alone, broadcast, charged, written, cleared}
use Rattle.protocol_types.specs.Conditions.{Named}
use Rattle.protocol.specs.Requests.{served_by, served}
use Rattle.protocol.specs.Accounts.{fetch_and_update}
use Rattle.protocol.specs.Rival.{Rival, RivalSized, keeps_at, keeps, shared, rival_fetched, rival_written_back, rival_dropped, rival_completed, completion_by, completion_cycles, Legal, costs}
use Rattle.protocol_types.specs.declared.Setup.{Setup}
use Rattle.protocol_types.specs.declared.Variable.{Variable}
use Rattle.protocol_types.specs.declared.Block.{Block}
use Rattle.protocol_types.specs.declared.Request.{Request}
use Rattle.protocol_types.specs.declared.Operation.{Operation}
use Rattle.protocol_types.specs.declared.Operation.TheVariants.{Read, Write, Clear}
use Rattle.protocol_types.specs.declared.Entry.{Entry}
use Rattle.protocol_types.specs.declared.Entry.TheVariants.{Fetch, WriteBack, Drop, Complete, CompleteByBroadcast}
use Rattle.protocol_types.proofs.Laws.{Known, sure, not_so, known, choice, chosen-zero, both_true, and-true, other-some, at_set_same, at_set_other}
use Rattle.protocol_types.proofs.Board.{block-path, block-number, line_slot-lt, slot_lt, slot-inj, offset-lt, block-lt}
use Rattle.protocol.proofs.Holding.{holds_at-false, holder-slot, payer-below, payer-found}
use Rattle.protocol.proofs.Lengths.{counter-stored, sized-broadcast}
use Rattle.protocol.proofs.Rival.{move-legal, line-empty, Completable, Completion, completion-legal, sized-played}
use Rattle.competitive.proofs.Sums.{sum, sum_one}
use Rattle.protocol.proofs.Slots.{evicted-counter, evicted-block, evicted-zero, refetched-counter-same, refetched-block-same, refetched-counter, refetched-block, charged-counter-same, charged-counter, charged-block-same, charged-block, obtained-holds}
use Rattle.competitive.proofs.StepSound.{sound-cleared, sound-obtained, sound-served}
use Rattle.competitive.proofs.Potential.{Potential}

-- ---- the rival's copies

abbrev pub held : Rival → ℕ → ℕ
held r k = at r.held k

abbrev pub copy : Rival → ℕ → ℕ
copy r k = at r.blocks k

-- ---- the rival's tests

pub keeps_at-true : (r : Rival) (k : ℕ) (b : Block) → keeps_at r k b ≡ true → (held r k ≡ 1) × (copy r k ≡ b.0)
unfolding keeps_at
keeps_at-true r k b e = let e' = both_true _ _ e in (eqb-true _ _ e'.0, eqb-true _ _ e'.1)

pub true-keeps_at : (r : Rival) (k : ℕ) (b : Block) → held r k ≡ 1 → copy r k ≡ b.0 → keeps_at r k b ≡ true
unfolding keeps_at
true-keeps_at r k b h e = and-true (eq-eqb _ _ h) (eq-eqb _ _ e)

-- a second copy makes the block shared
pub shared-some : (s : Setup) (r : Rival) (i j : ℕ) (b : Block) → j < s.processors → j ≢ i → keeps_at r (slot s j b) b ≡ true → shared s r i b ≡ true
unfolding shared keeps
shared-some s r i j b l d e = other-some s.processors i (λ j. keeps_at r (slot s j b) b) j l d e

-- ---- what the engine is charged

-- F for a fetch, W for a write-back
unfoldable pub obtained_weight : ℕ → ℕ → Setup → Tables → ℕ → Block → ℕ
obtained_weight F W s t i b = cond (holds s t i b) 0 (F + cond (marked t (slot s i b)) W 0)

-- U for an update
unfoldable pub written_weight : ℕ → Setup → Tables → ℕ → Block → ℕ
written_weight U s t i b = cond (sharing s t i b) U 0

-- W for each write-back of a clear's first n lines
abbrev pub cleared_weight : ℕ → Setup → Tables → ℕ → ℕ → ℕ
cleared_weight W s t i zero = 0
cleared_weight W s t i (suc n) = cleared_weight W s t i n + cond (marked (cleared s t i n) (line_slot s i n)) W 0

abbrev pub weight_by : ℕ → ℕ → ℕ → Setup → Tables → ℕ → Operation → ℕ
weight_by F W U s t i (Read v) = obtained_weight F W s t i (block_of s v)
weight_by F W U s t i (Write v x) = obtained_weight F W s t i (block_of s v) + written_weight U s (obtained s t i (block_of s v)) i (block_of s v)
weight_by F W U s t i Clear = cleared_weight W s t i s.lines

unfoldable pub weight : ℕ → ℕ → ℕ → Setup → Tables → Request → ℕ
weight F W U s t q = weight_by F W U s t q.processor q.operation

abbrev pub weights : ℕ → ℕ → ℕ → Setup → Tables → List Request → ℕ
weights F W U s t [] = 0
weights F W U s t (q ∷ qs) = weight F W U s t q + weights F W U s (served s t q) qs

-- ---- the potential of the whole

unfoldable pub total : (ℕ → ℕ → ℕ → ℕ → ℕ) → Setup → Tables → Rival → ℕ
total ψ s t r = sum (slots s) (λ k. ψ (counter t k) (block t k).0 (held r k) (copy r k))

module _ (s : Setup) (ok : Fits s) (F W U : ℕ) (ψ : ℕ → ℕ → ℕ → ℕ → ℕ) (P : Potential (fetch_price s) F W U ψ) where
  -- the engine changes slot k alone
  engine-move : (t t' : Tables) (r : Rival) (k x y : ℕ) → k < slots s
      → ((m : ℕ) → m ≢ k → counter t' m ≡ counter t m) → ((m : ℕ) → m ≢ k → (block t' m).0 ≡ (block t m).0)
      → ψ (counter t' k) (block t' k).0 (held r k) (copy r k) + x ≤ ψ (counter t k) (block t k).0 (held r k) (copy r k) + y
      → total ψ s t' r + x ≤ total ψ s t r + y
  unfolding total
  engine-move t t' r k x y h ec eb e = sum_one (slots s) _ _ k x y h e (λ m l d. rw (ec m d, eb m d) (le_refl _))

  rival-move : (t : Tables) (r r' : Rival) (k x y : ℕ) → k < slots s
      → ((m : ℕ) → m ≢ k → held r' m ≡ held r m) → ((m : ℕ) → m ≢ k → copy r' m ≡ copy r m)
      → ψ (counter t k) (block t k).0 (held r' k) (copy r' k) + x ≤ ψ (counter t k) (block t k).0 (held r k) (copy r k) + y
      → total ψ s t r' + x ≤ total ψ s t r + y
  unfolding total
  rival-move t r r' k x y h ec eb e = sum_one (slots s) _ _ k x y h e (λ m l d. rw (ec m d, eb m d) (le_refl _))

  module _ (t : Tables) (sd : Sound s t) (r : Rival) (i : ℕ) (b : Block) (hi : i < s.processors) (kp : keeps s r i b ≡ true) where
    k : ℕ
    k = slot s i b

    kept : (held r (slot s i b) ≡ 1) × (copy r (slot s i b) ≡ b.0)
    unfolding keeps
    kept = keeps_at-true r (slot s i b) b kp

    -- a slot that does not hold b has another number, if any
    other-number : (k : ℕ) → holds_at t k b ≡ false → 0 < counter t k → (block t k).0 ≢ b.0
    other-number k e l y = holds_at-false t k b e l (block-path y)

    miss : holds s t i b ≡ false
        → total ψ s (fetched s (evicted s t (slot s i b)) (slot s i b) b) r + (F + cond (marked t (slot s i b)) W 0) ≤ total ψ s t r + 0
    unfolding holds marked
    miss e =
        engine-move t (fetched s (evicted s t k) k b) r k (F + cond (marked t k) W 0) 0 hk
        (refetched-counter s t sd.lengths k b hk) (refetched-block s t sd.lengths k b hk)
        (rw (refetched-counter-same s t sd.lengths k b hk, refetched-block-same s t sd.lengths k b hk, kept.0, kept.1)
        (choice (λ z. ψ (fetch_price s) b.0 1 b.0 + (F + z) ≤ ψ (counter t k) (block t k).0 1 b.0 + 0) (marked t k)
        (λ c. omega (arith, P.fetch-marked (counter t k) (block t k).0 b.0 (other-number k e) ((sd.line k hk).full (eqb-true _ _ c))))
        (λ c. omega (arith, P.fetch (counter t k) (block t k).0 b.0 (other-number k e)))))
      where
        k : ℕ
        k = slot s i b

        hk : k < slots s
        hk = slot_lt s ok i b hi

    pub obtained-bound : total ψ s (obtained s t i b) r + obtained_weight F W s t i b ≤ total ψ s t r
    unfolding obtained obtained_weight
    obtained-bound = go (holds s t i b) refl
      where
        k : ℕ
        k = slot s i b

        go : (c : Bool) → holds s t i b ≡ c
            → total ψ s (cond c t (fetched s (evicted s t k) k b)) r + cond c 0 (F + cond (marked t k) W 0) ≤ total ψ s t r
        go true e = omega arith
        go false e = omega (arith, miss e)

    -- the writer's counter is full
    refilled : (t' : Tables) → holds s t i b ≡ true → t'.blocks ≡ t.blocks → t'.counters ≡ set t.counters (slot s i b) (fetch_price s)
        → total ψ s t' r + 0 ≤ total ψ s t r + 0
    refilled t' e eb ec =
        engine-move t t' r k 0 0 hk
        (λ m d. ap (λ l. at l m) ec ∙ at_set_other t.counters k (fetch_price s) m d) (λ m d. ap (λ l. at l m) eb)
        (rw (
          ap (λ l. at l k) ec ∙ counter-stored s t sd.lengths k (fetch_price s) hk,
          ap (λ l. at l k) eb,
          block-number (holder-slot s t i b e).1,
          kept.0,
          kept.1,
        )
        (omega (arith, P.refill (counter t k) b.0)))
      where
        k : ℕ
        k = slot s i b

        hk : slot s i b < slots s
        hk = slot_lt s ok i b hi

  -- the payer's counter falls
  paid : (t : Tables) (z : Sized s t) (r : Rival) (i j : ℕ) (b : Block) (u : ℕ) → j < s.processors → j ≢ i → 0 < counter t (slot s j b)
      → block t (slot s j b) ≡ b → (shared s r i b ≡ true → 1 ≤ u) → total ψ s (charged s t (slot s j b)) r + U ≤ total ψ s t r + u
  paid t z r i j b u hj d pos eb hu =
      engine-move t (charged s t k) r k U u hk (charged-counter s t z k hk) (charged-block s t z k hk)
      (rw (charged-counter-same s t z k hk, block-number eb) (go (known (keeps_at r k b))))
    where
      k : ℕ
      k = slot s j b

      hk : k < slots s
      hk = slot_lt s ok j b hj

      go : Known (keeps_at r k b) → ψ (counter t k - 1) (block (charged s t k) k).0 (held r k) (copy r k) + U ≤ ψ (counter t k) b.0 (held r k) (copy r k) + u
      go (sure e) =
          rw ((keeps_at-true r k b e).0, (keeps_at-true r k b e).1)
          (omega (
            arith,
            P.pay-kept (counter t k) (block (charged s t k) k).0 b.0 pos (λ l. charged-block-same s t z k hk l ∙ block-number eb),
            hu (shared-some s r i j b hj d e),
          ))
      go (not_so e) =
          omega (
            arith,
            P.pay (counter t k) b.0 (block (charged s t k) k).0 (held r k) (copy r k) pos (λ h c. true≢false (sym (true-keeps_at r k b h (sym c)) ∙ e)),
          )

  module _ (t : Tables) (sd : Sound s t) (r : Rival) (i : ℕ) (b : Block) (hi : i < s.processors) (kp : keeps s r i b ≡ true)
      (o x u : ℕ) (e : holds s t i b ≡ true) where
    alone-case : total ψ s (written_alone s t (slot s i b) o x) r + 0 ≤ total ψ s t r + u
    unfolding written_alone
    alone-case = omega (arith, refilled t sd r i b hi kp (written_alone s t (slot s i b) o x) e refl refl)

    shared-case : sharing s t i b ≡ true → (shared s r i b ≡ true → 1 ≤ u)
        → total ψ s (charged s (broadcast s t (slot s i b) b o x) (slot s (payer s t i b) b)) r + U ≤ total ψ s t r + u
    unfolding broadcast
    shared-case c hu =
        let l = payer-below s t i b c in
        let t' : Tables = broadcast s t (slot s i b) b o x in
        let j : ℕ = payer s t i b in
        let a = payer-found s t i b c in
        let hj = holder-slot s t j b a.passes in
        let d : slot s j b ≢ slot s i b = λ y. a.differs (slot-inj s ok j i b b y) in
        let ec : counter t' (slot s j b) ≡ counter t (slot s j b) = at_set_other t.counters (slot s i b) (fetch_price s) (slot s j b) d in
        let one = refilled t sd r i b hi kp t' e refl refl in
        let two = paid t' (sized-broadcast s t sd.lengths (slot s i b) b o x) r i j b u l a.differs (rw ec hj.0) hj.1 hu in
        omega (arith, one, two)

  module _ (t : Tables) (sd : Sound s t) (r : Rival) (i : ℕ) (b : Block) (hi : i < s.processors) (kp : keeps s r i b ≡ true) where
    pub written-bound : (o x u : ℕ) → o < s.words → holds s t i b ≡ true → (shared s r i b ≡ true → 1 ≤ u)
        → total ψ s (written s t i b o x) r + written_weight U s t i b ≤ total ψ s t r + u
    unfolding written written_weight
    written-bound o x u ho e hu = go (sharing s t i b) refl
      where
        k : ℕ
        k = slot s i b

        go : (c : Bool) → sharing s t i b ≡ c
            → total ψ s (cond c (charged s (broadcast s t k b o x) (slot s (payer s t i b) b)) (written_alone s t k o x)) r + cond c U 0
            ≤ total ψ s t r + u
        go true c = shared-case t sd r i b hi kp o x u e c hu
        go false c = alone-case t sd r i b hi kp o x u e

  -- a slot that the rival has empty is emptied
  evicted-bound : (t : Tables) (sd : Sound s t) (r : Rival) (k : ℕ) → k < slots s → held r k ≡ 0
      → total ψ s (evicted s t k) r + cond (marked t k) W 0 ≤ total ψ s t r + 0
  unfolding marked
  evicted-bound t sd r k hk e =
      engine-move t (evicted s t k) r k (cond (marked t k) W 0) 0 hk (evicted-counter s t k) (evicted-block s t k)
      (rw (evicted-zero s t k, e)
      (choice (λ z. ψ 0 (block (evicted s t k) k).0 0 (copy r k) + z ≤ ψ (counter t k) (block t k).0 0 (copy r k) + 0) (marked t k)
      (λ c. omega (arith, P.empty-marked (counter t k) (block t k).0 (block (evicted s t k) k).0 (copy r k) ((sd.line k hk).full (eqb-true _ _ c))))
      (λ c. omega (arith, P.empty (counter t k) (block t k).0 (block (evicted s t k) k).0 (copy r k)))))

  -- and so is a whole cache
  cleared-bound : (t : Tables) (sd : Sound s t) (r : Rival) (i n : ℕ) → i < s.processors → n ≤ s.lines
      → ((l : ℕ) → l < s.lines → held r (line_slot s i l) ≡ 0) → total ψ s (cleared s t i n) r + cleared_weight W s t i n ≤ total ψ s t r
  cleared-bound t sd r i zero hi hn e = omega arith
  cleared-bound t sd r i (suc n) hi hn e =
      omega (
        arith,
        cleared-bound t sd r i n hi (omega arith) e,
        evicted-bound (cleared s t i n) (sound-cleared s ok t sd i n hi (omega arith)) r (line_slot s i n) (line_slot-lt s ok i n hi hn) (e n hn),
      )

  -- a shared write is paid for
  shared-pays : (r : Rival) (i : ℕ) (v : Variable) (a : Bool) → shared s r i (block_of s v) ≡ true
      → 1 ≤ cond a 1 (cond (shared s r i (block_of s v)) 1 0)
  shared-pays r i v true h = omega arith
  shared-pays r i v false h = rw h (omega arith)

  -- processor i's operation, completed by the rival too
  served_by-bound : (t : Tables) (sd : Sound s t) (r : Rival) (i : ℕ) (o : Operation) (a : Bool) → i < s.processors → Named s o → Completable s r i o
      → total ψ s (served_by s t i o) r + weight_by F W U s t i o ≤ total ψ s t r + completion_by s r i o a
  served_by-bound t sd r i (Read v) a hi n kp = omega (arith, obtained-bound t sd r i (block_of s v) hi kp)
  served_by-bound t sd r i (Write v x) a hi n kp =
      let b : Block = block_of s v in
      omega (
        arith,
        obtained-bound t sd r i b hi kp,
        written-bound (obtained s t i b) (sound-obtained s ok t sd i b hi (block-lt s ok v n)) r i b hi kp (offset_of s v) x
            (completion_by s r i (Write v x) a) (offset-lt s ok v) (obtained-holds s ok t sd.lengths i b hi) (shared-pays r i v a),
      )
  served_by-bound t sd r i Clear a hi n em = omega (arith, cleared-bound t sd r i s.lines hi (le_refl _) (line-empty s r i em))

  served-bound : (t : Tables) (sd : Sound s t) (r : Rival) (q : Request) (a : Bool) → Completion s r q
      → total ψ s (served s t q) r + weight F W U s t q ≤ total ψ s t r + completion_cycles s r q a
  unfolding served weight completion_cycles
  served-bound t sd r q a c = served_by-bound t sd r q.processor q.operation a c.valid.processor c.valid.operation c.ready

-- ---- a whole schedule

module _ (s : Setup) (ok : Fits s) (F W U : ℕ) (ψ : ℕ → ℕ → ℕ → ℕ → ℕ) (P : Potential (fetch_price s) F W U ψ) where
  fetch-bound : (t : Tables) (sd : Sound s t) (r : Rival) (sh : RivalSized s r) (i : ℕ) (b : Block) → i < s.processors → held r (slot s i b) ≡ 0
      → total ψ s t (rival_fetched s r i b) + 0 ≤ total ψ s t r + fetch_price s
  unfolding rival_fetched
  fetch-bound t sd r sh i b hi e =
      rival-move s ok F W U ψ P t r (rival_fetched s r i b) k 0 (fetch_price s) hk
      (λ m d. at_set_other r.held k 1 m d) (λ m d. at_set_other r.blocks k b.0 m d)
      (rw (at_set_same r.held k 1 (omega (arith, sh.held, hk)), at_set_same r.blocks k b.0 (omega (arith, sh.blocks, hk)))
      (omega (arith, P.take (counter t k) (block t k).0 (held r k) (copy r k) b.0 (sd.line k hk).bounded e)))
    where
      k : ℕ
      k = slot s i b

      hk : slot s i b < slots s
      hk = slot_lt s ok i b hi

  drop-bound : (t : Tables) (sd : Sound s t) (r : Rival) (sh : RivalSized s r) (i : ℕ) (b : Block) → i < s.processors → keeps s r i b ≡ true
      → total ψ s t (rival_dropped s r i b) + 0 ≤ total ψ s t r + 0
  unfolding rival_dropped keeps
  drop-bound t sd r sh i b hi e =
      rival-move s ok F W U ψ P t r (rival_dropped s r i b) k 0 0 hk
      (λ m d. at_set_other r.held k 0 m d) (λ m d. at_set_other r.blocks k 0 m d)
      (rw (at_set_same r.held k 0 (omega (arith, sh.held, hk)), at_set_same r.blocks k 0 (omega (arith, sh.blocks, hk)), (keeps_at-true r k b e).0)
      (omega (arith, P.drop (counter t k) (block t k).0 (copy r k) 0 (sd.line k hk).bounded)))
    where
      k : ℕ
      k = slot s i b

      hk : slot s i b < slots s
      hk = slot_lt s ok i b hi

  rival_completed-total : (t : Tables) (r : Rival) (q : Request) → total ψ s t (rival_completed s r q) ≡ total ψ s t r
  unfolding rival_completed total
  rival_completed-total t r q = refl

  rival_written_back-total : (t : Tables) (r : Rival) (i : ℕ) (b : Block) → total ψ s t (rival_written_back s r i b) ≡ total ψ s t r
  unfolding rival_written_back total
  rival_written_back-total t r i b = refl

  pub bound : (es : List Entry) (t : Tables) (r : Rival) (qs : List Request) → Sound s t → RivalSized s r → Legal s r qs es
      → weights F W U s t qs ≤ fetch_and_update (costs s r qs es) + total ψ s t r
  bound [] t r [] sd sh l = omega arith
  bound [] t r (q ∷ qs) sd sh l = absurd (omega (arith, l))
  bound (Fetch i b ∷ es) t r qs sd sh l =
      let m = move-legal s i b _ l.0 in
      let e = eqb-true _ _ (chosen-zero (eqb (held r (slot s i b)) 0) no_refusal line_in_use (omega arith) m.rest).0 in
      omega (arith, fetch-bound t sd r sh i b m.processor e, bound es t (rival_fetched s r i b) qs sd (sized-played s r sh qs (Fetch i b)) l.1)
  bound (WriteBack i b ∷ es) t r qs sd sh l =
      omega (arith, rival_written_back-total t r i b, bound es t (rival_written_back s r i b) qs sd (sized-played s r sh qs (WriteBack i b)) l.1)
  bound (Drop i b ∷ es) t r qs sd sh l =
      let m = move-legal s i b _ l.0 in
      let e = (chosen-zero (keeps s r i b) (cond (eqb (at r.marks (slot s i b)) 0) no_refusal drop_of_marked) block_not_held (omega arith) m.rest).0 in
      omega (arith, drop-bound t sd r sh i b m.processor e, bound es t (rival_dropped s r i b) qs sd (sized-played s r sh qs (Drop i b)) l.1)
  bound (Complete ∷ es) t r [] sd sh l = absurd (omega (arith, l.0))
  bound (Complete ∷ es) t r (q ∷ qs) sd sh l =
      let c = completion-legal s r q false l.0 in
      omega (
        arith,
        served-bound s ok F W U ψ P t sd r q false c,
        rival_completed-total (served s t q) r q,
        bound es (served s t q) (rival_completed s r q) qs (sound-served s ok t sd q c.valid) (sized-played s r sh (q ∷ qs) Complete) l.1,
      )
  bound (CompleteByBroadcast ∷ es) t r [] sd sh l = absurd (omega (arith, l.0))
  bound (CompleteByBroadcast ∷ es) t r (q ∷ qs) sd sh l =
      let c = completion-legal s r q true l.0 in
      omega (
        arith,
        served-bound s ok F W U ψ P t sd r q true c,
        bound es (served s t q) r qs (sound-served s ok t sd q c.valid) sh l.1,
      )
