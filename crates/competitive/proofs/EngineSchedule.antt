-- The engine is one of the rivals: its own actions are a legal schedule, at its own bill, and leave its own copies.
use Prim.Native.Nat.{ℕ, zero, suc, ◌+◌, ◌-◌, ◌/◌, ◌*◌, ◌≤◌, ◌<◌}
use mathlib.Core.Path.{◌≡◌, refl, sym, ap, ◌∙◌, subst}
use mathlib.Core.Logic.{◌≢◌}
use mathlib.Core.Bool.{Bool, true, false, ◌&&◌, cond, true≢false}
use mathlib.Core.List.{List, [], ◌∷◌, ◌++◌, append_assoc, map}
use native.Mathlib.Omega.{arith}
use native.Mathlib.Nat.{le_refl}
use lib.ListN.{set, get_or-map}
use lib.Seq.{set-get_or, map-set_same, ext_get_or}
use lib.Dec.{ltb, eqb}
use borrow.Author.Tests.{ltb-true, lt-ltb, eqb-true, eqb-false}
use Rattle.protocol_types.specs.Lists.{at, zeros, other}
use Rattle.protocol_types.specs.Refusals.{no_refusal}
use Rattle.protocol_types.specs.Board.{Fits, setup_refusal, variables, slots, line_slot, slot, line_of, block_of, offset_of, fetch_price, write_back_price}
use Rattle.protocol.specs.Tables.{Tables, tables, fresh, counter, block, mark, holds_at, holds, sharing, marked}
use Rattle.protocol.specs.Soundness.{Sound}
use Rattle.protocol.specs.Rules.{written_back, emptied, filled, saved, save_cycles, evicted, owner, released, fetched, obtained, fetch_cycles, write_back_cycles, payer, written_alone, broadcast, charged, written, update_cycles, cleared, clear_cycles}
use Rattle.protocol_types.specs.Conditions.{Named, Valid, AllValid}
use Rattle.protocol.specs.Requests.{served_by, served, bill_by, bill}
use Rattle.protocol.specs.Accounts.{nothing, plus}
use Rattle.protocol.specs.Engines.{Run, taken_all, served_all, spent}
use Rattle.protocol.specs.Runs.{engine}
use Rattle.protocol.specs.Rival.{Rival, rival, no_copies, keeps_at, keeps, shared, empty_cache, unmarked, rival_fetched, rival_written_back, rival_dropped, rival_completed, completion_cycles, played, left, cost, refusal, move_refusal, Legal, costs, last_copies}
use Rattle.competitive.specs.EngineSchedule.{saving, evicting, obtaining, paying, clearing, serving_by, serving, engine_schedule, EngineIsRival}
use Rattle.protocol_types.specs.declared.Setup.{Setup}
use Rattle.protocol_types.specs.declared.Variable.{Variable}
use Rattle.protocol_types.specs.declared.Block.{Block}
use Rattle.protocol_types.specs.declared.Request.{Request}
use Rattle.protocol_types.specs.declared.Operation.{Operation}
use Rattle.protocol_types.specs.declared.Operation.TheVariants.{Read, Write, Clear}
use Rattle.protocol_types.specs.declared.Bill.{Bill}
use Rattle.protocol_types.specs.declared.Entry.{Entry}
use Rattle.protocol_types.specs.declared.Entry.TheVariants.{Fetch, WriteBack, Drop, Complete}
use Rattle.protocol_types.proofs.Laws.{Same, same, apart, same?, Under, under, over, under?, Known, sure, not_so, known, choice, at_set_other, at-set-zero}
use Rattle.protocol_types.proofs.Board.{block-path, block-number, setup-fits, row_lt, row-mod, line-lt, slot_lt, slot-inj, processor-lt, offset-lt, block-lt}
use Rattle.protocol.proofs.Holding.{holds_at-true, true-holds_at, holder-slot, payer-below, payer-found, owner-found}
use Rattle.protocol.proofs.Engines.{all_valid}
use Rattle.protocol.proofs.Accounts.{bill-path}
use Rattle.protocol.proofs.Rival.{lines-empty, legal-completion, length-unmarked}
use Rattle.competitive.proofs.Sound.{sound-written_back}
use Rattle.protocol.proofs.Slots.{released-counters, released-blocks, evicted-zero, obtained-holds}
use Rattle.competitive.proofs.StepSound.{marked-holds, placed, sound-evicted, sound-cleared, sound-released, released-unmarked, sound-obtained, shared-facts, sound-served}
use Rattle.competitive.proofs.Fresh.{sound-fresh}
use Rattle.competitive.proofs.Clears.{cleared-zero}
use Rattle.competitive.proofs.Lawful.{lawful}
use Rattle.competitive.proofs.Tight.{rival-path}

-- ---- the engine's copies as a rival's

-- held or not, by a counter
abbrev on : ℕ → ℕ
on c = cond (ltb 0 c) 1 0

on-pos : (c : ℕ) → 0 < c → on c ≡ 1
on-pos c h = rw (lt-ltb 0 c h)

abbrev pub mirrored : Tables → Rival
mirrored t = rival t.blocks (map on t.counters) t.marks

at_held : (l : List ℕ) (k : ℕ) → at (map on l) k ≡ on (at l k)
at_held l k = get_or-map on l k 0

held-set : (l : List ℕ) (k x : ℕ) → map on (set l k x) ≡ set (map on l) k (on x)
held-set [] k x = refl
held-set (y ∷ l) zero x = refl
held-set (y ∷ l) (suc k) x = ap (λ z. on y ∷ z) (held-set l k x)

held-zeros : (n : ℕ) → map on (zeros n) ≡ zeros n
held-zeros zero = refl
held-zeros (suc n) = ap (λ z. 0 ∷ z) (held-zeros n)

-- a counter that stays above 0
held_same : (l : List ℕ) (k x : ℕ) → 0 < x → 0 < at l k → map on (set l k x) ≡ map on l
held_same l k x h g = map-set_same on l k x 0 (on-pos x h ∙ sym (on-pos (at l k) g))

-- a 0 that is stored over a 0
set-none : (l : List ℕ) (k : ℕ) → at l k ≡ 0 → set l k 0 ≡ l
set-none l k e = ap (set l k) (sym e) ∙ set-get_or l k 0

keeps_at-holds_at : (t : Tables) (k : ℕ) (b : Block) → keeps_at (mirrored t) k b ≡ holds_at t k b
unfolding keeps_at holds_at
keeps_at-holds_at t k b = rw (at_held t.counters k) (go (ltb 0 (counter t k)))
  where
    go : (c : Bool) → eqb (cond c 1 0) 1 && eqb (block t k).0 b.0 ≡ c && eqb (block t k).0 b.0
    go true = refl
    go false = refl

keeps-holds : (s : Setup) (t : Tables) (i : ℕ) (b : Block) → keeps s (mirrored t) i b ≡ holds s t i b
unfolding keeps holds
keeps-holds s t i b = keeps_at-holds_at t (slot s i b) b

-- ---- parts of a schedule

-- from r with qs left, es lead to r' with qs' left, at cost c
record Leads (s : Setup) (r : Rival) (qs : List Request) (es : List Entry) (r' : Rival) (qs' : List Request) (c : Bill) : Type 0 where
  legal : (ds : List Entry) → Legal s r' qs' ds → Legal s r qs (es ++ ds)
  pays : (ds : List Entry) → costs s r qs (es ++ ds) ≡ plus c (costs s r' qs' ds)
  last : (ds : List Entry) → last_copies s r qs (es ++ ds) ≡ last_copies s r' qs' ds

leads-none : (s : Setup) (r : Rival) (qs : List Request) → Leads s r qs [] r qs nothing
leads-none s r qs = record { legal = λ ds h. h; pays = λ ds. bill-path (omega arith) (omega arith) (omega arith); last = λ ds. refl }

leads_one : (s : Setup) (r : Rival) (qs : List Request) (e : Entry) (r' : Rival) (c : Bill) → refusal s r qs e ≡ 0 → played s r qs e ≡ r' → cost s r qs e ≡ c
    → Leads s r qs (e ∷ []) r' (left qs e) c
leads_one s r qs e r' c h p y = rw (← p, ← y) (record { legal = λ ds l. (h, l); pays = λ ds. refl; last = λ ds. refl })

leads-on : (s : Setup) {r r' r'' : Rival} {qs qs' qs'' : List Request} {es fs : List Entry} {c d : Bill} (g : Bill) → plus c d ≡ g
    → Leads s r qs es r' qs' c → Leads s r' qs' fs r'' qs'' d → Leads s r qs (es ++ fs) r'' qs'' g
leads-on s {r} {r'} {r''} {qs} {qs'} {qs''} {es} {fs} {c} {d} g e a b = rw (← e) (record {
  legal = λ ds h. rw append_assoc (a.legal (fs ++ ds) (b.legal ds h));
  pays = λ ds. rw append_assoc (a.pays (fs ++ ds) ∙ ap (plus c) (b.pays ds) ∙ bill-path (omega arith) (omega arith) (omega arith));
  last = λ ds. rw append_assoc (a.last (fs ++ ds) ∙ b.last ds);
})

-- a bill of three kinds
abbrev cost3 : ℕ → ℕ → ℕ → Bill
cost3 f w u = record { fetch = f; write_back = w; update = u }

move-fine : (s : Setup) (i : ℕ) (b : Block) (n : ℕ) → i < s.processors → b.0 < s.blocks → n ≡ 0 → move_refusal s i b n ≡ 0
unfolding move_refusal
move-fine s i b n hi hb e = rw (lt-ltb i s.processors hi, lt-ltb b.0 s.blocks hb) e

-- ---- rule 1: processor i holds block b in slot k

module _ (s : Setup) (ok : Fits s) (t : Tables) (sd : Sound s t) (qs : List Request) (i : ℕ) (b : Block) (k : ℕ) (hi : i < s.processors) (p : slot s i b ≡ k)
    (hd : holds_at t k b ≡ true) where
  kept : keeps s (mirrored t) i b ≡ true
  unfolding keeps
  kept = rw p (keeps_at-holds_at t k b ∙ hd)

  held-lt : b.0 < s.blocks
  held-lt =
      let h = holds_at-true t k b hd in
      rw (block-number h.1) at ((sd.line k (rw p at (slot_lt s ok i b hi))).below h.0)

  back-leads : Leads s (mirrored t) qs (WriteBack i b ∷ []) (mirrored (written_back s t k)) qs (cost3 0 (write_back_price s) 0)
  unfolding rival_written_back written_back
  back-leads =
      leads_one s (mirrored t) qs (WriteBack i b) (mirrored (written_back s t k)) (cost3 0 (write_back_price s) 0)
      (move-fine s i b _ hi held-lt (rw kept)) (rw p) refl

  drop-leads : mark t k ≡ 0 → Leads s (mirrored t) qs (Drop i b ∷ []) (mirrored (emptied s t k)) qs nothing
  unfolding rival_dropped emptied
  drop-leads e =
      leads_one s (mirrored t) qs (Drop i b) (mirrored (emptied s t k)) nothing
      (move-fine s i b _ hi held-lt (rw (kept, p, e))) (rw p (rival-path refl (sym (held-set t.counters k 0)) refl)) refl

-- first the one, then the other
back-drop-leads : (s : Setup) (ok : Fits s) (t : Tables) (sd : Sound s t) (qs : List Request) (i : ℕ) (b : Block) (k : ℕ) → i < s.processors → slot s i b ≡ k
    → holds_at t k b ≡ true → mark t k ≡ 1
    → Leads s (mirrored t) qs (WriteBack i b ∷ Drop i b ∷ []) (mirrored (emptied s (written_back s t k) k)) qs (cost3 0 (write_back_price s) 0)
unfolding written_back holds_at
back-drop-leads s ok t sd qs i b k hi p hd m =
    leads-on s (cost3 0 (write_back_price s) 0) (bill-path (omega arith) (omega arith) (omega arith)) (back-leads s ok t sd qs i b k hi p hd)
    (drop-leads s ok (written_back s t k) (sound-written_back s ok t sd k (rw p at (slot_lt s ok i b hi)) m) qs i b k hi p hd (at-set-zero t.marks k))

-- emptying an empty slot changes nothing
empty-same : (s : Setup) (t : Tables) (k : ℕ) → (block t k).0 ≡ 0 → counter t k ≡ 0 → mark t k ≡ 0 → mirrored t ≡ mirrored (emptied s t k)
unfolding emptied
empty-same s t k eb ec em =
    rival-path (sym (set-none t.blocks k eb)) (ap (map on) (sym (set-none t.counters k ec))) (sym (set-none t.marks k em))

-- line l of processor i, at slot k
module _ (s : Setup) (ok : Fits s) (t : Tables) (sd : Sound s t) (qs : List Request) (i l k : ℕ) (hi : i < s.processors) (hl : l < s.lines)
    (is-k : k ≡ i * s.lines + l) where
  hk : k < slots s
  unfolding slots
  hk = rw is-k (row_lt i s.processors s.lines l hi hl)

  -- the block in the way stands in its slot
  in-way : 0 < counter t k → slot s i (block t k) ≡ k
  unfolding slot
  in-way h = ap (λ z. i * s.lines + z) (sym ((sd.line k hk).proper h) ∙ rw is-k (row-mod i s.lines l hl)) ∙ sym is-k

  evicting-leads : Leads s (mirrored t) qs (evicting t i k) (mirrored (evicted s t k)) qs (cost3 0 (save_cycles s t k) 0)
  unfolding evicting saving evicted saved save_cycles marked
  evicting-leads = go (under? 0 (counter t k)) (eqb (mark t k) 1) refl
    where
      c : Block
      c = block t k

      go : Under 0 (counter t k) → (x : Bool) → eqb (mark t k) 1 ≡ x
          → Leads s (mirrored t) qs (cond (ltb 0 (counter t k)) (cond x (WriteBack i c ∷ []) [] ++ Drop i c ∷ []) [])
          (mirrored (emptied s (cond x (written_back s t k) t) k)) qs (cost3 0 (cond x (write_back_price s) 0) 0)
      go (under h y) true e =
          rw y (back-drop-leads s ok t sd qs i c k hi (in-way h) (true-holds_at t k c h refl) (eqb-true (mark t k) 1 e))
      go (under h y) false e =
          rw y (drop-leads s ok t sd qs i c k hi (in-way h) (true-holds_at t k c h refl) (omega (arith, (sd.line k hk).mark-le, eqb-false (mark t k) 1 e)))
      go (over h y) true e = absurd (omega (arith, marked-holds s ok t sd k hk (eqb-true (mark t k) 1 e)))
      go (over h y) false e =
          let l = sd.line k hk in
          rw (y, ← empty-same s t k (l.no_block (omega arith)) (omega arith) (l.no-mark (omega arith))) (leads-none s (mirrored t) qs)

-- ---- rule 2: the marks of block b clear

module _ (s : Setup) (r : Rival) (b : Block) where
  -- in a slot that has b, and in one that has not
  unmarked-clear : Fits s → (n j : ℕ) → j < n → keeps s r j b ≡ true → at (unmarked s r b n) (slot s j b) ≡ 0
  unmarked-clear ok zero j l e = absurd (omega arith)
  unmarked-clear ok (suc n) j l e = go (same? j n) (λ l'. unmarked-clear ok n j l' e)
    where
      go : Same j n → (j < n → at (unmarked s r b n) (slot s j b) ≡ 0)
          → at (cond (keeps s r n b) (set (unmarked s r b n) (slot s n b) 0) (unmarked s r b n)) (slot s j b) ≡ 0
      go (same p q) f = rw p (rw (rw p at e) (at-set-zero (unmarked s r b n) (slot s n b)))
      go (apart d q) f =
          choice (λ z. at z (slot s j b) ≡ 0) (keeps s r n b)
          (λ c. at_set_other (unmarked s r b n) (slot s n b) 0 (slot s j b) (λ y. d (slot-inj s ok j n b b y)) ∙ f (omega arith)) (λ c. f (omega arith))

  unmarked-other : (n a : ℕ) → keeps_at r a b ≡ false → at (unmarked s r b n) a ≡ at r.marks a
  unfolding keeps
  unmarked-other zero a f = refl
  unmarked-other (suc n) a f =
      choice (λ z. at z a ≡ at r.marks a) (keeps_at r (slot s n b) b)
      (λ e. at_set_other (unmarked s r b n) (slot s n b) 0 a (λ p. true≢false (sym e ∙ ap (λ z. keeps_at r z b) (sym p) ∙ f)) ∙ unmarked-other n a f)
      (λ e. unmarked-other n a f)

released-other : (s : Setup) (t : Tables) (b : Block) (a : ℕ) → holds_at t a b ≡ false → mark (released s t b) a ≡ mark t a
unfolding released written_back holds
released-other s t b a f =
    choice (λ z. mark z a ≡ mark t a) (ltb (owner s t b) s.processors)
    (λ e. at_set_other t.marks (slot s (owner s t b) b) 0 a
    (λ p. true≢false (sym (owner-found s t b (ltb-true _ _ e)).0 ∙ ap (λ z. holds_at t z b) (sym p) ∙ f)))
    (λ e. refl)

module _ (s : Setup) (ok : Fits s) (t : Tables) (sd : Sound s t) (b : Block) where
  mark-cleared : (a : ℕ) → a < slots s → at (unmarked s (mirrored t) b s.processors) a ≡ mark (released s t b) a
  unfolding keeps
  mark-cleared a l = go (known (holds_at t a b))
    where
      go : Known (holds_at t a b) → at (unmarked s (mirrored t) b s.processors) a ≡ mark (released s t b) a
      go (sure f) =
          let h = holds_at-true t a b f in
          let p = placed s ok t sd a l h.0 b h.1 in
          let z : at (unmarked s (mirrored t) b s.processors) a ≡ 0
          = rw p.0 at (unmarked-clear s (mirrored t) b ok s.processors (a / s.lines) (processor-lt s ok a l) (keeps-holds s t (a / s.lines) b ∙ p.1)) in
          let d : mark (released s t b) a ≢ 1
          = λ y. released-unmarked s ok t sd b a l y (block-path (ap (λ w. at w a) (released-blocks s t b)) ∙ h.1) in
          omega (arith, ((sound-released s ok t sd b).line a l).mark-le)
      go (not_so f) = unmarked-other s (mirrored t) b s.processors a (keeps_at-holds_at t a b ∙ f) ∙ sym (released-other s t b a f)

  unmarked-released : unmarked s (mirrored t) b s.processors ≡ (released s t b).marks
  unmarked-released =
      let e = length-unmarked s (mirrored t) b s.processors in
      ext_get_or 0 (unmarked s (mirrored t) b s.processors) (released s t b).marks
      (omega (arith, e, sd.lengths.marks, (sound-released s ok t sd b).lengths.marks))
      (λ a l. mark-cleared a (omega (arith, e, sd.lengths.marks)))

  -- the block is fetched into an empty slot
  fetch-leads : (qs : List Request) (i : ℕ) → i < s.processors → counter t (slot s i b) ≡ 0 → b.0 < s.blocks
      → Leads s (mirrored t) qs (Fetch i b ∷ []) (mirrored (fetched s t (slot s i b) b)) qs (cost3 (fetch_price s) 0 0)
  unfolding fetched filled rival_fetched
  fetch-leads qs i hi e hb =
      leads_one s (mirrored t) qs (Fetch i b) (mirrored (fetched s t (slot s i b) b)) (cost3 (fetch_price s) 0 0)
      (move-fine s i b _ hi hb (rw (at_held t.counters (slot s i b), e)))
      (rival-path (ap (λ z. set z (slot s i b) b.0) (sym (released-blocks s t b)))
      (sym (ap (λ z. map on (set z (slot s i b) (fetch_price s))) (released-counters s t b) ∙ held-set t.counters (slot s i b) (fetch_price s)
      ∙ ap (set (map on t.counters) (slot s i b)) (on-pos (fetch_price s) ok.some-fetch)))
      (ap (λ z. set z (slot s i b) 0) unmarked-released))
      refl

obtaining-leads : (s : Setup) (ok : Fits s) (t : Tables) (sd : Sound s t) (qs : List Request) (i : ℕ) (b : Block) → i < s.processors → b.0 < s.blocks
    → Leads s (mirrored t) qs (obtaining s t i b) (mirrored (obtained s t i b)) qs (cost3 (fetch_cycles s t i b) (write_back_cycles s t i b) 0)
unfolding obtaining obtained fetch_cycles write_back_cycles slot
obtaining-leads s ok t sd qs i b hi hb = go (holds s t i b)
  where
    k : ℕ
    k = slot s i b

    go : (c : Bool)
        → Leads s (mirrored t) qs (cond c [] (evicting t i k ++ Fetch i b ∷ [])) (mirrored (cond c t (fetched s (evicted s t k) k b))) qs
        (cost3 (cond c 0 (fetch_price s)) (cond c 0 (save_cycles s t k)) 0)
    go true = leads-none s (mirrored t) qs
    go false =
        leads-on s (cost3 (fetch_price s) (save_cycles s t k) 0) (bill-path (omega arith) (omega arith) (omega arith)) (evicting-leads s ok t sd qs i (line_of s b) k hi (line-lt s ok b) refl)
        (fetch-leads s ok (evicted s t k) (sound-evicted s ok t sd k (slot_lt s ok i b hi)) b qs i hi (evicted-zero s t k) hb)

-- ---- rules 3 to 5: the request is completed

shared-sharing : (s : Setup) (t : Tables) (i : ℕ) (b : Block) → shared s (mirrored t) i b ≡ sharing s t i b
unfolding shared sharing
shared-sharing s t i b = ap (λ P. ltb (other s.processors i P) s.processors) (λ x j. keeps-holds s t j b x)

-- processor i's request
abbrev asks : ℕ → Operation → Request
asks i o = record { processor = i; operation = o }

read-leads : (s : Setup) (t : Tables) (i : ℕ) (v : Variable) (qs : List Request) → i < s.processors → v.0 < variables s → holds s t i (block_of s v) ≡ true
    → Leads s (mirrored t) (asks i (Read v) ∷ qs) (Complete ∷ []) (mirrored t) qs nothing
unfolding rival_completed completion_cycles
read-leads s t i v qs hi n hd =
    leads_one s (mirrored t) (asks i (Read v) ∷ qs) Complete (mirrored t) nothing
    (legal-completion s (mirrored t) (asks i (Read v)) (record { processor = hi; operation = n }) (keeps-holds s t i (block_of s v) ∙ hd)) refl refl

module _ (s : Setup) (ok : Fits s) (t : Tables) (i : ℕ) (v : Variable) (x : ℕ) (qs : List Request) (hi : i < s.processors) (n : v.0 < variables s)
    (hd : holds s t i (block_of s v) ≡ true) where
  fine : refusal s (mirrored t) (asks i (Write v x) ∷ qs) Complete ≡ 0
  fine = legal-completion s (mirrored t) (asks i (Write v x)) (record { processor = hi; operation = n }) (keeps-holds s t i (block_of s v) ∙ hd)

  -- the writer's counter becomes full
  writer-held : map on (set t.counters (slot s i (block_of s v)) (fetch_price s)) ≡ map on t.counters
  writer-held = held_same t.counters (slot s i (block_of s v)) (fetch_price s) ok.some-fetch (holder-slot s t i (block_of s v) hd).0

  alone-leads : sharing s t i (block_of s v) ≡ false
      → Leads s (mirrored t) (asks i (Write v x) ∷ qs) (Complete ∷ []) (mirrored (written_alone s t (slot s i (block_of s v)) (offset_of s v) x)) qs nothing
  unfolding rival_completed completion_cycles written_alone
  alone-leads l =
      let f = shared-sharing s t i (block_of s v) ∙ l in
      leads_one s (mirrored t) (asks i (Write v x) ∷ qs) Complete (mirrored (written_alone s t (slot s i (block_of s v)) (offset_of s v) x)) nothing fine
      (rw f (rival-path refl (sym writer-held) refl)) (rw f)

  broadcast-leads : sharing s t i (block_of s v) ≡ true
      → Leads s (mirrored t) (asks i (Write v x) ∷ qs) (Complete ∷ []) (mirrored (broadcast s t (slot s i (block_of s v)) (block_of s v) (offset_of s v) x)) qs
      (cost3 0 0 1)
  unfolding rival_completed completion_cycles broadcast
  broadcast-leads l =
      let f = shared-sharing s t i (block_of s v) ∙ l in
      leads_one s (mirrored t) (asks i (Write v x) ∷ qs) Complete (mirrored (broadcast s t (slot s i (block_of s v)) (block_of s v) (offset_of s v) x))
      (cost3 0 0 1) fine (rw f (rival-path refl (sym writer-held) refl)) (rw f)

-- the payer's counter falls; at 0 its copy goes
charged-leads : (s : Setup) (ok : Fits s) (t : Tables) (sd : Sound s t) (qs : List Request) (j : ℕ) (b : Block) → j < s.processors
    → holds_at t (slot s j b) b ≡ true → mark t (slot s j b) ≢ 1
    → Leads s (mirrored t) qs (cond (eqb (counter t (slot s j b)) 1) (Drop j b ∷ []) []) (mirrored (charged s t (slot s j b))) qs nothing
unfolding charged
charged-leads s ok t sd qs j b hj hd un = go (eqb (counter t k) 1) refl
  where
    k : ℕ
    k = slot s j b

    lowered : Tables
    lowered = tables t.blocks (set t.counters k (counter t k - 1)) t.marks t.words t.memory

    go : (c : Bool) → eqb (counter t k) 1 ≡ c → Leads s (mirrored t) qs (cond c (Drop j b ∷ []) []) (mirrored (cond c (emptied s t k) lowered)) qs nothing
    go true e = drop-leads s ok t sd qs j b k hj refl hd (omega (arith, (sd.line k (slot_lt s ok j b hj)).mark-le))
    go false e =
        let h = (holds_at-true t k b hd).0 in
        rw (held_same t.counters k (counter t k - 1) (omega (arith, eqb-false (counter t k) 1 e)) h) (leads-none s (mirrored t) qs)

paying-leads : (s : Setup) (ok : Fits s) (t : Tables) (sd : Sound s t) (qs : List Request) (i : ℕ) (b : Block) (o x : ℕ) → i < s.processors → o < s.words
    → holds s t i b ≡ true → sharing s t i b ≡ true
    → Leads s (mirrored (broadcast s t (slot s i b) b o x)) qs (cond (eqb (counter t (slot s (payer s t i b) b)) 1) (Drop (payer s t i b) b ∷ []) [])
    (mirrored (charged s (broadcast s t (slot s i b) b o x) (slot s (payer s t i b) b))) qs nothing
unfolding broadcast
paying-leads s ok t sd qs i b o x hi ho hd l =
    let j : ℕ = payer s t i b in
    let t' : Tables = broadcast s t (slot s i b) b o x in
    let a = payer-found s t i b l in
    let w = shared-facts s ok t sd i b hi o x ho hd l in
    let c : counter t' (slot s j b) ≡ counter t (slot s j b)
    = at_set_other t.counters (slot s i b) (fetch_price s) (slot s j b) (λ y. a.differs (slot-inj s ok j i b b y)) in
    rw c at
    (charged-leads s ok t' w.sound qs j b (payer-below s t i b l) (true-holds_at t' (slot s j b) b w.holds (holder-slot s t j b a.passes).1) w.clean)

written-leads : (s : Setup) (ok : Fits s) (t : Tables) (sd : Sound s t) (i : ℕ) (v : Variable) (x : ℕ) (qs : List Request) → i < s.processors
    → v.0 < variables s → holds s t i (block_of s v) ≡ true
    → Leads s (mirrored t) (asks i (Write v x) ∷ qs) (Complete ∷ paying s t i (block_of s v)) (mirrored (written s t i (block_of s v) (offset_of s v) x)) qs
    (cost3 0 0 (update_cycles s t i (block_of s v)))
unfolding paying written update_cycles
written-leads s ok t sd i v x qs hi n hd = go (sharing s t i b) refl
  where
    b : Block
    b = block_of s v

    o : ℕ
    o = offset_of s v

    j : ℕ
    j = payer s t i b

    t' : Tables
    t' = broadcast s t (slot s i b) b o x

    go : (c : Bool) → sharing s t i b ≡ c
        → Leads s (mirrored t) (asks i (Write v x) ∷ qs) (Complete ∷ cond (c && eqb (counter t (slot s j b)) 1) (Drop j b ∷ []) [])
        (mirrored (cond c (charged s t' (slot s j b)) (written_alone s t (slot s i b) o x))) qs (cost3 0 0 (cond c 1 0))
    go true l =
        leads-on s (cost3 0 0 1) (bill-path (omega arith) (omega arith) (omega arith)) (broadcast-leads s ok t i v x qs hi n hd l)
        (paying-leads s ok t sd qs i b o x hi (offset-lt s ok v) hd l)
    go false l = alone-leads s ok t i v x qs hi n hd l

-- ---- a cache is cleared

-- each line that it empties has no copy then
cleared-empty : (s : Setup) (t : Tables) (i : ℕ) → empty_cache s (mirrored (cleared s t i s.lines)) i ≡ true
cleared-empty s t i =
    let t' : Tables = cleared s t i s.lines in
    lines-empty s (mirrored t') i (λ l h. at_held t'.counters (line_slot s i l) ∙ ap on (cleared-zero s t i s.lines l h))

clearing-leads : (s : Setup) (ok : Fits s) (t : Tables) (sd : Sound s t) (qs : List Request) (i n : ℕ) → i < s.processors → n ≤ s.lines
    → Leads s (mirrored t) qs (clearing s t i n) (mirrored (cleared s t i n)) qs (cost3 0 (clear_cycles s t i n) 0)
clearing-leads s ok t sd qs i zero hi hn = leads-none s (mirrored t) qs
clearing-leads s ok t sd qs i (suc n) hi hn =
    leads-on s _ (bill-path (omega arith) (omega arith) (omega arith)) (clearing-leads s ok t sd qs i n hi (omega arith))
    (evicting-leads s ok (cleared s t i n) (sound-cleared s ok t sd i n hi (omega arith)) qs i n (line_slot s i n) hi hn refl)

clear-leads : (s : Setup) (t : Tables) (i : ℕ) (qs : List Request) → i < s.processors → empty_cache s (mirrored t) i ≡ true
    → Leads s (mirrored t) (asks i Clear ∷ qs) (Complete ∷ []) (mirrored t) qs nothing
unfolding rival_completed completion_cycles
clear-leads s t i qs hi e =
    leads_one s (mirrored t) (asks i Clear ∷ qs) Complete (mirrored t) nothing
    (legal-completion s (mirrored t) (asks i Clear) (record { processor = hi; operation = tt }) e) refl refl

-- ---- a request, and a list of them

serving_by-leads : (s : Setup) (ok : Fits s) (t : Tables) (sd : Sound s t) (i : ℕ) (o : Operation) (qs : List Request) → i < s.processors → Named s o
    → Leads s (mirrored t) (asks i o ∷ qs) (serving_by s t i o) (mirrored (served_by s t i o)) qs (bill_by s t i o)
serving_by-leads s ok t sd i (Read v) qs hi n =
    let b : Block = block_of s v in
    leads-on s _ (bill-path (omega arith) (omega arith) (omega arith)) (obtaining-leads s ok t sd (asks i (Read v) ∷ qs) i b hi (block-lt s ok v n))
    (read-leads s (obtained s t i b) i v qs hi n (obtained-holds s ok t sd.lengths i b hi))
serving_by-leads s ok t sd i (Write v x) qs hi n =
    let b : Block = block_of s v in
    leads-on s _ (bill-path (omega arith) (omega arith) (omega arith)) (obtaining-leads s ok t sd (asks i (Write v x) ∷ qs) i b hi (block-lt s ok v n))
    (written-leads s ok (obtained s t i b) (sound-obtained s ok t sd i b hi (block-lt s ok v n)) i v x qs hi n (obtained-holds s ok t sd.lengths i b hi))
serving_by-leads s ok t sd i Clear qs hi n =
    leads-on s _ (bill-path (omega arith) (omega arith) (omega arith)) (clearing-leads s ok t sd (asks i Clear ∷ qs) i s.lines hi (le_refl _))
    (clear-leads s (cleared s t i s.lines) i qs hi (cleared-empty s t i))

serving-leads : (s : Setup) (ok : Fits s) (t : Tables) (sd : Sound s t) (q : Request) (qs : List Request) → Valid s q
    → Leads s (mirrored t) (q ∷ qs) (serving s t q) (mirrored (served s t q)) qs (bill s t q)
unfolding serving served bill
serving-leads s ok t sd q qs v = serving_by-leads s ok t sd q.processor q.operation qs v.processor v.operation

-- from copies r, where the engine's tables are t
record Whole (s : Setup) (t : Tables) (r : Rival) (qs : List Request) : Type 0 where
  legal : Legal s r qs (engine_schedule s t qs)
  pays : costs s r qs (engine_schedule s t qs) ≡ spent (engine s) t qs
  last : last_copies s r qs (engine_schedule s t qs) ≡ mirrored (served_all (engine s) t qs)

whole : (s : Setup) (ok : Fits s) (t : Tables) (sd : Sound s t) (qs : List Request) → AllValid s qs → Whole s t (mirrored t) qs
whole s ok t sd [] v = record { legal = refl; pays = refl; last = refl }
whole s ok t sd (q ∷ qs) v =
    let es : List Entry = engine_schedule s (served s t q) qs in
    let f = serving-leads s ok t sd q qs v.0 in
    let w = whole s ok (served s t q) (sound-served s ok t sd q v.0) qs v.1 in
    record { legal = f.legal es w.legal; pays = f.pays es ∙ ap (plus (bill s t q)) w.pays; last = f.last es ∙ w.last }

-- ---- from fresh tables

mirrored-fresh : (s : Setup) → mirrored (fresh s) ≡ no_copies s
unfolding fresh no_copies
mirrored-fresh s = rival-path refl (held-zeros (slots s)) refl

pub engine-is-rival : (s : Setup) → Fits s → (qs : List Request) → AllValid s qs → EngineIsRival s qs
engine-is-rival s ok qs v =
    let w : Whole s (fresh s) (no_copies s) qs = subst (λ r. Whole s (fresh s) r qs) (mirrored-fresh s) (whole s ok (fresh s) (sound-fresh s) qs v) in
    record {
      legal = w.legal;
      bill = w.pays;
      copies = record {
        held = λ k h. ap (λ (r : Rival). at r.held k) w.last ∙ at_held (served_all (engine s) (fresh s) qs).counters k;
        blocks = λ k h. ap (λ (r : Rival). at r.blocks k) w.last;
        marks = λ k h. ap (λ (r : Rival). at r.marks k) w.last;
      };
    }

-- ---- the requests that a list of runs takes

pub runs-rival : (s : Setup) → setup_refusal s ≡ no_refusal → (n : ℕ) (rs : List (Run Request)) → EngineIsRival s (taken_all (engine s) n rs)
runs-rival s accepted n rs =
    engine-is-rival s (setup-fits s accepted) (taken_all (engine s) n rs) (all_valid s (engine s) (Sound s) (Valid s) (lawful s accepted) n rs)
