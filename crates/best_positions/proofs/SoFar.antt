-- The promises of P8.
use Prim.Native.Nat.{ℕ, zero, suc, ◌*◌, ◌≤◌}
use mathlib.Core.Path.{◌≡◌, refl, sym, ap, ◌∙◌, subst}
use mathlib.Core.Logic.{◌≢◌}
use mathlib.Core.Bool.{Bool, true, false, ◌&&◌, cond}
use mathlib.Core.List.{List, [], ◌∷◌, ◌++◌}
use native.Mathlib.Omega.{arith}
use lib.ListN.{length, length-append}
use lib.Dec.{ltb, eqb, leb}
use borrow.Author.Tests.{eqb-true, eqb-false, eq-eqb, ne_eqb, leb-true}
use Rattle.protocol_types.specs.Refusals.{no_refusal, not_searchable, unless}
use Rattle.protocol_types.specs.Board.{Fits, setup_refusal, line_slot, slot, block_of}
use Rattle.protocol_types.specs.Conditions.{AllValid, request_refusal}
use Rattle.protocol.specs.Tables.{Tables, fresh, counter, block, marked, holds, sharing}
use Rattle.protocol.specs.Rules.{obtained, payer, cleared}
use Rattle.protocol.specs.Accounts.{cycles, Spent}
use Rattle.protocol.specs.Requests.{served, bill}
use Rattle.protocol.specs.Engines.{spent}
use Rattle.protocol.specs.Runs.{engine}
use Rattle.protocol.specs.Rival.{no_copies, Legal, costs}
use Rattle.protocol_types.specs.declared.Setup.{Setup}
use Rattle.protocol_types.specs.declared.Block.{Block}
use Rattle.protocol_types.specs.declared.Request.{Request}
use Rattle.protocol_types.specs.declared.Operation.{Operation}
use Rattle.protocol_types.specs.declared.Operation.TheVariants.{Read, Write, Clear}
use Rattle.protocol_types.specs.declared.Entry.{Entry}
use Rattle.protocol_types.specs.declared.Entry.TheVariants.{Fetch, WriteBack, Drop, Complete}
use Rattle.protocol_types.proofs.Laws.{choice, chosen-zero, three-true}
use Rattle.protocol_types.proofs.Refusals.{neither-refuses}
use Rattle.protocol_types.proofs.Board.{setup-fits}
use Rattle.protocol_types.proofs.Conditions.{request-passed}
use Rattle.protocol.proofs.Accounts.{spent-none, spent-plus, spent-numbers}
use Rattle.protocol.proofs.Requests.{bill-spent}
use Rattle.competitive.specs.EngineSchedule.{saving, evicting, obtaining, paying, clearing, serving_by, serving, engine_schedule, EngineIsRival}
use Rattle.competitive.proofs.Half.{split-bill}
use Rattle.competitive.proofs.EngineSchedule.{engine-is-rival}
use Rattle.best_search.specs.Search.{Graph, size, State, Lawful, total, walk, EachTried, searched, route, forward, used, Best}
use Rattle.best_search.proofs.Answer.{best}
use Rattle.best_positions.specs.Position.{asked_all, board, entry_number, numbers_of, entries_from}
use Rattle.best_positions.specs.Best.{searchable, search_refusal, requests_refusal, best_refusal, position_count, engine_cycles, found, spelled, schedule, way_back, best_schedule, trials, EveryTried, BestSoFar}
use Rattle.best_positions.proofs.RivalSound.{sound-no_copies}
use Rattle.best_positions.proofs.Schedules.{size_is, start-number, coded, path-of, schedule-of, closed-board, spelled-numbers, entries-told, each-tried, trials-of, trials-length}

-- ---- the engine's own actions are few

few-chosen : (n : ℕ) (c : Bool) (xs ys : List Entry) → length xs ≤ n → length ys ≤ n → length (cond c xs ys) ≤ n
few-chosen n true xs ys h l = h
few-chosen n false xs ys h l = l

few-evicting : (t : Tables) (i k : ℕ) → length (evicting t i k) ≤ 2
unfolding evicting saving
few-evicting t i k = few-chosen 2 (ltb 0 (counter t k)) (cond (marked t k) (WriteBack i (block t k) ∷ []) [] ++ Drop i (block t k) ∷ []) [] (go (marked t k)) (omega arith)
  where
    go : (c : Bool) → length (cond c (WriteBack i (block t k) ∷ []) [] ++ Drop i (block t k) ∷ []) ≤ 2
    go true = omega arith
    go false = omega arith

few-obtaining : (s : Setup) (t : Tables) (i : ℕ) (b : Block) → length (obtaining s t i b) ≤ 3
unfolding obtaining
few-obtaining s t i b =
    few-chosen 3 (holds s t i b) [] (evicting t i (slot s i b) ++ Fetch i b ∷ []) (omega arith)
    (omega (arith, length-append (evicting t i (slot s i b)) (Fetch i b ∷ []), few-evicting t i (slot s i b)))

few-paying : (s : Setup) (t : Tables) (i : ℕ) (b : Block) → length (paying s t i b) ≤ 1
unfolding paying
few-paying s t i b =
    few-chosen 1 (sharing s t i b && eqb (counter t (slot s (payer s t i b) b)) 1) (Drop (payer s t i b) b ∷ []) [] (omega arith) (omega arith)

few-clearing : (s : Setup) (t : Tables) (i n : ℕ) → length (clearing s t i n) ≤ 2 * n
few-clearing s t i zero = omega arith
few-clearing s t i (suc n) =
    omega (arith, length-append (clearing s t i n) (evicting (cleared s t i n) i (line_slot s i n)), few-clearing s t i n, few-evicting (cleared s t i n) i (line_slot s i n))

-- a clear writes back and drops at most 64 blocks
few-serving : (s : Setup) → Fits s → (t : Tables) (i : ℕ) (o : Operation) → length (serving_by s t i o) ≤ 129
few-serving s ok t i (Read v) = omega (arith, length-append (obtaining s t i (block_of s v)) (Complete ∷ []), few-obtaining s t i (block_of s v))
few-serving s ok t i (Write v x) =
    let paid : List Entry = paying s (obtained s t i (block_of s v)) i (block_of s v) in
    omega (arith, length-append (obtaining s t i (block_of s v)) (Complete ∷ paid), few-obtaining s t i (block_of s v), few-paying s (obtained s t i (block_of s v)) i (block_of s v))
few-serving s ok t i Clear = omega (arith, length-append (clearing s t i s.lines) (Complete ∷ []), few-clearing s t i s.lines, ok.few-lines)

pub few-own : (s : Setup) → Fits s → (t : Tables) (qs : List Request) → length (engine_schedule s t qs) ≤ 129 * length qs
unfolding serving
few-own s ok t [] = omega arith
few-own s ok t (q ∷ qs) =
    omega (arith, length-append (serving s t q) (engine_schedule s (served s t q) qs), few-serving s ok t q.processor q.operation, few-own s ok (served s t q) qs)

-- ---- and cost little

own-spent : (s : Setup) → Fits s → (t : Tables) (qs : List Request) → Spent s (length qs) (spent (engine s) t qs)
own-spent s ok t [] = spent-none s
own-spent s ok t (q ∷ qs) =
    subst (λ n. Spent s n (spent (engine s) t (q ∷ qs))) (omega arith)
    (spent-plus s 1 (length qs) (bill s t q) (spent (engine s) (served s t q) qs) (bill-spent s ok t q) (own-spent s ok (served s t q) qs))

-- ---- the search

-- as many entries as are told of a path
length-forward : (g : Graph) (φ : ℕ → ℕ → ℕ) (u : ℕ) (ks : List ℕ) → length (forward g φ u ks) ≡ length ks
length-forward g φ u [] = refl
length-forward g φ u (k ∷ ks) = ap suc (length-forward g φ (g.next u k) ks)

all-steps : (s : Setup) (qs : List Request) → (board s (asked_all s qs)).codes * size (board s (asked_all s qs)) ≡ 583200
unfolding board size
all-steps s qs = refl

used-is : (t : State) → used t ≡ length t.tries
unfolding used
used-is t = refl

none_yet : (s : Setup) (qs : List Request) (m : ℕ) → (searched (board s (asked_all s qs)) (engine_cycles s qs) m).goal ≡ size (board s (asked_all s qs)) → schedule s qs m ≡ engine_schedule s (fresh s) qs
unfolding schedule found
none_yet s qs m e = rw (eq-eqb (searched (board s (asked_all s qs)) (engine_cycles s qs) m).goal position_count (e ∙ size_is s (asked_all s qs)))

module _ (s : Setup) (ok : Fits s) (two : s.processors ≡ 2) (small : s.blocks ≤ 4) (qs : List Request) (short : length qs ≤ 24) (valid : AllValid s qs) (m : ℕ) where
  abbrev g : Graph
  g = board s (asked_all s qs)

  b : Best g (engine_cycles s qs) m
  b = best g (engine_cycles s qs) m (closed-board s ok two small qs short valid)

  mine : EngineIsRival s qs
  mine = engine-is-rival s ok qs valid

  -- a schedule is a path from position 0
  record From (es : List Entry) : Type 0 where
    lawful : Lawful g 0 (coded es)
    total-is : total g 0 (coded es) ≡ cycles (costs s (no_copies s) qs es)
    ends : g.final (walk g 0 (coded es)) ≡ true

  path-from : (es : List Entry) → Legal s (no_copies s) qs es → From es
  path-from es h =
      let w = path-of s ok two small qs short valid es (no_copies s) (sound-no_copies s) 0 (omega arith) h in
      record {
        lawful = subst (λ z. Lawful g z (coded es)) (start-number s) w.lawful;
        total-is = sym (ap (λ z. total g z (coded es)) (start-number s)) ∙ w.total-is;
        ends = sym (ap (λ z. g.final (walk g z (coded es))) (start-number s)) ∙ w.ends;
      }

  -- and a path a schedule
  record Plan (cost : ℕ) (es : List Entry) : Type 0 where
    legal : Legal s (no_copies s) qs es
    pays : cycles (costs s (no_copies s) qs es) ≡ cost
    fits : length es ≤ position_count

  plan-of : (cost : ℕ) (ks : List ℕ) → Lawful g 0 ks → g.final (walk g 0 ks) ≡ true → total g 0 ks ≡ cost → length ks ≤ position_count → Plan cost (spelled (asked_all s qs) 0 ks)
  plan-of cost ks l f c h =
      let w = schedule-of s ok two small qs short valid ks (no_copies s) (sound-no_copies s) 0 (omega arith)
      (subst (λ z. Lawful g z ks) (sym (start-number s)) l) (ap (λ z. g.final (walk g z ks)) (start-number s) ∙ f) in
      record {
        legal = subst (λ z. Legal s (no_copies s) qs (spelled (asked_all s qs) z ks)) (start-number s) w.legal;
        pays = sym (ap (λ z. cycles (costs s (no_copies s) qs (spelled (asked_all s qs) z ks))) (start-number s)) ∙ w.cost-is ∙ ap (λ z. total g z ks) (start-number s) ∙ c;
        fits = omega (arith, ap (λ z. length (spelled (asked_all s qs) z ks)) (start-number s), w.long);
      }

  pub own-short : length (engine_schedule s (fresh s) qs) ≤ position_count
  own-short = omega (arith, few-own s ok (fresh s) qs)

  plan : Plan (found s qs m).limit (schedule s qs m)
  unfolding schedule found board engine_cycles size
  plan =
      choice (λ z. Plan (found s qs m).limit z) (eqb (found s qs m).goal position_count)
      (λ e. record { legal = mine.legal; pays = ap cycles mine.bill ∙ sym (b.none (eqb-true _ _ e)); fits = own-short })
      (λ e. let d = eqb-false (found s qs m).goal position_count e in plan-of (found s qs m).limit (route g (suc position_count) (found s qs m) (found s qs m).goal [])
      (b.legal d) (b.final d) (b.cost d) (b.short d))

  -- the tables give it on the way back, as numbers
  pub way_back_lem : (found s qs m).goal ≢ position_count → entries_from (way_back s (asked_all s qs) (found s qs m).via (found s qs m).goal) ≡ schedule s qs m
  unfolding schedule found board engine_cycles size way_back
  way_back_lem d =
      rw (ne_eqb (found s qs m).goal position_count d)
      (ap entries_from (sym (b.spelt d entry_number))
      ∙ spelled-numbers s (asked_all s qs) 0 (route g (suc position_count) (found s qs m) (found s qs m).goal []) (b.legal d))

  -- at most one entry for each position
  pub way-short : (found s qs m).goal ≢ position_count → length (way_back s (asked_all s qs) (found s qs m).via (found s qs m).goal) ≤ position_count
  unfolding found board engine_cycles size way_back
  way-short d =
      omega (
        arith,
        ap length (b.spelt d entry_number),
        length-forward g entry_number 0 (route g (suc position_count) (found s qs m) (found s qs m).goal []),
        b.short d,
      )

  -- the engine's own actions as numbers
  pub own-told : entries_from (numbers_of (engine_schedule s (fresh s) qs)) ≡ engine_schedule s (fresh s) qs
  own-told = entries-told s two small (no_copies s) qs (engine_schedule s (fresh s) qs) mine.legal

  -- and their cost, which the search is given
  pub own-small : engine_cycles s qs ≤ 60000
  unfolding engine_cycles
  own-small = let e = spent-numbers s ok (length qs) (spent (engine s) (fresh s) qs) (own-spent s ok (fresh s) qs) in omega (arith, e.0, e.1, e.2)

  at_most : (es : List Entry) → Legal s (no_copies s) qs es → cycles (spent (engine s) (fresh s) qs) ≤ 2 * cycles (costs s (no_copies s) qs es)
  at_most es h = let e = split-bill s ok qs es h in omega (arith, e.fetches, e.updates)

  pub best-so-far : BestSoFar s qs m
  unfolding best_schedule found engine_cycles
  best-so-far =
      record {
        legal = plan.legal;
        fits = plan.fits;
        cost = sym plan.pays;
        none = none;
        better = b.better;
        tried = λ es h v. let w = path-from es h in omega (arith, b.tried (coded es) (tried-from es h v) w.ends, w.total-is);
        steps = trials-of s ok two small qs short valid (found s qs m).tries b.trace;
        count = counted;
        within = b.within;
        left = λ d. b.left (omega (arith, b.within));
        least = λ e es h. let w = path-from es h in omega (arith, b.least e (coded es) w.lawful w.ends, w.total-is);
        suffice = λ h. b.suffice (omega (arith, many));
        excess = omega (arith, at_most (schedule s qs m) plan.legal, plan.pays);
      }
    where
      tried-from : (es : List Entry) → Legal s (no_copies s) qs es → EveryTried s (trials s (found s qs m).tries) (no_copies s) 0 qs es
          → EachTried g (found s qs m).tries 0 (coded es)
      tried-from es h v = subst (λ z. EachTried g (found s qs m).tries z (coded es)) (start-number s)
          (each-tried s ok two small qs short valid (found s qs m).tries b.trace es (no_copies s) (sound-no_copies s) 0 h v)

      none : m ≡ 0 → schedule s qs m ≡ engine_schedule s (fresh s) qs
      none e = none_yet s qs m (b.nothing e)

      counted : used (found s qs m) ≡ length (trials s (found s qs m).tries)
      counted = used-is (found s qs m) ∙ sym (trials-length s (found s qs m).tries)

      many : g.codes * size g ≡ 583200
      many = all-steps s qs

-- ---- what no refusal tells

requests-pass : (s : Setup) (qs : List Request) → requests_refusal s qs ≡ no_refusal → AllValid s qs
requests-pass s [] e = tt
requests-pass s (q ∷ qs) e = let h = neither-refuses (request_refusal s 0 q) (requests_refusal s qs) e in ((request-passed s 0 q h.0).0, requests-pass s qs h.1)

pub record SearchableFacts (s : Setup) (qs : List Request) : Type 0 where
  pub fits : Fits s
  pub two : s.processors ≡ 2
  pub few-blocks : s.blocks ≤ 4
  pub few-requests : length qs ≤ 24
  pub valid : AllValid s qs

pub searchable-facts : (s : Setup) (qs : List Request) → best_refusal s qs true ≡ no_refusal → SearchableFacts s qs
unfolding best_refusal search_refusal searchable
searchable-facts s qs e =
    let e₁ = neither-refuses (search_refusal s (length qs) true) (requests_refusal s qs) e in
    let able : Bool = eqb s.processors 2 && leb s.blocks 4 && leb (length qs) 24 in
    let e₂ = neither-refuses (setup_refusal s) (unless able not_searchable no_refusal) e₁.0 in
    let h = three-true (eqb s.processors 2) (leb s.blocks 4) (leb (length qs) 24) (chosen-zero able no_refusal not_searchable (omega arith) e₂.1).0 in
    record {
      fits = setup-fits s e₂.0;
      two = eqb-true _ _ h.0;
      few-blocks = leb-true _ _ h.1;
      few-requests = leb-true _ _ h.2;
      valid = requests-pass s qs e₁.1;
    }

-- P8: where nothing is refused, the answer is the best so far
pub best-found : (s : Setup) (qs : List Request) → best_refusal s qs true ≡ no_refusal → (m : ℕ) → BestSoFar s qs m
best-found s qs e m = let f = searchable-facts s qs e in best-so-far s f.fits f.two f.few-blocks qs f.few-requests f.valid m
