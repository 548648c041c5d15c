-- The codes of `own_codes` are the engine's own actions: they spell `engine_schedule`, lawfully, at the engine's cycles.
use Prim.Native.Nat.{ℕ, zero, suc, ◌+◌, ◌-◌, ◌≤◌}
use mathlib.Core.Path.{◌≡◌, refl, sym, ap, ◌∙◌, subst}
use mathlib.Core.List.{List, [], ◌∷◌, ◌++◌, append_assoc, append-nil}
use native.Mathlib.Omega.{arith}
use lib.ListN.{length, drop}
use Rattle.protocol_types.specs.Lists.{zeros, tail}
use Rattle.protocol_types.specs.Board.{Fits}
use Rattle.protocol_types.specs.Conditions.{Valid, AllValid}
use Rattle.protocol.specs.Tables.{Tables, fresh}
use Rattle.protocol.specs.Soundness.{Sound}
use Rattle.protocol.specs.Accounts.{cycles}
use Rattle.protocol.specs.Requests.{served}
use Rattle.protocol.specs.Engines.{served_all}
use Rattle.protocol.specs.Runs.{engine}
use Rattle.protocol.specs.Rival.{Rival, no_copies, played, left, refusal, Legal, last_copies}
use Rattle.protocol_types.specs.declared.Setup.{Setup}
use Rattle.protocol_types.specs.declared.Request.{Request}
use Rattle.protocol_types.specs.declared.Entry.{Entry}
use Rattle.protocol_types.specs.declared.Entry.TheVariants.{Fetch, WriteBack, Drop, Complete, CompleteByBroadcast}
use Rattle.protocol.proofs.Engines.{served-append}
use Rattle.competitive.specs.EngineSchedule.{serving, engine_schedule, EngineIsRival}
use Rattle.competitive.proofs.StepSound.{sound-served}
use Rattle.competitive.proofs.Fresh.{sound-fresh}
use Rattle.competitive.proofs.EngineSchedule.{engine-is-rival}
use Rattle.best_search.specs.Search.{Graph, walk, Lawful, total}
use Rattle.best_positions.specs.Position.{number, asked, asked_all, entries_from, next_at, board}
use Rattle.best_positions.specs.Best.{spelled, served_by, engine_cycles}
use Rattle.best_positions.proofs.RivalSound.{RivalSound, sound-no_copies, sound-played}
use Rattle.best_positions.proofs.Schedules.{code_of, coded, entry-back, start-number, agrees-of, PathOf, path-of, spelled-numbers}
use Rattle.best_own.specs.Own.{serving_codes, served_counters, own_from, own_codes, own_numbers}
use Rattle.best_own_parts.proofs.Moves.{walk-append}
use Rattle.best_own_claims.proofs.Codes.{coded-append, serving-codes}
use Rattle.best_own_claims.proofs.Counters.{Counted, counted-fresh, served-counted}

-- ---- lists

schedule-append : (s : Setup) (t : Tables) (ps qs : List Request) → engine_schedule s t (ps ++ qs) ≡ engine_schedule s t ps ++ engine_schedule s (served_all (engine s) t ps) qs
schedule-append s t [] qs = refl
schedule-append s t (p ∷ ps) qs = ap (λ z. serving s t p ++ z) (schedule-append s (served s t p) ps qs) ∙ sym (append_assoc (serving s t p) (engine_schedule s (served s t p) ps) (engine_schedule s (served_all (engine s) (served s t p) ps) qs))

valid-first : (s : Setup) (ps qs : List Request) → AllValid s (ps ++ qs) → AllValid s ps
valid-first s [] qs v = tt
valid-first s (p ∷ ps) qs v = (v.0, valid-first s ps qs v.1)

valid-next : (s : Setup) (ps qs : List Request) → AllValid s (ps ++ qs) → AllValid s qs
valid-next s [] qs v = v
valid-next s (p ∷ ps) qs v = valid-next s ps qs v.1

sound-all : (s : Setup) → Fits s → (t : Tables) → Sound s t → (ps : List Request) → AllValid s ps → Sound s (served_all (engine s) t ps)
sound-all s ok t sd [] v = sd
sound-all s ok t sd (p ∷ ps) v = sound-all s ok (served s t p) (sound-served s ok t sd p v.0) ps v.1

drop-tail : (n : ℕ) (qs : List Request) → drop (suc n) qs ≡ tail (drop n qs)
drop-tail zero [] = refl
drop-tail zero (q ∷ qs) = refl
drop-tail (suc n) [] = refl
drop-tail (suc n) (q ∷ qs) = drop-tail n qs

-- ---- an entry that is legal where the requests ps are left does the same where more are left

record SameStep (s : Setup) (r : Rival) (n : ℕ) (ps qs : List Request) (e : Entry) : Type 0 where
  refused : refusal s r (drop n qs) e ≡ 0
  leads : played s r (drop n qs) e ≡ played s r ps e
  rest : (more : List Request) → drop n qs ≡ ps ++ more → drop (served_by n e) qs ≡ left ps e ++ more
  count : served_by n e + length (left ps e) ≡ n + length ps

same_step : (s : Setup) (r : Rival) (n : ℕ) (ps qs more : List Request) → drop n qs ≡ ps ++ more → (e : Entry) → refusal s r ps e ≡ 0 → SameStep s r n ps qs e
same_step s r n ps qs more p (Fetch i b) h = record { refused = h; leads = refl; rest = λ m e. e; count = refl }
same_step s r n ps qs more p (WriteBack i b) h = record { refused = h; leads = refl; rest = λ m e. e; count = refl }
same_step s r n ps qs more p (Drop i b) h = record { refused = h; leads = refl; rest = λ m e. e; count = refl }
same_step s r n [] qs more p Complete h = absurd (omega arith)
same_step s r n (q ∷ ps) qs more p Complete h =
    record { refused = rw p h; leads = rw p; rest = λ m e. drop-tail n qs ∙ ap tail e; count = omega arith }
same_step s r n [] qs more p CompleteByBroadcast h = absurd (omega arith)
same_step s r n (q ∷ ps) qs more p CompleteByBroadcast h =
    record { refused = rw p h; leads = refl; rest = λ m e. drop-tail n qs ∙ ap tail e; count = omega arith }

module _ (s : Setup) (ok : Fits s) (two : s.processors ≡ 2) (small : s.blocks ≤ 4) (qs : List Request) (short : length qs ≤ 24) (valid : AllValid s qs) where
  abbrev asks : List ℕ
  asks = asked_all s qs

  abbrev g : Graph
  g = board s asks

  next-board : (u k : ℕ) → g.next u k ≡ next_at asks u k
  unfolding board
  next-board u k = refl

  -- ---- where a schedule for some of the requests leads

  record Leads (r : Rival) (n : ℕ) (ps : List Request) (es : List Entry) : Type 0 where
    sound : RivalSound s (last_copies s r ps es)
    position : walk g (number s r n) (coded es) ≡ number s (last_copies s r ps es) (n + length ps)
    spells : spelled asks (number s r n) (coded es) ≡ es

  leads : (es : List Entry) (r : Rival) → RivalSound s r → (n : ℕ) (ps more : List Request) → drop n qs ≡ ps ++ more → Legal s r ps es → Leads r n ps es
  leads [] r sd n [] more p h = record { sound = sd; position = ap (number s r) (omega arith); spells = refl }
  leads [] r sd n (q ∷ ps) more p h = absurd (omega arith)
  leads (e ∷ es) r sd n ps more p h =
      let x : SameStep s r n ps qs e = same_step s r n ps qs more p e h.0 in
      let next : g.next (number s r n) (code_of e) ≡ number s (played s r ps e) (served_by n e)
      = (agrees-of s ok two small qs short valid r sd n e x.refused).next-is x.refused ∙ ap (λ z. number s z (served_by n e)) x.leads in
      let w = leads es (played s r ps e) (sound-played s ok r sd ps e h.0) (served_by n e) (left ps e) more (x.rest more p) h.1 in
      record {
        sound = w.sound;
        position = ap (λ z. walk g z (coded es)) next ∙ w.position ∙ ap (number s (last_copies s r ps (e ∷ es))) x.count;
        spells = λ i. entry-back s two small r n (drop n qs) e x.refused i ∷ (ap (λ z. spelled asks z (coded es)) (sym (next-board (number s r n) (code_of e)) ∙ next) ∙ w.spells) i;
      }

  -- ---- from empty caches, after the first requests ps

  module _ (ps more : List Request) (p : qs ≡ ps ++ more) where
    abbrev t : Tables
    t = served_all (engine s) (fresh s) ps

    abbrev es : List Entry
    es = engine_schedule s (fresh s) ps

    abbrev r : Rival
    r = last_copies s (no_copies s) ps es

    valid-ps : AllValid s ps
    valid-ps = valid-first s ps more (subst (AllValid s) p valid)

    mine : EngineIsRival s ps
    mine = engine-is-rival s ok ps valid-ps

    led : Leads (no_copies s) 0 ps es
    led = leads es (no_copies s) (sound-no_copies s) 0 ps more p mine.legal

    here : walk g 0 (coded es) ≡ number s r (length ps)
    here = ap (λ z. walk g z (coded es)) (sym (start-number s)) ∙ led.position ∙ ap (number s r) (omega arith)

    sound-here : Sound s t
    sound-here = sound-all s ok (fresh s) (sound-fresh s) ps valid-ps

  -- the next request

  module _ (q : Request) (ps later : List Request) (p : qs ≡ ps ++ q ∷ later) (c : List ℕ) (counted : Counted s (served_all (engine s) (fresh s) ps) c) where
    abbrev u : ℕ
    u = walk g 0 (coded (engine_schedule s (fresh s) ps))

    abbrev t₀ : Tables
    t₀ = served_all (engine s) (fresh s) ps

    valid-q : Valid s q
    valid-q = (valid-next s ps (q ∷ later) (subst (AllValid s) p valid)).0

    next-codes : serving_codes s u c (asked s q) ≡ coded (serving s t₀ q)
    unfolding asked serving
    next-codes =
        rw (here ps (q ∷ later) p)
        (serving-codes s ok two small t₀ (sound-here ps (q ∷ later) p) (r ps (q ∷ later) p) (led ps (q ∷ later) p).sound (mine ps (q ∷ later) p).copies (length ps) q.processor (omega (arith, valid-q.processor)) c
        (λ b hb h. counted.counters (1 - q.processor) b (omega arith) hb h) q.operation valid-q.operation)

    next-counted : Counted s (served s t₀ q) (served_counters s u c (asked s q))
    unfolding asked served
    next-counted =
        rw (here ps (q ∷ later) p)
        (served-counted s ok two small t₀ (sound-here ps (q ∷ later) p) (r ps (q ∷ later) p) (led ps (q ∷ later) p).sound (mine ps (q ∷ later) p).copies (length ps) c counted q.processor (omega (arith, valid-q.processor))
        q.operation valid-q.operation)

    next_place : walk g u (coded (serving s t₀ q)) ≡ walk g 0 (coded (engine_schedule s (fresh s) (ps ++ q ∷ [])))
    next_place =
        let es₀ : List Entry = engine_schedule s (fresh s) ps in
        sym (walk-append g 0 (coded es₀) (coded (serving s t₀ q)))
        ∙ ap (walk g 0) (sym (coded-append es₀ (serving s t₀ q)) ∙ ap coded (sym (schedule-append s (fresh s) ps (q ∷ []) ∙ ap (λ z. es₀ ++ z) (append-nil (serving s t₀ q)))))

  own-from : (later ps : List Request) → qs ≡ ps ++ later → (c : List ℕ) → Counted s (served_all (engine s) (fresh s) ps) c
      → own_from s asks (walk g 0 (coded (engine_schedule s (fresh s) ps))) c (asked_all s later) ≡ coded (engine_schedule s (served_all (engine s) (fresh s) ps) later)
  own-from [] ps p c counted = refl
  own-from (q ∷ later) ps p c counted =
      let t₀ : Tables = served_all (engine s) (fresh s) ps in
      let u₀ : ℕ = walk g 0 (coded (engine_schedule s (fresh s) ps)) in
      let c' : List ℕ = served_counters s u₀ c (asked s q) in
      let one = served-append (engine s) (fresh s) ps (q ∷ []) in
      ap (λ z. z ++ own_from s asks (walk g u₀ z) c' (asked_all s later)) (next-codes q ps later p c counted)
      ∙ ap (λ z. coded (serving s t₀ q) ++ z)
      (ap (λ z. own_from s asks z c' (asked_all s later)) (next_place q ps later p c counted)
      ∙ own-from later (ps ++ q ∷ []) (p ∙ sym (append_assoc ps (q ∷ []) later)) c' (rw one (next-counted q ps later p c counted))
      ∙ ap (λ z. coded (engine_schedule s z later)) one)
      ∙ sym (coded-append (serving s t₀ q) (engine_schedule s (served s t₀ q) later))

  -- ---- the whole list

  pub own-codes : own_codes s asks ≡ coded (engine_schedule s (fresh s) qs)
  unfolding own_codes
  own-codes = own-from qs [] refl (zeros 8) (counted-fresh s)

  whole : EngineIsRival s qs
  whole = engine-is-rival s ok qs valid

  pub own-spelled : spelled asks 0 (own_codes s asks) ≡ engine_schedule s (fresh s) qs
  own-spelled =
      let es₀ : List Entry = engine_schedule s (fresh s) qs in
      ap (spelled asks 0) own-codes ∙ ap (λ z. spelled asks z (coded es₀)) (sym (start-number s))
      ∙ (leads es₀ (no_copies s) (sound-no_copies s) 0 qs [] (sym (append-nil qs)) whole.legal).spells

  path : PathOf s ok two small qs short valid (no_copies s) 0 (engine_schedule s (fresh s) qs)
  path = path-of s ok two small qs short valid (engine_schedule s (fresh s) qs) (no_copies s) (sound-no_copies s) 0 (omega arith) whole.legal

  pub own-lawful : Lawful g 0 (own_codes s asks)
  own-lawful = rw own-codes (subst (λ z. Lawful g z (coded (engine_schedule s (fresh s) qs))) (start-number s) path.lawful)

  pub own-total : total g 0 (own_codes s asks) ≡ engine_cycles s qs
  unfolding engine_cycles
  own-total =
      ap (total g 0) own-codes ∙ ap (λ z. total g z (coded (engine_schedule s (fresh s) qs))) (sym (start-number s)) ∙ path.total-is ∙ ap cycles whole.bill

  -- the numbers tell the engine's schedule
  pub own-entries : entries_from (own_numbers s asks) ≡ engine_schedule s (fresh s) qs
  unfolding own_numbers
  own-entries = spelled-numbers s asks 0 (own_codes s asks) own-lawful ∙ own-spelled
