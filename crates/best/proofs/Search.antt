-- What the search answers and leaves, at each of its ends: refused before the first request or by one of them, or found. Assumes nothing.
use Prim.Native.Nat.{ℕ, ◌≤◌}
use mathlib.Core.Path.{◌≡◌, refl, sym, ap, ◌∙◌}
use mathlib.Core.Logic.{◌≢◌}
use mathlib.Core.Bool.{Bool, true, false}
use mathlib.Core.List.{List}
use native.Mathlib.Omega.{arith}
use lib.ListN.{length, take}
use borrow.Author.Tests.{eqb-false, eq-eqb}
use Rattle.std.specs.Prelude.{Result, Ok, Err}
use Rattle.std.proofs.Math.Seq.{take-append_seam}
use Rattle.protocol_types.specs.Refusals.{no_refusal, number}
use Rattle.protocol_types.specs.SearchAnswers.{Found, Refused, search_answer}
use Rattle.protocol_types.specs.Board.{Fits}
use Rattle.protocol_types.specs.declared.Setup.{Setup}
use Rattle.protocol_types.specs.declared.Request.{Request}
use Rattle.protocol_types.specs.declared.Entry.{Entry}
use Rattle.protocol_types.specs.declared.Refusal.{Refusal}
use Rattle.protocol_types.specs.declared.BestSchedule.{BestSchedule}
use Rattle.protocol_types.specs.declared.PlacedRefusal.{PlacedRefusal}
use Rattle.protocol_types.proofs.Refusals.{first-refuses, first_passes, neither-refuses, number-is}
use Rattle.best_positions.specs.Position.{asked_all, entries_from}
use Rattle.best_positions.specs.Best.{SearchTables, position_count, search_sized, search_refusal, requests_refusal, requests_place, best_refusal, best_place, schedule, best_schedule, best_answer}
use Rattle.best_positions.proofs.SoFar.{SearchableFacts, searchable-facts, best-found}
use Rattle.best_schedule.specs.Found.{numbers_found, best_found, tables_after}
use Rattle.best_schedule.specs.Lent.{TablesFit}
use Rattle.best_schedule.proofs.Found as found
use Rattle.best_steps.specs.Steps.{lengths_fit, AreAsked, IsFirstRefused}
use Rattle.best_steps.proofs.Checks.{checked, tables-sized}
use Rattle.stored_lists.specs.Lists.{filled}
use Rattle.best.specs.Lists.{entries_lent, best_stored}

-- ---- what the checks before the first request tell

module _ (s : Setup) (qs : List Request) (x : SearchTables) (count : ℕ) (right : Bool) (n e : ℕ) (is-count : count ≡ length qs)
    (is-right : right ≡ lengths_fit (length x.distances) (length x.order) (length x.predecessors) (length x.lowest) n) (is-n : n ≡ e) where
  pub checked-is : search_refusal s count right ≡ search_refusal s (length qs) (search_sized x e)
  unfolding search_sized
  checked-is =
      ap (λ k. search_refusal s k right) is-count
      ∙ ap (search_refusal s (length qs)) (is-right ∙ ap (λ k. lengths_fit (length x.distances) (length x.order) (length x.predecessors) (length x.lowest) k) is-n)

  pub record Passed : Type 0 where
    pub passed : search_refusal s (length qs) (search_sized x e) ≡ no_refusal
    pub fits : Fits s
    pub two : s.processors ≡ 2
    pub small : s.blocks ≤ 4
    pub few : length qs ≤ 24
    pub tables : TablesFit x
    pub room : e ≡ position_count

  pub passes : no_refusal ≡ search_refusal s count right → Passed
  passes h =
      let p = sym checked-is ∙ sym h in
      let c = checked s (length qs) (search_sized x e) p in
      let t = tables-sized x e c.sized-so in
      record { passed = p; fits = c.fits; two = c.two; small = c.small; few = c.few; tables = t.0; room = t.1 }

-- a list with room for some entries has as many
pub lent-is : (both : Bool) (n : ℕ) → entries_lent both n ≡ position_count → n ≡ position_count
lent-is true n e = e
lent-is false n e = absurd (omega (arith, e))

-- the front of the distances, once the search is done
front-is : (s : Setup) (asks : List ℕ) (m : ℕ) → take (best_found s asks m).length (tables_after s asks m).distances ≡ numbers_found s asks m
unfolding best_found tables_after
front-is s asks m = take-append_seam (numbers_found s asks m) _

-- ---- where nothing is refused

module _ (s : Setup) (qs : List Request) where
  -- the tables and the list have their lengths
  pub room-is : (x : SearchTables) (e : ℕ) → best_refusal s qs (search_sized x e) ≡ no_refusal → e ≡ position_count
  unfolding best_refusal
  room-is x e ok =
      let c = checked s (length qs) (search_sized x e) (neither-refuses (search_refusal s (length qs) (search_sized x e)) (requests_refusal s qs) ok).0 in
      (tables-sized x e c.sized-so).1

  module _ (m : ℕ) (sized : Bool) (ok : best_refusal s qs sized ≡ no_refusal) where
    let_through : best_refusal s qs true ≡ no_refusal
    unfolding best_refusal
    let_through =
        let c = checked s (length qs) sized (neither-refuses (search_refusal s (length qs) sized) (requests_refusal s qs) ok).0 in
        ap (best_refusal s qs) (sym c.sized-so) ∙ ok

    facts : SearchableFacts s qs
    facts = searchable-facts s qs let_through

    pub schedule-fits : length (schedule s qs m) ≤ position_count
    schedule-fits = (best-found s qs let_through m).fits

    best-is : best_found s (asked_all s qs) m ≡ best_schedule s qs m
    best-is = found.best-is s facts.fits facts.two facts.few-blocks qs facts.few-requests facts.valid m

    entries-are : entries_from (numbers_found s (asked_all s qs) m) ≡ schedule s qs m
    entries-are = found.entries-are s facts.fits facts.two facts.few-blocks qs facts.few-requests facts.valid m

    pub best-fits : (best_found s (asked_all s qs) m).length ≤ position_count
    unfolding best_schedule
    best-fits = omega (arith, ap (λ (b : BestSchedule). b.length) best-is, schedule-fits)

-- ---- the ends

module _ (s : Setup) (qs : List Request) (m : ℕ) (x₀ : SearchTables) (sized : Bool) {A : Type 0} (stored : List A → ℕ → Entry → List A) (lent : List A) where
  -- what is answered, and the list and the tables then
  abbrev pub Ends : Result BestSchedule PlacedRefusal → List A → SearchTables → Type 0
  Ends r list x =
      (search_answer r ≡ best_answer s qs m sized) × (list ≡ best_stored stored s qs m sized lent) × (best_refusal s qs sized ≢ no_refusal → x ≡ x₀)

  refused : (r : PlacedRefusal) → number r.refusal ≡ best_refusal s qs sized → r.place ≡ best_place s qs sized → Ends (Err r) lent x₀
  unfolding best_answer best_stored
  refused r e p =
      let f = number-is r.refusal (best_refusal s qs sized) e in
      (ap (λ n. Refused n r.place) e ∙ ap (Refused (best_refusal s qs sized)) p ∙ rw f, rw f, λ d. refl)

  -- before the first request
  pub refused-first : (r : Refusal) → number r ≡ search_refusal s (length qs) sized → Ends (Err (record { refusal = r; place = 0 })) lent x₀
  unfolding best_refusal best_place
  refused-first r e =
      let f = number-is r (search_refusal s (length qs) sized) e in
      let p : 0 ≡ best_place s qs sized = rw f in
      refused (record { refusal = r; place = 0 })
      (e ∙ sym (first-refuses (search_refusal s (length qs) sized) (requests_refusal s qs) (eqb-false _ _ f))) p

  module _ (passed : search_refusal s (length qs) sized ≡ no_refusal) where
    -- by a request
    pub refused-later : (r : PlacedRefusal) → IsFirstRefused s qs r → Ends (Err r) lent x₀
    unfolding best_refusal best_place
    refused-later r f =
        let p : requests_place s qs ≡ best_place s qs sized = rw passed in
        refused r (f.refusal ∙ sym (first_passes (search_refusal s (length qs) sized) (requests_refusal s qs) passed)) (f.place ∙ p)

    module _ (asks : List ℕ) (a : AreAsked s qs asks) (count : ℕ) (is-count : count ≡ length qs) where
      accepted : best_refusal s qs sized ≡ no_refusal
      unfolding best_refusal
      accepted = first_passes (search_refusal s (length qs) sized) (requests_refusal s qs) passed ∙ a.passed

      asked-is : take count asks ≡ asked_all s qs
      asked-is = ap (λ k. take k asks) is-count ∙ a.numbers

      module _ (b : BestSchedule) (is-b : b ≡ best_found s (take count asks) m) where
        pub found-fits : b.length ≤ position_count
        found-fits = rw (is-b, asked-is) (best-fits s qs m sized accepted)

        pub found-ends : (x : SearchTables) → x ≡ tables_after s (take count asks) m → (list : List A) → list ≡ filled stored lent (entries_from (take b.length x.distances)) → Ends (Ok b) list x
        unfolding best_answer best_stored
        found-ends x is-x list is-list =
            let e = eq-eqb (best_refusal s qs sized) no_refusal accepted in
            let numbers : take b.length x.distances ≡ numbers_found s (asked_all s qs) m =
            ap (λ (c : BestSchedule). take c.length x.distances) is-b ∙ ap (λ (y : SearchTables). take (best_found s (take count asks) m).length y.distances) is-x
            ∙ front-is s (take count asks) m ∙ ap (λ l. numbers_found s l m) asked-is in (
              ap Found (is-b ∙ ap (λ l. best_found s l m) asked-is ∙ best-is s qs m sized accepted) ∙ rw e,
              is-list ∙ ap (λ l. filled stored lent (entries_from l)) numbers ∙ ap (filled stored lent) (entries-are s qs m sized accepted) ∙ rw e,
              λ d. absurd (d accepted),
            )
