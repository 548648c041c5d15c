-- What the search finds for requests as numbers is what the statement says of the requests: the same answer, and the numbers tell the schedule's entries.
use Prim.Native.Nat.{ℕ, zero, suc, ◌+◌, ◌-◌, ◌/◌, ◌≤◌, ◌<◌}
use mathlib.Core.Path.{◌≡◌, refl, sym, ap, ◌∙◌}
use mathlib.Core.Bool.{Bool, true, false, cond}
use mathlib.Core.List.{List, [], ◌∷◌}
use native.Mathlib.Omega.{arith}
use lib.ListN.{length, get_or, drop, get_or-append}
use lib.Dec.{eqb}
use borrow.Author.Tests.{eqb-false}
use Rattle.protocol_types.specs.Lists.{at}
use Rattle.protocol_types.specs.Board.{Fits}
use Rattle.protocol_types.specs.Conditions.{AllValid}
use Rattle.protocol.specs.Tables.{fresh}
use Rattle.competitive.specs.EngineSchedule.{engine_schedule}
use Rattle.protocol_types.specs.declared.Setup.{Setup}
use Rattle.protocol_types.specs.declared.Request.{Request}
use Rattle.protocol_types.specs.declared.Entry.TheVariants.{Complete}
use Rattle.best_search.specs.Search.{State, searched, over, used}
use Rattle.best_positions.specs.Position.{asked_all, entry_from, entries_from, board}
use Rattle.best_positions.specs.Best.{position_count, engine_cycles, found, schedule, way_back, best_schedule}
use Rattle.best_positions.proofs.SoFar.{way_back_lem}
use Rattle.best_own.specs.Own.{own_numbers}
use Rattle.best_own_claims.proofs.Schedule.{own-total, own-entries}
use Rattle.best_schedule.specs.Found.{own_cost, search_found, numbers_to, numbers_found, best_found, tables_after}

length-entries : (ns : List ℕ) → length (entries_from ns) ≡ length ns
length-entries [] = refl
length-entries (n ∷ ns) = ap suc (length-entries ns)

-- an entry by its place
entry-by-place : (ns : List ℕ) (k : ℕ) → k < length ns → entry_from (at ns k) ≡ get_or (entries_from ns) k Complete
entry-by-place [] k h = absurd (omega arith)
entry-by-place (n ∷ ns) zero h = refl
entry-by-place (n ∷ ns) (suc k) h = entry-by-place ns k (omega arith)

-- while nothing cheaper was found
schedule-own : (s : Setup) (qs : List Request) (m : ℕ) → eqb (found s qs m).goal position_count ≡ true → schedule s qs m ≡ engine_schedule s (fresh s) qs
unfolding schedule
schedule-own s qs m e = rw e

module _ (s : Setup) (ok : Fits s) (two : s.processors ≡ 2) (small : s.blocks ≤ 4) (qs : List Request) (short : length qs ≤ 24) (valid : AllValid s qs) (m : ℕ) where
  abbrev asks : List ℕ
  asks = asked_all s qs

  cost-is : own_cost s asks ≡ engine_cycles s qs
  unfolding own_cost
  cost-is = own-total s ok two small qs short valid

  search_is : search_found s asks m ≡ found s qs m
  unfolding search_found found
  search_is = ap (λ n. searched (board s asks) n m) cost-is

  pub entries-are : entries_from (numbers_found s asks m) ≡ schedule s qs m
  unfolding numbers_found numbers_to
  entries-are = ap (λ (t : State). entries_from (cond (eqb t.goal position_count) (own_numbers s asks) (way_back s asks t.via t.goal))) search_is ∙ go (eqb (found s qs m).goal position_count) refl
    where
      go : (c : Bool) → eqb (found s qs m).goal position_count ≡ c → entries_from (cond c (own_numbers s asks) (way_back s asks (found s qs m).via (found s qs m).goal)) ≡ schedule s qs m
      go true e = own-entries s ok two small qs short valid ∙ sym (schedule-own s qs m e)
      go false e = way_back_lem s ok two small qs short valid m (eqb-false _ _ e)

  length-is : length (numbers_found s asks m) ≡ length (schedule s qs m)
  length-is = sym (length-entries (numbers_found s asks m)) ∙ ap length entries-are

  pub best-is : best_found s asks m ≡ best_schedule s qs m
  unfolding best_found best_schedule
  best-is = λ i. record {
    length = length-is i;
    cost = (search_is i).limit;
    steps = used (search_is i);
    least = over (board s asks) (search_is i);
    excess = (search_is i).limit - (cost-is i + 1) / 2;
  }

  -- the numbers stand at the front of the distances
  pub entry-at : (k : ℕ) → k < length (schedule s qs m) → entry_from (at (tables_after s asks m).distances k) ≡ get_or (schedule s qs m) k Complete
  unfolding tables_after
  entry-at k h =
      let within : k < length (numbers_found s asks m) = omega (arith, h, length-is) in
      ap entry_from (get_or-append (numbers_found s asks m) (drop (length (numbers_found s asks m)) (search_found s asks m).dist) 0 k within)
      ∙ entry-by-place (numbers_found s asks m) k within ∙ ap (λ es. get_or es k Complete) entries-are
