-- What the search finds for requests that come as numbers: the schedule as numbers that tell its entries, the answer, and the tables.
use Rattle.std.specs.Prelude.{ℕ, ◌+◌, ◌-◌, ◌/◌, cond, List, ◌++◌, length, drop, eqb}
use Rattle.best_search.specs.Search.{State, total, searched, over, used}
use Rattle.best_positions.specs.Position.{board}
use Rattle.best_positions.specs.Best.{SearchTables, search_tables, position_count, way_back}
use Rattle.best_lowest.specs.Lowest.{lowest_of}
use Rattle.best_own.specs.Own.{own_codes, own_numbers}
use Rattle.protocol_types.specs.declared.Setup.{Setup}
use Rattle.protocol_types.specs.declared.BestSchedule.{BestSchedule}

-- what the engine's own actions cost
unfoldable pub own_cost : Setup → List ℕ → ℕ
own_cost s asks = total (board s asks) 0 (own_codes s asks)

-- the search after at most m steps
unfoldable pub search_found : Setup → List ℕ → ℕ → State
search_found s asks m = searched (board s asks) (own_cost s asks) m

-- the way to the goal v, by the table of predecessors; the engine's own actions while nothing cheaper was found
unfoldable pub numbers_to : Setup → List ℕ → List ℕ → ℕ → List ℕ
numbers_to s asks via v = cond (eqb v position_count) (own_numbers s asks) (way_back s asks via v)

unfoldable pub numbers_found : Setup → List ℕ → ℕ → List ℕ
numbers_found s asks m = numbers_to s asks (search_found s asks m).via (search_found s asks m).goal

unfoldable pub best_found : Setup → List ℕ → ℕ → BestSchedule
best_found s asks m = record {
  length = length (numbers_found s asks m);
  cost = (search_found s asks m).limit;
  steps = used (search_found s asks m);
  least = over (board s asks) (search_found s asks m);
  excess = (search_found s asks m).limit - (own_cost s asks + 1) / 2;
}

-- the tables then: the numbers stand at the front of the distances
unfoldable pub tables_after : Setup → List ℕ → ℕ → SearchTables
tables_after s asks m =
    search_tables (numbers_found s asks m ++ drop (length (numbers_found s asks m)) (search_found s asks m).dist) (search_found s asks m).order
    (search_found s asks m).via (lowest_of (search_found s asks m).dist (search_found s asks m).order)
