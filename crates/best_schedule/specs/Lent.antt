-- The search tables of four lent buffers.
use Rattle.std.specs.Prelude.{ℕ, ◌≡◌, List, length}
use Rattle.best_positions.specs.Best.{SearchTables, search_tables, position_count, group_count}

-- a contract names the moment: as they came in (`.old`) and as they are left (`.new`)
abbrev pub search_lent : List ℕ → List ℕ → List ℕ → List ℕ → SearchTables
search_lent d o p l = search_tables d o p l

-- 2, as facts
pub record TablesFit (x : SearchTables) : Type 0 where
  pub distances : length x.distances ≡ position_count
  pub order : length x.order ≡ position_count
  pub predecessors : length x.predecessors ≡ position_count
  pub lowest : length x.lowest ≡ group_count
