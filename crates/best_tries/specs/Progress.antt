-- The search's state as the code has it: three tables, and a progress by value.
use Rattle.std.specs.Prelude.{ℕ, ◌≤◌, ◌<◌, List}
use Rattle.protocol_types.specs.Lists.{at}
use Rattle.best_search.specs.Search.{State, Tried}
use Rattle.best_tries.specs.declared.Progress.{Progress}

-- distances, order, predecessors, progress and what was tried
abbrev pub state_at : List ℕ → List ℕ → List ℕ → Progress → List Tried → State
state_at d o v p ts = record {
  dist = d;
  order = o;
  via = v;
  current = p.current;
  code = p.code;
  settled = p.settled;
  limit = p.limit;
  goal = p.goal;
  tries = ts;
}

-- a distance is new, or smaller than the old one
abbrev pub Falls : List ℕ → ℕ → ℕ → Type 0
Falls d w n = 1 ≤ at d w → n < at d w
