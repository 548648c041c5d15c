-- A move of the search, of the tables and the progress.
use Rattle.std.specs.Prelude.{ℕ, ◌+◌, ◌≡◌, true, List, length}
use Rattle.protocol_types.specs.Lists.{at}
use Rattle.best_search.specs.Search.{Graph, State, tick}
use Rattle.best_tries.specs.declared.Progress.{Progress}
use Rattle.best_tries.specs.Progress.{state_at, Falls}

-- these tables and this progress are one move after state t
pub record Moved (g : Graph) (t : State) (d o v : List ℕ) (r : Progress) : Type 0 where
  pub state : state_at d o v r (tick g t).tries ≡ tick g t
  pub count : length (tick g t).tries ≡ r.used

-- where entry k of position u is legal and gives a position a new or smaller distance, that position is not settled
abbrev pub OpenNext : Graph → List ℕ → List ℕ → ℕ → ℕ → Type 0
OpenNext g d o u k = g.legal u k ≡ true → Falls d (g.next u k) (at d u + g.price u k) → at o (g.next u k) ≡ 0
