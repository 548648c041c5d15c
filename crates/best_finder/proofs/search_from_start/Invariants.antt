use mathlib.Core.Path.{◌≡◌}
use mathlib.Core.List.{[]}
use Rattle.best_search.proofs.Loop.{fuel}
use Rattle.best_positions.specs.Position.{board}
use Rattle.best_lowest.specs.Lowest.{lowest_of}
use Rattle.best_tries.specs.Progress.{state_at}
use Rattle.best_finder.proofs.Going.{Going}
use Rattle.best_finder.proofs.search_from_start.Given as goal

abbrev pub invariant-loop-setup : goal.invariant-loop-setup
invariant-loop-setup l = record {
  going : Going l.setup l.asks l.steps l.own l.distances l.order l.predecessors l.p;
  table : l.lowest ≡ lowest_of l.distances l.order;
}

abbrev pub decreases-loop-setup : goal.decreases-loop-setup
decreases-loop-setup l =
    fuel (board l.setup l.asks) (state_at l.distances l.order l.predecessors l.p [])
