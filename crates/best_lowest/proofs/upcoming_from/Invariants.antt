use Rattle.std.proofs.Common.{◌≡◌, ◌-◌}
use Rattle.best_search.specs.Search.{upcoming}
use Rattle.best_lowest.proofs.upcoming_from.Given as goal

abbrev pub invariant-loop-l : goal.invariant-loop-l
invariant-loop-l l =
    upcoming 32400 1296 l.distances l.order l.limit (25 - l.l) l.l ≡ upcoming 32400 1296 l.distances l.order l.limit (25 - l.layer) l.layer
