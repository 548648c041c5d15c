use Rattle.std.proofs.Common.{◌≡◌}
use Rattle.best_lowest.specs.Lowest.{lowest_in}
use Rattle.best_lowest.proofs.lowest_in.Given as goal

abbrev pub invariant-loop-j : goal.invariant-loop-j
invariant-loop-j l = l.least ≡ lowest_in l.distances l.order l.start l.j
