use Rattle.std.proofs.Common.{◌≡◌, ◌+◌, ◌-◌, eqb}
use Rattle.protocol_types.specs.Lists.{first, first_from}
use Rattle.best_lowest.specs.Lowest.{waiting}
use Rattle.best_lowest.proofs.first_waiting.Given as goal

abbrev pub invariant-loop-j : goal.invariant-loop-j
invariant-loop-j l =
    first_from (l.count - l.j) l.j (λ i. eqb (waiting l.distances l.order (l.start + i)) l.distance)
    ≡ first l.count (λ i. eqb (waiting l.distances l.order (l.start + i)) l.distance)
