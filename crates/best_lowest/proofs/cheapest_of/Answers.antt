-- The nearest group, and the first position there that has its distance, by the law of the two stages.
use Rattle.std.proofs.Common.{arith}
use Rattle.best_lowest.proofs.Layers.{layer-far, layer-place}
use Rattle.best_lowest.proofs.cheapest_of.Goals as goal

pub returns-in_err-group-clause-choice : goal.returns-in_err-group-clause-choice
returns-in_err-group-clause-choice c =
    let a = c.args in
    let z = c.requires in
    let empty = c.in_err-group.ensures.choice in
    rw c.from_residual.ensures
    (layer-far a.distances.now a.order.now a.lowest.now a.limit a.layer 36 z.layer z.table empty (λ l. absurd (omega (arith, l))))

pub returns-then-limit-distance-clause-choice : goal.returns-then-limit-distance-clause-choice
returns-then-limit-distance-clause-choice c =
    let a = c.args in
    let z = c.requires in
    let g = c.in_ok-group in
    layer-far a.distances.now a.order.now a.lowest.now a.limit a.layer g.field-0 z.layer z.table g.ensures.choice (λ l. c.if-limit-distance.true)

pub returns : goal.returns
returns c =
    let a = c.args in
    let z = c.requires in
    let g = c.in_ok-group in
    let w = c.first_waiting in
    let place = layer-place a.distances.now a.order.now a.lowest.now a.limit a.layer g.field-0 z.layer z.table g.ensures.choice
    g.ensures.within c.if-limit-distance.false w.result w.ensures in
    record { choice = place.0; within = place.1 }
