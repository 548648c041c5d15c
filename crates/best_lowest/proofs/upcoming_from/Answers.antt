-- What is left from each layer on gives what the whole search gives.
use Rattle.std.proofs.Common.{◌∙◌, arith}
use Rattle.best_lowest.proofs.Layers.{layer-has, layer-none, no-layer}
use Rattle.best_lowest.proofs.upcoming_from.Goals as goal

pub returns-in-Some-clause-choice : goal.returns-in-Some-clause-choice
returns-in-Some-clause-choice c =
    let a = c.args in
    let k = c.in-Some in
    k.ensures.choice ∙ layer-has 32400 1296 a.distances.now a.order.now a.limit 25 c.loop-l.l (omega arith) (omega (arith, k.ensures.choice, k.ensures.within)) ∙ c.loop-l.invariant

pub loop-l-preserved : goal.loop-l-preserved
loop-l-preserved c =
    let a = c.args in
    layer-none 32400 1296 a.distances.now a.order.now a.limit 25 c.loop-l.l (omega arith) (omega (arith, c.in_default.ensures.choice)) ∙ c.loop-l.invariant

pub returns-clause-choice : goal.returns-clause-choice
returns-clause-choice c =
    let a = c.args in no-layer 32400 1296 a.distances.now a.order.now a.limit 25 c.loop-l.l (omega arith) ∙ c.loop-l.invariant
