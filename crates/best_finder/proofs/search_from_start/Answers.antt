-- The loop keeps the search as it was defined, and the table; each turn takes one off what is left of the fuel.
use mathlib.Core.Path.{sym, ap, ◌∙◌}
use native.Mathlib.Omega.{arith}
use lib.ListN.{length}
use Rattle.best_lowest.proofs.Lowest.{groups-length}
use Rattle.best_finder.proofs.Going.{going_start, going-ready, going_on_lem, going-falls, going_end, lengths, same-lengths}
use Rattle.best_finder.proofs.search_from_start.Goals as goal

pub loop-setup-init : goal.loop-setup-init
loop-setup-init c =
    let a = c.args in
    let z = c.requires in
    record { going = going_start a.setup a.asks.now a.steps a.own (record { few = z.fits.1; none = z.own_cost.1 }) a.distances.now a.order.now a.predecessors.now z.distances z.order z.predecessors; table = z.lowest.1 }

pub halted-requires : goal.halted-requires
halted-requires c =
    c.requires.fits.0

pub advance-p-requires : goal.advance-p-requires
advance-p-requires c =
    let a = c.args in
    let z = c.requires in
    let q = c.loop-setup in
    let w = q.invariant.going in
    let e = sym (c.halted.ensures q.distances q.order q.predecessors w.tries w.count) ∙ c.loop-setup-test.true in
    let y = going-ready a.setup a.asks.now a.steps a.own q.distances q.order q.predecessors q.p w e in
    let l = lengths a.setup a.asks.now a.steps a.own q.distances q.order q.predecessors q.p w in record {
      fits = z.fits;
      sized = (l.0, l.1, l.2, ap length q.invariant.table ∙ groups-length 900 q.distances q.order);
      few = (y.current, y.settled, y.used);
      reached = (y.some, omega (arith, y.near, z.own_cost.0));
      next = y.next;
      table = q.invariant.table;
    }

pub loop-setup-smaller : goal.loop-setup-smaller
loop-setup-smaller c =
    let a = c.args in
    let z = c.requires in
    let q = c.loop-setup in
    let w = q.invariant.going in
    let e = sym (c.halted.ensures q.distances q.order q.predecessors w.tries w.count) ∙ c.loop-setup-test.true in
    let v = c.advance-p in
    going-falls a.setup a.asks.now a.steps a.own q.distances q.order q.predecessors q.p w e
    v.new.distances v.new.order v.new.predecessors v.result (v.ensures.moved w.tries w.count)

pub loop-setup-preserved : goal.loop-setup-preserved
loop-setup-preserved c =
    let a = c.args in
    let z = c.requires in
    let q = c.loop-setup in
    let w = q.invariant.going in
    let e = sym (c.halted.ensures q.distances q.order q.predecessors w.tries w.count) ∙ c.loop-setup-test.true in
    let v = c.advance-p in record {
      going = going_on_lem a.setup a.asks.now a.steps a.own q.distances q.order q.predecessors q.p w e
          v.new.distances v.new.order v.new.predecessors v.result (v.ensures.moved w.tries w.count);
      table = v.ensures.table;
    }

pub shape_of-distances : goal.shape_of-distances
shape_of-distances c =
    let a = c.args in
    let z = c.requires in
    let q = c.loop-setup in
    let w = q.invariant.going in
    (same-lengths a.setup a.asks.now a.steps a.own (record { few = z.fits.1; none = z.own_cost.1 }) a.distances.now a.order.now a.predecessors.now z.distances z.order z.predecessors
    q.distances q.order q.predecessors q.p w).0

pub shape_of-order : goal.shape_of-order
shape_of-order c =
    let a = c.args in
    let z = c.requires in
    let q = c.loop-setup in
    let w = q.invariant.going in
    (same-lengths a.setup a.asks.now a.steps a.own (record { few = z.fits.1; none = z.own_cost.1 }) a.distances.now a.order.now a.predecessors.now z.distances z.order z.predecessors
    q.distances q.order q.predecessors q.p w).1

pub shape_of-predecessors : goal.shape_of-predecessors
shape_of-predecessors c =
    let a = c.args in
    let z = c.requires in
    let q = c.loop-setup in
    let w = q.invariant.going in
    (same-lengths a.setup a.asks.now a.steps a.own (record { few = z.fits.1; none = z.own_cost.1 }) a.distances.now a.order.now a.predecessors.now z.distances z.order z.predecessors
    q.distances q.order q.predecessors q.p w).2

pub shape_of-lowest : goal.shape_of-lowest
shape_of-lowest c =
    let z = c.requires in
    let q = c.loop-setup in
    ap length q.invariant.table ∙ groups-length 900 q.distances q.order ∙ sym z.lowest.0

pub returns : goal.returns
returns c =
    let a = c.args in
    let z = c.requires in
    let q = c.loop-setup in
    let w = q.invariant.going in
    let e = sym (c.halted.ensures q.distances q.order q.predecessors w.tries w.count) ∙ c.loop-setup-test.false in
    let f = going_end a.setup a.asks.now a.steps a.own q.distances q.order q.predecessors q.p w e in
    record { state = f.0; count = f.1; table = q.invariant.table }
