-- The engine's own actions, the search, and its schedule written over its distances.
use mathlib.Core.Path.{refl, ap, ◌∙◌}
use native.Mathlib.Omega.{arith}
use lib.ListN.{length, drop, length-append, length-drop}
use Rattle.best_own.specs.Own.{own_numbers}
use Rattle.best_way.proofs.Way.{from-lt, goal-lt, way-fits}
use Rattle.best_schedule.proofs.Written.{own-none, none, answer-is, tables-are}
use Rattle.best_schedule.proofs.find.Goals as goal

pub search-p-requires : goal.search-p-requires
search-p-requires c =
    let w = c.own_actions-own.ensures in
    let n = own_numbers c.args.setup c.args.asks.now in
    let e = ap length w.numbers ∙ length-append n (drop (length n) c.args.distances.now) in
    let z = c.requires.tables_fit in record {
      fits = (c.requires.fits.0, c.requires.fits.2);
      own_cost = (w.small, λ h. w.cost ∙ own-none c.args.setup c.args.asks.now h);
      sized = (omega (arith, e, length-drop (length n) c.args.distances.now, w.count, w.short, z.distances), z.order, z.predecessors, z.lowest);
    }

pub write_schedule-count-requires : goal.write_schedule-count-requires
write_schedule-count-requires c =
    let w = c.own_actions-own.ensures in
    let l = c.search-p.new in
    let s = c.args.setup in
    let asks = c.args.asks.now in
    let steps = c.args.steps in
    let own = c.own_actions-own.result.cost in
    let few = c.requires.fits.2 in
    let e = c.search-p.ensures.state in
    let no = none s asks steps own few w.cost l.distances l.order l.predecessors c.search-p.result e in
    let n = own_numbers s asks in
    let long = ap length w.numbers ∙ length-append n (drop (length n) c.args.distances.now) in record {
      fits = (
        c.requires.fits.0,
        c.requires.fits.1,
        few,
      );
      sized = (
        c.search-p.auto.predecessors ∙ c.requires.tables_fit.predecessors,
        omega (arith, c.search-p.auto.distances, long, length-drop (length n) c.args.distances.now, w.count, w.short, c.requires.tables_fit.distances),
      );
      before = from-lt s asks steps own few no l.distances l.order l.predecessors c.search-p.result e;
      goal = λ x. (
        goal-lt s asks steps own few no l.distances l.order l.predecessors c.search-p.result e x,
        way-fits s asks steps own few no l.distances l.order l.predecessors c.search-p.result e x,
      );
    }

pub returns : goal.returns
returns c =
    let w = c.own_actions-own.ensures in
    let l = c.search-p.new in
    let s = c.args.setup in
    let asks = c.args.asks.now in
    let steps = c.args.steps in
    let own = c.own_actions-own.result.cost in
    let few = c.requires.fits.2 in
    let e = c.search-p.ensures.state in
    let z = c.write_schedule-count.ensures in record {
      value =
          answer-is s asks steps own few w.cost l.distances l.order l.predecessors c.search-p.result e c.write_schedule-count.result c.search-p.result.used
          c.excess.result _ z.count c.search-p.ensures.count refl c.excess.ensures;
      tables =
          tables-are s asks steps own few w.cost l.distances l.order l.predecessors c.search-p.result e c.write_schedule-count.result
          c.write_schedule-count.new.numbers l.lowest z.count z.written c.search-p.ensures.table;
    }
