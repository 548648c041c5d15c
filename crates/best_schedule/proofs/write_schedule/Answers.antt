-- The way to the goal, or the engine's own actions.
use mathlib.Core.Path.{sym, ap, ◌∙◌}
use native.Mathlib.Omega.{arith}
use mathlib.Core.List.{◌++◌}
use lib.ListN.{drop}
use borrow.Author.Tests.{eq-eqb, ne_eqb}
use Rattle.best_positions.specs.Best.{position_count}
use Rattle.best_own.specs.Own.{own_numbers}
use Rattle.best_way.proofs.Way.{way-length-is}
use Rattle.best_schedule.specs.Found.{numbers_to}
use Rattle.best_schedule.proofs.write_schedule.Goals as goal

pub returns-then-goal-eq-POSITION_COUNT : goal.returns-then-goal-eq-POSITION_COUNT
unfolding numbers_to
returns-then-goal-eq-POSITION_COUNT c =
    let w = c.own_actions-own.ensures in
    rw (eq-eqb c.args.goal position_count c.if-goal-eq-POSITION_COUNT.true)
    record { count = w.count; written = w.numbers ∙ ap (λ k. own_numbers c.args.setup c.args.asks.now ++ drop k c.args.numbers.now) (sym w.count) }

pub way_length-count-requires : goal.way_length-count-requires
way_length-count-requires c = record { sized = c.requires.sized.0; before = c.requires.before; position = (c.requires.goal c.if-goal-eq-POSITION_COUNT.false).0 }

pub write_way-requires : goal.write_way-requires
write_way-requires c =
    let n = c.way_length-count.ensures.value in
    let way = c.requires.goal c.if-goal-eq-POSITION_COUNT.false in
    record { sized = c.requires.sized.0; before = c.requires.before; position = way.0; count = n; room = omega (arith, n, way.1, c.requires.sized.1) }

pub returns : goal.returns
unfolding numbers_to
returns c =
    rw (ne_eqb c.args.goal position_count c.if-goal-eq-POSITION_COUNT.false)
    record {
      count = c.way_length-count.ensures.value ∙ sym (way-length-is c.args.setup c.args.asks.now c.args.predecessors.now c.args.goal);
      written = c.write_way.ensures c.args.setup c.args.asks.now;
    }
