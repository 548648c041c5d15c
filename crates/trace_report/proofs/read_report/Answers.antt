-- The count that the reads reached can be finished (`countable-reached`), and what it reports is the report of all their bytes (`reached-reported`).
use mathlib.Core.Path.{sym, subst}
use Rattle.std.specs.Prelude.{Ok, Err}
use Rattle.protocol.specs.Tables.{tables}
use Rattle.trace_count.specs.Counting.{Countable}
use Rattle.trace_report.proofs.Laws.{countable-reached, reached-reported}
use Rattle.trace_report.proofs.read_report.Goals as goal

pub finish-requires-clause-countable : goal.finish-requires-clause-countable
finish-requires-clause-countable g c =
    let l = c.read_all-last in
    let e = c.in-Ok.ensures (tables l.new.blocks l.new.counters l.new.marks l.new.words l.new.memory) in
    subst Countable (sym e.1) (countable-reached _ l.ensures.reached)

pub finish-requires-in-Err-clause-countable : goal.finish-requires-in-Err-clause-countable
finish-requires-in-Err-clause-countable g c =
    let l = c.read_all-last in
    let e = c.in-Err.ensures (tables l.new.blocks l.new.counters l.new.marks l.new.words l.new.memory) in
    subst Countable (sym e.1) (countable-reached _ l.ensures.reached)

pub returns-in-Ok : goal.returns-in-Ok
returns-in-Ok g c =
    let l = c.read_all-last in
    let e = c.in-Ok.ensures (tables l.new.blocks l.new.counters l.new.marks l.new.words l.new.memory) in
    reached-reported _ _ _ (Ok c.finish.result) l.ensures.reached e.0 e.1 c.finish.ensures.memory_value

pub returns-in-Err : goal.returns-in-Err
returns-in-Err g c =
    let l = c.read_all-last in
    let f = c.finish-in-Err in
    let e = c.in-Err.ensures (tables l.new.blocks l.new.counters l.new.marks l.new.words l.new.memory) in
    reached-reported _ _ _ (Err (record { before = f.result })) l.ensures.reached e.0 e.1 f.ensures.memory_value
