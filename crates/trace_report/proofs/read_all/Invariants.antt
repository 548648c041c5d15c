use mathlib.Core.Path.{◌≡◌}
use Rattle.protocol.specs.Tables.{tables}
use Rattle.protocol.specs.Masks.{masks_of}
use Rattle.trace_lines.specs.Trace.{trace_setup}
use Rattle.trace_count.specs.Counting.{count_stage}
use Rattle.trace_report.proofs.Laws.{Going}
use Rattle.trace_report.proofs.read_all.Given as goal

abbrev pub invariant-loop-turn : goal.invariant-loop-turn
invariant-loop-turn g l = record {
  going : Going (count_stage l.count (tables l.blocks l.counters l.marks l.words l.memory)) l._turn;
  true_masks : l.masks ≡ masks_of trace_setup (tables l.blocks l.counters l.marks l.words l.memory);
}
