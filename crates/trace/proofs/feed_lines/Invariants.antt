use Prim.Native.Nat.{◌≤◌}
use mathlib.Core.Path.{◌≡◌}
use lib.ListN.{length}
use Rattle.protocol.specs.Tables.{tables}
use Rattle.protocol.specs.Masks.{masks_of}
use Rattle.trace_lines.specs.Trace.{trace_setup}
use Rattle.trace_count.specs.Counting.{count_numbers, count_stage, Countable, AtStart}
use Rattle.trace.specs.Feeding.{fed}
use Rattle.trace.proofs.feed_lines.Given as goal

abbrev pub invariant-lines : goal.invariant-lines
invariant-lines l = record {
  part : length l.rest ≤ length l.initial.rest;
  at_start : AtStart (count_numbers l.so_far);
  countable : Countable (count_stage l.so_far (tables l.blocks l.counters l.marks l.words l.memory));
  left : fed (count_stage l.initial.so_far (tables l.initial.blocks l.initial.counters l.initial.marks l.initial.words l.initial.memory)) l.initial.rest
      ≡ fed (count_stage l.so_far (tables l.blocks l.counters l.marks l.words l.memory)) l.rest;
  true_masks : l.masks ≡ masks_of trace_setup (tables l.blocks l.counters l.marks l.words l.memory);
}

abbrev pub decreases-lines : goal.decreases-lines
decreases-lines l = length l.rest
