-- The arrays of zeros are the fresh tables and masks of the setup, by computing, and so the masks are true (`fresh-with-masks`).
use mathlib.Core.Path.{refl}
use Rattle.protocol_types.specs.Board.{slots}
use Rattle.protocol.specs.Tables.{fresh}
use Rattle.protocol.specs.Masks.{fresh_masked}
use Rattle.trace_lines.specs.Trace.{trace_setup}
use Rattle.trace.proofs.Laws.{fresh-with-masks}
use Rattle.trace_report.proofs.run.Goals as goal

pub read_report-answer-requires : goal.read_report-answer-requires
unfolding fresh fresh_masked trace_setup slots
read_report-answer-requires g c =
    let f = fresh-with-masks (fresh_masked trace_setup) refl in record { memory_value = f.0; true_masks = f.1 }
