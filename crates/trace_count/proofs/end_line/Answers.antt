-- A line that is refused stops the count (`counted-refused`); what else it asks for `take_request` takes.
use mathlib.Core.Path.{refl, ap, ◌∙◌}
use Rattle.trace_count.specs.Counting.{line_counted}
use Rattle.trace_count.proofs.Laws.{counted-refused}
use Rattle.trace_count.proofs.end_line.Goals as goal

pub returns-in-Err-clause-memory_value : goal.returns-in-Err-clause-memory_value
returns-in-Err-clause-memory_value c = counted-refused _ _ _ _ c.refuse_line.ensures refl ∙ ap (line_counted _) c.in-Err.ensures
