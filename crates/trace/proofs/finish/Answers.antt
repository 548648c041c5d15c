-- Each return is one case of `closed`: after a refusal, between two lines, and within a line, which ends as `end_line` says (the laws
-- `finished-…`).
use mathlib.Core.Path.{sym, ◌∙◌}
use Rattle.trace_count.proofs.Laws.{some_refuses, none_passes}
use Rattle.trace.proofs.Laws.{ended-as, finished-refused, finished-between, finished-within}
use Rattle.trace.proofs.finish.Goals as goal
use Rattle.trace.proofs.finish.Goals.{then-is_some-via-then-is_some, then-is_some-via-else-is_some+then-between_lines}

pub returns-then-is_some-clause-memory_value : goal.returns-then-is_some-clause-memory_value
returns-then-is_some-clause-memory_value c = elim c.then-is_some.branch [
  | then-is_some-via-then-is_some w ↦ finished-refused _ _ (some_refuses _ (sym c.is_some.ensures ∙ w.if-is_some.true)) c.reported.ensures
  | then-is_some-via-else-is_some+then-between_lines w ↦ finished-between _ _ (none_passes _ (sym c.is_some.ensures ∙ w.if-is_some.false)) w.if-between_lines.true c.reported.ensures
]

pub returns-clause-memory_value : goal.returns-clause-memory_value
returns-clause-memory_value c =
    finished-within _ _ _ (none_passes _ (sym c.is_some.ensures ∙ c.if-is_some.false)) c.if-between_lines.false (c.end_line-last.ensures.memory_value ∙ sym (ended-as _ _ (sym c.parsed.ensures))) c.reported-2.ensures
