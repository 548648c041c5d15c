-- The lines of the account and the last one, appended to an empty text.
use mathlib.Core.List.{append_assoc}
use Rattle.trace_text.specs.Text.{text, line, field}
use Rattle.trace_text.proofs.render.Goals as goal

pub returns-clause-lines : goal.returns-clause-lines
unfolding text line field
returns-clause-lines c =
    rw (c.put_line.ensures.appended, c.put_field.ensures.appended, c.put_account.ensures.appended, c.new-text.ensures) (simp append_assoc)
