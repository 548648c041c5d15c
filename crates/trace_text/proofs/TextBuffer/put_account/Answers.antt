-- Five lines, appended one after another; the last number is the sum by the contract of `cycles`.
use mathlib.Core.List.{append_assoc}
use Rattle.trace_text.specs.Text.{account_lines}
use Rattle.trace_text.proofs.TextBuffer.put_account.Goals as goal

pub returns-clause-appended : goal.returns-clause-appended
unfolding account_lines
returns-clause-appended c =
    rw (c.put_line-5.ensures.appended, c.cycles.ensures, c.put_line-4.ensures.appended, c.put_line-3.ensures.appended, c.put_line-2.ensures.appended, c.put_line.ensures.appended)
    (simp append_assoc)
