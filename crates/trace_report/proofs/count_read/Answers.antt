-- A read that failed or brought no byte ends the reading (`read-none`); one that brought bytes is fed (`read-bytes`), and reading goes on unless a line
-- was refused.
use mathlib.Core.Path.{◌≡◌, refl, ap}
use mathlib.Core.Bool.{true, false}
use borrow.Author.Tests.{eq-eqb, ne_eqb}
use Rattle.std.specs.Prelude.{Some, None, is_some}
use Rattle.std.specs.Result.{result_ok}
use Rattle.trace_count.proofs.Laws.{some_refuses, none_passes}
use Rattle.trace_report.proofs.Laws.{read-none, read-bytes}
use Rattle.trace_report.proofs.count_read.Goals as goal

pub returns-in_default-clause-memory_value : goal.returns-in_default-clause-memory_value
returns-in_default-clause-memory_value c = read-none _ _ _ None (ap result_ok c.in_default.is) refl

pub returns-then-n-eq0-clause-memory_value : goal.returns-then-n-eq0-clause-memory_value
returns-then-n-eq0-clause-memory_value c = read-none _ _ _ (Some c.in-Ok.n) (ap result_ok c.in-Ok.is) c.if-n-eq0.true

pub returns-then-refused-clause-memory_value : goal.returns-then-refused-clause-memory_value
returns-then-refused-clause-memory_value c =
    let refused : is_some c.feed-next.result.refusal ≡ true = cc in
    read-bytes _ _ _ (Some c.in-Ok.n) (ap result_ok c.in-Ok.is) _ false c.if-n-eq0.false c.feed-next.ensures.memory_value (ne_eqb _ _ (some_refuses _ refused))

pub returns-clause-memory_value : goal.returns-clause-memory_value
returns-clause-memory_value c =
    let passed : is_some c.feed-next.result.refusal ≡ false = cc in
    read-bytes _ _ _ (Some c.in-Ok.n) (ap result_ok c.in-Ok.is) _ true c.if-n-eq0.false c.feed-next.ensures.memory_value (eq-eqb _ _ (none_passes _ passed))
