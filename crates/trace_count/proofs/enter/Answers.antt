-- The sums fit: what the account and one request more have spent is bounded by the requests (`spent-numbers`), which are below the limit.
use native.Mathlib.Omega.{arith}
use Rattle.protocol.specs.Accounts.{bill_of}
use Rattle.protocol.proofs.Accounts.{spent-numbers}
use Rattle.trace_lines.specs.Trace.{trace_setup}
use Rattle.trace_lines.proofs.Laws.{trace-fits}
use Rattle.trace_count.proofs.enter.Goals as goal

pub overflow_add-result-2 : goal.overflow_add-result-2
overflow_add-result-2 c =
    let a = c.args in
    omega (arith, (spent-numbers trace_setup trace-fits a.account.requests (bill_of a.account) c.requires.spent).0, (spent-numbers trace_setup trace-fits 1 a.bill c.requires.spent_2).0)

pub overflow_add-result-3 : goal.overflow_add-result-3
overflow_add-result-3 c =
    let a = c.args in
    omega (arith, (spent-numbers trace_setup trace-fits a.account.requests (bill_of a.account) c.requires.spent).1, (spent-numbers trace_setup trace-fits 1 a.bill c.requires.spent_2).1)
