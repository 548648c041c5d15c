-- The trace counted; the numbers of what it answers are stored one by one.
use Rattle.host.proofs.cuzkelor_count_trace.Goals as goal

pub returns : goal.returns
returns c = rw c.answer_numbers-report.ensures c.count_trace-counted.ensures
