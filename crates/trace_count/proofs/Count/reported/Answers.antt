-- The refused line is the current one, if it is refused (`reported-of`).
use mathlib.Core.Path.{refl}
use Rattle.std.proofs.Common.{rules, tests}
use Rattle.trace_count.specs.Counting.{count_numbers}
use Rattle.trace_count.proofs.Laws.{reported-of}
use Rattle.trace_count.proofs.Count.reported.Goals as goal

pub returns : goal.returns
returns c = reported-of (count_numbers c.args.self) _ (λ x y q. search (rules, tests)) c.args.self.refusal _ refl c.map.ensures.cases
