-- The requests before place i passed, and their numbers are taken.
use Rattle.best_steps.proofs.Asks.{Taken}
use Rattle.best_steps.proofs.numbers_of.Given as goal

abbrev pub invariant-loop-i : goal.invariant-loop-i
invariant-loop-i g l = Taken l.setup (g.C.Stores.records l.requests) l.i l.asks
