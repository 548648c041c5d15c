use Rattle.best_own.proofs.Progress.{Progress}
use Rattle.best_own.proofs.own_actions.Given as goal

abbrev pub invariant-loop-ask : goal.invariant-loop-ask
invariant-loop-ask l = Progress l.setup l.asks l.initial.numbers l.ask-index l.a l.counters l.numbers
