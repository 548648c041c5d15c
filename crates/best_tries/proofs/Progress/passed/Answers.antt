-- Only the entry is another.
use Rattle.best_tries.proofs.Steps.{past_same}
use Rattle.best_tries.proofs.Progress.passed.Goals as goal

pub returns-clause-state : goal.returns-clause-state
returns-clause-state c d o v ts us = let a = c.args in past_same d o v a.self a.used ts us
