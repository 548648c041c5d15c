-- A final position that is no dearer than the limit becomes the goal; else only the entry is another.
use Rattle.std.proofs.Common.{sym, ◌∙◌, true≢false}
use Rattle.best_tries.proofs.Steps.{lower-better, lower-same}
use Rattle.best_tries.proofs.Progress.lowered.Goals as goal
use Rattle.best_tries.proofs.Progress.lowered.Goals.{else-last-via-then-last+else-distance-self, else-last-via-else-last}

pub returns-then-distance-self-clause-state : goal.returns-then-distance-self-clause-state
returns-then-distance-self-clause-state c g n e d o v ts us =
    let a = c.args in
    lower-better g d o v a.self a.w a.distance ts us n c.passed-next.result c.passed-next.ensures.state (e ∙ c.if-last.true) c.if-distance-self.true

pub returns-else-last-clause-state : goal.returns-else-last-clause-state
returns-else-last-clause-state c g n e d o v ts us =
    let a = c.args in
    lower-same g d o v a.self a.w a.distance ts us n c.passed-next.result c.passed-next.ensures.state
    (λ f. elim c.else-last.branch [
      | else-last-via-then-last+else-distance-self w ↦ w.if-distance-self.false
      | else-last-via-else-last w ↦ absurd (true≢false (sym f ∙ e ∙ w.if-last.false))
    ])
