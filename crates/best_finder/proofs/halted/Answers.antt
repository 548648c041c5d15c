-- By the tests, in the order of the definition.
use mathlib.Core.Path.{◌∙◌}
use native.Mathlib.Omega.{arith}
use Rattle.best_tries.specs.Progress.{state_at}
use Rattle.best_finder.proofs.Moves.{halts-over, halts-not, halts-settle, halts-try}
use Rattle.best_finder.proofs.halted.Goals as goal
use Rattle.best_finder.proofs.halted.Goals.{then-p-steps-via-then-p-steps, then-p-steps-via-else-p-steps+then-p-ge-ENTRY_COUNT}

pub returns-then-p-ge-POSITION_COUNT : goal.returns-then-p-ge-POSITION_COUNT
returns-then-p-ge-POSITION_COUNT c d o v ts l = let a = c.args in halts-over a.setup a.asks.now (state_at d o v a.p ts) a.steps c.if-p-ge-POSITION_COUNT.true

pub returns-then-p-steps : goal.returns-then-p-steps
returns-then-p-steps c d o v ts l =
    let a = c.args in
    let t = state_at d o v a.p ts in
    elim c.then-p-steps.branch [
      | then-p-steps-via-then-p-steps w ↦ halts-not a.setup a.asks.now t a.steps c.if-p-ge-POSITION_COUNT.false (omega (arith, l, w.if-p-steps.true))
      | then-p-steps-via-else-p-steps+then-p-ge-ENTRY_COUNT w ↦ halts-settle a.setup a.asks.now t a.steps c.if-p-ge-POSITION_COUNT.false w.if-p-ge-ENTRY_COUNT.true
    ]

pub returns : goal.returns
returns c d o v ts l =
    let a = c.args in
    c.legal_at.ensures
    ∙ halts-try a.setup a.asks.now (state_at d o v a.p ts) a.steps c.if-p-ge-POSITION_COUNT.false c.if-p-ge-ENTRY_COUNT.false (omega (arith, l, c.if-p-steps.false))
