use Rattle.std.proofs.Common.{◌≡◌}
use Rattle.trials_cells.specs.State.{totalled}
use Rattle.trials_cells.proofs.state.total.Given as goal

abbrev pub invariant-loop-number : goal.invariant-loop-number
invariant-loop-number l = l.all ≡ totalled l.cells l.kind l.number
