use Rattle.std.proofs.Common.{◌≡◌}
use Rattle.trials_cells.specs.Cells.{copied}
use Rattle.trials_cells.proofs.cells.copy.Given as goal

abbrev pub invariant-loop-k : goal.invariant-loop-k
invariant-loop-k l = l.cells ≡ copied l.initial.cells l.a l.b l.k
