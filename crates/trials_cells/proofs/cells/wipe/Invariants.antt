use Rattle.std.proofs.Common.{◌≡◌}
use Rattle.trials_cells.specs.Cells.{wiped}
use Rattle.trials_cells.proofs.cells.wipe.Given as goal

abbrev pub invariant-loop-k : goal.invariant-loop-k
invariant-loop-k l = l.cells ≡ wiped l.initial.cells l.first l.k
