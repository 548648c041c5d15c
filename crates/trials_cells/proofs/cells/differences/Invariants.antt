use Rattle.std.proofs.Common.{◌≡◌}
use Rattle.trials_cells.specs.Cells.{differing}
use Rattle.trials_cells.proofs.cells.differences.Given as goal

abbrev pub invariant-loop-k : goal.invariant-loop-k
invariant-loop-k l = l.count ≡ differing l.cells l.a l.b l.k
