-- Inside the cells and outside, by the cases of `cell` (cell-inside, cell-outside).
use Rattle.trials_cells.proofs.Laws.{cell-inside, cell-outside}
use Rattle.std.proofs.Common.{arith}
use Rattle.trials_cells.proofs.cells.get.Goals as goal

pub returns-then-i-lt-SIZE : goal.returns-then-i-lt-SIZE
returns-then-i-lt-SIZE c = cc (cell-inside c.args.cells.now c.args.first c.args.k (omega arith))

pub returns : goal.returns
returns c = cell-outside c.args.cells.now c.args.first c.args.k (omega arith)
