-- Inside the cells and outside, by the cases of `with` (with-inside, with-outside).
use Rattle.trials_cells.proofs.Laws.{with-inside, with-outside}
use Rattle.std.proofs.Common.{arith}
use Rattle.trials_cells.proofs.cells.put.Goals as goal

pub returns-then-i-lt-SIZE : goal.returns-then-i-lt-SIZE
returns-then-i-lt-SIZE c = cc (with-inside c.args.cells.now c.args.first c.args.k c.args.x (omega arith))

pub returns-else-i-lt-SIZE : goal.returns-else-i-lt-SIZE
returns-else-i-lt-SIZE c = with-outside c.args.cells.now c.args.first c.args.k c.args.x (omega arith)
