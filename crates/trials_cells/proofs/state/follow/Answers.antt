-- By following-is.
use Rattle.trials_cells.proofs.Laws.{following-is}
use Rattle.std.proofs.Common.{arith}
use Rattle.trials_cells.proofs.state.follow.Goals as goal

pub returns : goal.returns
returns c = omega (arith, following-is c.args.s)
