-- By the cases of `unlike` (unlike-same, unlike-other).
use Rattle.std.proofs.Common.{rules}
use Rattle.trials_cells.specs.Cells.{unlike}
use Rattle.trials_cells.proofs.cells.differ.Goals as goal

pub returns : goal.returns
unfolding unlike
returns c = search rules
