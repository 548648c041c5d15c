-- After the last group.
use Rattle.std.proofs.Common.{ap, ◌∙◌, arith}
use Rattle.best_lowest.specs.Lowest.{group_below}
use Rattle.best_lowest.proofs.nearest_group.Goals as goal

pub returns-clause-choice : goal.returns-clause-choice
returns-clause-choice c = let a = c.args in c.loop-j.invariant.choice ∙ ap (group_below a.lowest.now a.start) (omega arith)
