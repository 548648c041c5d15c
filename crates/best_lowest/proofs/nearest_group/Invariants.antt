use Rattle.std.proofs.Common.{◌≡◌, ◌<◌, unwrap_or, IfSome}
use Rattle.best_lowest.specs.Lowest.{group_below}
use Rattle.best_lowest.proofs.nearest_group.Given as goal

abbrev pub invariant-loop-j : goal.invariant-loop-j
invariant-loop-j l = record {
  choice : unwrap_or l.nearest 36 ≡ group_below l.lowest l.start l.j;
  within : IfSome l.nearest (λ i. i < 36);
}
