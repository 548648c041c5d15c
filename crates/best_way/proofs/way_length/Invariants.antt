use Rattle.std.proofs.Common.{◌+◌, ◌-◌, ◌<◌, ◌≡◌}
use Rattle.best_way.specs.Hops.{hops}
use Rattle.best_way.proofs.way_length.Given as goal

abbrev pub invariant-loop-n : goal.invariant-loop-n
invariant-loop-n l = record {
  within : l.u < 32400;
  rest : l.n + hops (32401 - l.n) l.predecessors l.u ≡ hops 32401 l.predecessors l.v;
}
