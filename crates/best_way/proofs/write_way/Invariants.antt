use Rattle.std.proofs.Common.{ℕ, ◌<◌, List}
use Rattle.protocol_types.specs.declared.Setup.{Setup}
use Rattle.best_way.proofs.Way.{Filling}
use Rattle.best_way.proofs.write_way.Given as goal

abbrev pub invariant-loop-j : goal.invariant-loop-j
invariant-loop-j l = record {
  within : l.u < 32400;
  filling : (s : Setup) (asks : List ℕ) → Filling s asks l.predecessors l.initial.numbers l.v l.n l.u l.j l.numbers;
}
