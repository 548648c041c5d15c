use mathlib.Core.Path.{◌≡◌}
use mathlib.Core.List.{◌++◌}
use lib.ListN.{length, drop, replicate}
use Rattle.parts.proofs.set_all.Given as goal

abbrev pub invariant-loop-k : goal.invariant-loop-k
invariant-loop-k g l = (length l.part ≡ length l.initial.part) × (l.part ≡ replicate l.k l.value ++ drop l.k l.initial.part)
