use mathlib.Core.Path.{◌≡◌}
use mathlib.Core.Bool.{Bool, true}
use mathlib.Core.List.{List}
use Prim.Native.Nat.{ℕ}
use lib.Dec.{eqb}
use Rattle.protocol_types.specs.Lists.{at, all}
use Rattle.parts.proofs.same_words.Given as goal

abbrev pub same_at : List ℕ → List ℕ → ℕ → Bool
same_at x y k = eqb (at x k) (at y k)

abbrev pub invariant-loop-k : goal.invariant-loop-k
invariant-loop-k l = all l.k (same_at l.x l.y) ≡ true
