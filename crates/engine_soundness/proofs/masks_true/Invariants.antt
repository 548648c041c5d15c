use mathlib.Core.Path.{◌≡◌}
use mathlib.Core.Bool.{true}
use mathlib.Core.List.{List}
use Prim.Native.Nat.{ℕ}
use Rattle.protocol_types.specs.Lists.{all}
use Rattle.protocol.specs.Tables.{tables}
use Rattle.protocol.specs.Masks.{masked}
use Rattle.engine_soundness.proofs.Lines.{mask_test}
use Rattle.engine_soundness.proofs.masks_true.Given as goal

abbrev pub invariant-loop-b : goal.invariant-loop-b
invariant-loop-b l = (m w g : List ℕ) → all l.b (mask_test l.setup (masked (tables l.blocks l.counters m w g) l.masks)) ≡ true
