use Prim.Native.Nat.{ℕ}
use mathlib.Core.Path.{◌≡◌}
use mathlib.Core.List.{List}
use Rattle.protocol_types.specs.Bits.{mask_of}
use Rattle.protocol.specs.Tables.{tables, holds}
use Rattle.engine_soundness.proofs.block_mask.Given as goal

abbrev pub invariant-loop-i : goal.invariant-loop-i
invariant-loop-i l = (m w g : List ℕ) → l.mask ≡ mask_of l.i (λ j. holds l.setup (tables l.blocks l.counters m w g) j l.block)
