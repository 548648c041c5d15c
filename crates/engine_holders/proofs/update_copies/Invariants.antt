use Prim.Native.Nat.{ℕ}
use mathlib.Core.Path.{◌≡◌}
use mathlib.Core.List.{List}
use lib.ListN.{length}
use Rattle.protocol.specs.Tables.{tables}
use Rattle.protocol.specs.Masks.{holders}
use Rattle.protocol.specs.Rules.{updated_copies}
use Rattle.bits.proofs.Visits.{Visited}
use Rattle.engine_holders.proofs.update_copies.Given as goal

abbrev pub invariant-loop-j : goal.invariant-loop-j
invariant-loop-j l =
    (upto : ℕ)
    × Visited l.setup.processors l.mask upto l.copies
    × (length l.words ≡ length l.initial.words)
    × ((b c m g : List ℕ) → l.mask ≡ holders l.setup (tables b c m l.initial.words g) l.block → l.words ≡ updated_copies l.setup (tables b c m l.initial.words g) l.block l.offset l.value upto)

abbrev pub decreases-loop-j : goal.decreases-loop-j
decreases-loop-j l = l.copies
