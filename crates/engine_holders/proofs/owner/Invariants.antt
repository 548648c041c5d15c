use Prim.Native.Nat.{ℕ}
use mathlib.Core.Path.{◌≡◌}
use mathlib.Core.List.{List}
use Rattle.protocol.specs.Tables.{tables}
use Rattle.protocol.specs.Masks.{holders}
use Rattle.protocol.specs.Rules.{owner}
use Rattle.bits.proofs.Visits.{Visited}
use Rattle.engine_holders.specs.Searches.{owner_from}
use Rattle.engine_holders.proofs.owner.Given as goal

abbrev pub invariant-loop-j : goal.invariant-loop-j
invariant-loop-j l =
    (upto : ℕ)
    × Visited l.setup.processors l.mask upto l.holders
    × ((b c w g : List ℕ) → l.mask ≡ holders l.setup (tables b c l.marks w g) l.block
    → owner_from l.setup (tables b c l.marks w g) l.block upto ≡ owner l.setup (tables b c l.marks w g) l.block)

abbrev pub decreases-loop-j : goal.decreases-loop-j
decreases-loop-j l = l.holders
