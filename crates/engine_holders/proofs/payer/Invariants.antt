use Prim.Native.Nat.{ℕ, ◌<◌}
use mathlib.Core.Path.{◌≡◌}
use mathlib.Core.List.{List}
use Rattle.std.specs.Prelude.{unwrap_or, IfSome}
use Rattle.protocol.specs.Tables.{tables}
use Rattle.protocol.specs.Masks.{holders}
use Rattle.bits.specs.Bits.{without_bit}
use Rattle.bits.proofs.Visits.{Visited}
use Rattle.engine_holders.specs.Searches.{weakest_below}
use Rattle.engine_holders.proofs.payer.Given as goal

abbrev pub invariant-loop-j : goal.invariant-loop-j
invariant-loop-j l =
    (upto : ℕ)
    × Visited l.setup.processors l.initial.others upto l.others
    × IfSome l.weakest (λ k. k < l.setup.processors)
    × ((b m w g : List ℕ) → l.mask ≡ holders l.setup (tables b l.counters m w g) l.block
    → unwrap_or l.weakest l.setup.processors ≡ weakest_below l.setup (tables b l.counters m w g) l.processor l.block upto)
    × (l.initial.others ≡ without_bit l.mask l.processor)

abbrev pub decreases-loop-j : goal.decreases-loop-j
decreases-loop-j l = l.others
