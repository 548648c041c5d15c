use Prim.Native.Nat.{ℕ, ◌-◌}
use mathlib.Core.Path.{◌≡◌}
use mathlib.Core.List.{List}
use Rattle.protocol_types.specs.Lists.{first_from}
use Rattle.protocol.specs.Tables.{tables}
use Rattle.engine_holders.specs.Searches.{other_holds, other_holder}
use Rattle.engine_holders.proofs.other_holder.Given as goal

abbrev pub invariant-loop-other : goal.invariant-loop-other
invariant-loop-other l =
    (m w g : List ℕ)
    → first_from (l.setup.processors - l.other) l.other (other_holds l.setup (tables l.blocks l.counters m w g) l.processor l.block)
    ≡ other_holder l.setup (tables l.blocks l.counters m w g) l.processor l.block
