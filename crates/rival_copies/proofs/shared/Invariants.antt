use Prim.Native.Nat.{ℕ, ◌≤◌, ◌-◌}
use mathlib.Core.Path.{◌≡◌}
use mathlib.Core.List.{List}
use Rattle.protocol_types.specs.Lists.{first_from, first}
use Rattle.protocol.specs.Rival.{rival}
use Rattle.rival_copies.specs.Copies.{another_keeps}
use Rattle.rival_copies.proofs.shared.Given as goal

abbrev pub invariant-loop-j : goal.invariant-loop-j
invariant-loop-j l =
    (l.j ≤ l.setup.processors)
    × ((m : List ℕ) → first_from (l.setup.processors - l.j) l.j (another_keeps l.setup (rival l.blocks l.held m) l.processor l.block) ≡ first l.setup.processors (another_keeps l.setup (rival l.blocks l.held m) l.processor l.block))

abbrev pub decreases-loop-j : goal.decreases-loop-j
decreases-loop-j l =
    l.setup.processors - l.j
