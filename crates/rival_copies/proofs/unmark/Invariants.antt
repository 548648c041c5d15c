use Prim.Native.Nat.{◌≤◌, ◌-◌}
use mathlib.Core.Path.{◌≡◌}
use lib.ListN.{length}
use Rattle.protocol.specs.Rival.{rival, unmarked}
use Rattle.rival_copies.proofs.unmark.Given as goal

abbrev pub invariant-loop-j : goal.invariant-loop-j
invariant-loop-j l =
    (l.j ≤ l.setup.processors) × (length l.marks ≡ length l.initial.marks) × (l.marks ≡ unmarked l.setup (rival l.blocks l.held l.initial.marks) l.block l.j)

abbrev pub decreases-loop-j : goal.decreases-loop-j
decreases-loop-j l =
    l.setup.processors - l.j
