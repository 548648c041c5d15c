use Prim.Native.Nat.{◌-◌, ◌≤◌}
use mathlib.Core.Path.{◌≡◌}
use Rattle.protocol.specs.Tables.{tables}
use Rattle.protocol.specs.Masks.{masks_of}
use Rattle.protocol.specs.Rules.{cleared, clear_cycles}
use Rattle.engine_evictions.proofs.clear.Given as goal

abbrev pub invariant-loop-l : goal.invariant-loop-l
invariant-loop-l l =
    (l.l ≤ l.setup.lines)
    × (l.cycles ≡ clear_cycles l.setup (tables l.initial.blocks l.initial.counters l.initial.marks l.initial.words l.initial.memory) l.i l.l)
    × (tables l.blocks l.counters l.marks l.words l.memory ≡ cleared l.setup (tables l.initial.blocks l.initial.counters l.initial.marks l.initial.words l.initial.memory) l.i l.l)
    × (l.masks ≡ masks_of l.setup (tables l.blocks l.counters l.marks l.words l.memory))

abbrev pub decreases-loop-l : goal.decreases-loop-l
decreases-loop-l l =
    l.setup.lines - l.l
