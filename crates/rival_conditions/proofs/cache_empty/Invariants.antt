use Prim.Native.Nat.{ℕ, ◌≤◌, ◌<◌, ◌-◌}
use mathlib.Core.Path.{◌≡◌}
use Rattle.protocol_types.specs.Lists.{at}
use Rattle.protocol_types.specs.Board.{line_slot}
use Rattle.rival_conditions.proofs.cache_empty.Given as goal

abbrev pub invariant-loop-line : goal.invariant-loop-line
invariant-loop-line l = (l.line ≤ l.setup.lines) × ((k : ℕ) → k < l.line → at l.held (line_slot l.setup l.processor k) ≡ 0)

abbrev pub decreases-loop-line : goal.decreases-loop-line
decreases-loop-line l = l.setup.lines - l.line
