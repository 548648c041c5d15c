use Rattle.std.proofs.Common.{◌≡◌, ◌-◌}
use Rattle.protocol_types.specs.Lists.{first_from}
use Rattle.best_positions.specs.Position.{in_line, stands_in}
use Rattle.best_moves.proofs.block_in_line.Given as goal

abbrev pub invariant-loop-b : goal.invariant-loop-b
invariant-loop-b l = first_from (l.setup.blocks - l.b) l.b (stands_in l.setup l.u l.i l.line) ≡ in_line l.setup l.u l.i l.line
