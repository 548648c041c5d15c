-- The row of a slot lies within the words (row-end).
use native.Mathlib.Omega.{arith}
use Rattle.protocol_types.specs.Board.{slots}
use Rattle.protocol_types.proofs.Rows.{row-end}
use Rattle.engine_evictions.proofs.empty_line.Goals as goal

pub clear_row-requires : goal.clear_row-requires
clear_row-requires c =
    omega (arith, row-end c.args.setup c.args.k (slots c.args.setup) c.requires.k_bound)
