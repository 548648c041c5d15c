-- The row of the slot lies within the words (row-end).
use native.Mathlib.Omega.{arith}
use Rattle.protocol_types.specs.Board.{slots}
use Rattle.protocol_types.proofs.Rows.{row-end}
use Rattle.engine_soundness.proofs.empty_line_sound.Goals as goal

pub zero_row-requires : goal.zero_row-requires
zero_row-requires c =
    omega (arith, row-end c.args.setup c.args.k (slots c.args.setup) c.requires.k_bound)
