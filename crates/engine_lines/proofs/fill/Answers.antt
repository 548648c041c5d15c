-- The rows of the slot and of the block lie within their tables (row-end).
use native.Mathlib.Omega.{arith}
use Rattle.protocol_types.specs.Board.{slots}
use Rattle.protocol_types.proofs.Rows.{row-end}
use Rattle.engine_lines.proofs.fill.Goals as goal

pub copy_row-requires : goal.copy_row-requires
copy_row-requires c =
    let a = c.args in
    omega (arith, row-end a.setup a.block.0 a.setup.blocks c.requires.block_lt_blocks, row-end a.setup a.k (slots a.setup) c.requires.k_bound)
