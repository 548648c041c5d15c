-- The rows of the slot and of its block lie within their tables (row-end).
use native.Mathlib.Omega.{arith}
use Rattle.protocol_types.specs.Lists.{at}
use Rattle.protocol_types.specs.Board.{slots}
use Rattle.protocol_types.proofs.Rows.{row-end}
use Rattle.engine_evictions.proofs.write_back.Goals as goal

pub copy_row-requires : goal.copy_row-requires
copy_row-requires c =
    let a = c.args in
    omega (arith, row-end a.setup a.from (slots a.setup) c.requires.from_bound, row-end a.setup (at a.blocks.now a.from) a.setup.blocks c.requires.from_bound_2)
