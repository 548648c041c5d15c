-- The rows of the slot and of its block lie within their tables (row-end).
use native.Mathlib.Omega.{arith}
use Rattle.protocol_types.specs.Lists.{at}
use Rattle.protocol_types.specs.Board.{slots}
use Rattle.protocol_types.proofs.Rows.{row-end}
use Rattle.engine_soundness.proofs.copy_sound.Goals as goal

pub same_row-requires : goal.same_row-requires
same_row-requires c =
    let a = c.args in
    omega (arith, row-end a.setup a.k (slots a.setup) c.requires.k_bound, row-end a.setup (at a.blocks.now a.k) a.setup.blocks c.requires.k_bound_2)
