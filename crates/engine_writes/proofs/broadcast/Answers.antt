-- The word lies within the block's row of main memory.
use native.Mathlib.Omega.{arith}
use Rattle.protocol_types.proofs.Board.{word_index-lt}
use Rattle.engine_writes.proofs.broadcast.Goals as goal

pub set_word-requires : goal.set_word-requires
set_word-requires c =
    let a = c.args in
    let p = c.requires in
    omega (arith, word_index-lt a.setup p.fits a.block.0 a.setup.blocks a.offset p.block_lt_blocks p.offset_lt_words)
