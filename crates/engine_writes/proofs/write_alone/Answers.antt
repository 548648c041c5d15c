-- The word lies within the words of the slot.
use native.Mathlib.Omega.{arith}
use Rattle.protocol_types.specs.Board.{slots}
use Rattle.protocol_types.proofs.Board.{word_index-lt}
use Rattle.engine_writes.proofs.write_alone.Goals as goal

pub set_word-requires : goal.set_word-requires
set_word-requires c =
    let a = c.args in
    omega (arith, word_index-lt a.setup c.requires.fits a.k (slots a.setup) a.offset c.requires.k_bound c.requires.offset_lt_words)
