-- The block is obtained, which keeps the tables' lengths (sized-obtained) and lets the processor hold it (obtained-holds); then its word is supplied, or the
-- write is done.
use mathlib.Core.Path.{◌≡◌, sym, subst, ◌∙◌}
use mathlib.Core.Bool.{true}
use Rattle.protocol_types.specs.Board.{slots}
use Rattle.protocol.specs.Tables.{Tables, tables, Sized, holds}
use Rattle.protocol_types.proofs.Board.{block-lt, offset-lt, word_index-lt}
use Rattle.protocol.proofs.Lengths.{sized-obtained}
use Rattle.protocol.proofs.Slots.{obtained-holds}
use Rattle.engine.proofs.serve_access.Goals as goal

pub obtain-bill-requires : goal.obtain-bill-requires
obtain-bill-requires c =
    let a = c.args in
    let p = c.requires in record {
      fits = p.fits;
      processor_lt_processors = p.i_lt_processors;
      block_lt_blocks = rw c.block_of-block.ensures (block-lt a.setup p.fits a.variable p.variable_bound);
      usable = p.usable;
      true_masks = p.true_masks;
    }

pub word_of-word-requires : goal.word_of-word-requires
word_of-word-requires c =
    let a = c.args in
    let p = c.requires in
    rw (c.obtain-bill.auto.words ∙ p.usable.lengths.words)
    (word_index-lt a.setup p.fits c.slot.result (slots a.setup) c.offset_of-offset.result c.slot.ensures.within
    (rw c.offset_of-offset.ensures (offset-lt a.setup p.fits a.variable)))

pub write-update-requires : goal.write-update-requires
write-update-requires c =
    let a = c.args in
    let p = c.requires in
    let s = a.setup in
    let z = p.usable.lengths in
    let t = tables a.blocks.now a.counters.now a.marks.now a.words.now a.memory.now in
    let b = c.block_of-block.result in
    let e = sym c.obtain-bill.ensures.memory_value in record {
      fits = p.fits;
      processor_lt_processors = p.i_lt_processors;
      block_lt_blocks = rw c.block_of-block.ensures (block-lt s p.fits a.variable p.variable_bound);
      offset_lt_words = rw c.offset_of-offset.ensures (offset-lt s p.fits a.variable);
      block_value = subst (λ (x : Tables). holds s x a.i b ≡ true) e (obtained-holds s p.fits t z a.i b p.i_lt_processors);
      sized = subst (Sized s) e (sized-obtained s t z a.i b);
      true_masks = c.obtain-bill.ensures.masks_after;
    }
