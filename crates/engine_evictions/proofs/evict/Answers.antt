-- The slot is saved, then emptied; the mask of its block loses the processor's bit (masks-evicted).
use mathlib.Core.Path.{sym, ap, ◌∙◌}
use native.Mathlib.Omega.{arith}
use Rattle.protocol.specs.Tables.{Tables, tables}
use Rattle.protocol.specs.Masks.{masks_of}
use Rattle.protocol.specs.Rules.{emptied, evicted}
use Rattle.engine_masks.specs.Copies.{lost_at}
use Rattle.protocol.proofs.Masks.{length-masks}
use Rattle.engine_masks.proofs.Rules.{masks-evicted}
use Rattle.engine_evictions.proofs.evict.Goals as goal

pub lose_at-requires : goal.lose_at-requires
lose_at-requires c =
    let a = c.args in
    let p = c.requires in
    let t = tables a.blocks.now a.counters.now a.marks.now a.words.now a.memory.now in record {
      i_bound = omega (arith, p.fits.few-processors, p.processor_lt_processors.0);
      k_in_bounds = (omega (arith, p.sized.blocks), omega (arith, p.sized.counters), rw (length-masks a.setup t p.true_masks) p.k_bound);
    }

pub returns : goal.returns
unfolding evicted lost_at
returns c =
    let a = c.args in
    let p = c.requires in
    let s = a.setup in
    let cs = a.counters.now in
    let t = tables a.blocks.now cs a.marks.now a.words.now a.memory.now in
    let e = c.empty_line.ensures _ ∙ ap (λ (t : Tables). emptied s t a.k) (c.save-cycles.ensures.by_index_2 cs) in record {
      value = c.save-cycles.ensures.by_index cs;
      memory_value = e;
      masks_after = c.lose_at.ensures ∙ rw p.true_masks (masks-evicted s p.fits t a.processor a.k p.stands_at p.k_bound) ∙ sym (ap (masks_of s) e);
    }
