-- A hit or a miss; the tables keep their lengths when the block in the way leaves. Its mask loses the processor's bit, then the block's gains it.
use mathlib.Core.Path.{sym, subst, ap, ◌∙◌}
use native.Mathlib.Omega.{arith}
use Rattle.protocol.specs.Tables.{Tables, tables, Sized}
use Rattle.protocol.specs.Masks.{masks_of}
use Rattle.protocol.specs.Rules.{evicted, obtained, fetched, fetch_cycles, write_back_cycles}
use Rattle.engine_masks.specs.Copies.{gained, StandsAt}
use Rattle.protocol.proofs.Lengths.{sized-evicted}
use Rattle.protocol.proofs.Masks.{mask-read, length-masks}
use Rattle.engine_masks.proofs.Rules.{stands-for, masks-fetched}
use Rattle.engine_evictions.proofs.Inside.{Inside, inside-evicted}
use Rattle.engine.specs.Usable.{obtain_bill}
use Rattle.engine.proofs.obtain.Goals as goal

pub returns-then-holds : goal.returns-then-holds
unfolding obtained obtain_bill fetch_cycles write_back_cycles
returns-then-holds c =
    let a = c.args in
    let h = sym (c.holds.ensures a.marks.now a.words.now a.memory.now) ∙ c.if-holds.true in record {
      value = rw h;
      memory_value = rw h;
      masks_after = c.requires.true_masks;
    }

pub evict-write_back-requires : goal.evict-write_back-requires
evict-write_back-requires c =
    let a = c.args in
    let p = c.requires in
    let u = p.usable in
    let k = c.slot-k.ensures in
    let t = tables a.blocks.now a.counters.now a.marks.now a.words.now a.memory.now in record {
      fits = p.fits;
      processor_lt_processors = (p.processor_lt_processors, k.within);
      k_bound = u.named c.slot-k.result;
      stands_at = subst (StandsAt a.setup t a.processor) (sym k.value) (stands-for a.setup p.fits t u.proper a.processor a.block p.processor_lt_processors);
      sized = u.lengths;
      true_masks = p.true_masks;
    }

pub bounds-masks-b : goal.bounds-masks-b
bounds-masks-b c =
    let a = c.args in
    let t = tables a.blocks.now a.counters.now a.marks.now a.words.now a.memory.now in
    omega (arith, c.requires.block_lt_blocks, length-masks a.setup (evicted a.setup t c.slot-k.result) (c.evict-write_back.ensures.masks_after ∙ ap (masks_of a.setup) c.evict-write_back.ensures.memory_value))

pub fetch-requires : goal.fetch-requires
fetch-requires c =
    let a = c.args in
    let p = c.requires in
    let s = a.setup in
    let u = p.usable in
    let t = tables a.blocks.now a.counters.now a.marks.now a.words.now a.memory.now in
    let k = c.slot-k.result in
    let e = sym c.evict-write_back.ensures.memory_value in record {
      fits = p.fits;
      k_bound = c.slot-k.ensures.within;
      block_lt_blocks = p.block_lt_blocks;
      mask_value = mask-read s _ a.block c.evict-write_back.ensures.masks_after p.block_lt_blocks;
      by_index = subst (Inside s) e (inside-evicted s p.fits t k u.named);
      sized = subst (Sized s) e (sized-evicted s t u.lengths k);
    }

pub gain-requires : goal.gain-requires
gain-requires c =
    let a = c.args in
    let p = c.requires in
    let t = tables a.blocks.now a.counters.now a.marks.now a.words.now a.memory.now in (
      omega (arith, p.fits.few-processors, p.processor_lt_processors),
      omega (arith, p.block_lt_blocks, length-masks a.setup (evicted a.setup t c.slot-k.result) (c.evict-write_back.ensures.masks_after ∙ ap (masks_of a.setup) c.evict-write_back.ensures.memory_value)),
    )

pub returns : goal.returns
unfolding obtained obtain_bill fetch_cycles write_back_cycles
returns c =
    let a = c.args in
    let p = c.requires in
    let s = a.setup in
    let u = p.usable in
    let t = tables a.blocks.now a.counters.now a.marks.now a.words.now a.memory.now in
    let k = c.slot-k.result in
    let h = sym (c.holds.ensures a.marks.now a.words.now a.memory.now) ∙ c.if-holds.false in
    let e = c.evict-write_back.ensures.memory_value in
    let f = c.fetch.ensures ∙ ap (λ (t : Tables). fetched s t k a.block) e in record {
      value = rw (h, c.fetch_price.ensures, c.evict-write_back.ensures.value, c.slot-k.ensures.value);
      memory_value = rw (h, ← c.slot-k.ensures.value) f;
      masks_after = c.gain.ensures ∙ ap (λ h. gained h a.block a.processor) (c.evict-write_back.ensures.masks_after ∙ ap (masks_of s) e)
          ∙ masks-fetched s p.fits t u.lengths a.processor a.block k c.slot-k.ensures.value c.slot-k.ensures.within p.block_lt_blocks p.processor_lt_processors
          ∙ sym (ap (masks_of s) f);
    }
