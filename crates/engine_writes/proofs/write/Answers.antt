-- There is a payer exactly if another cache holds the block (payer-sharing); it holds the block (payer-found), so its counter is at least 1 (holder-slot).
-- The writer keeps its copy, so only the payer's bit can change, and it does where the payer's line becomes empty.
use Prim.Native.Nat.{ℕ, ◌≤◌, ◌<◌}
use mathlib.Core.Path.{◌≡◌, refl, sym, ap, ◌∙◌}
use mathlib.Core.Logic.{◌≢◌}
use mathlib.Core.Bool.{true, false}
use native.Mathlib.Omega.{arith}
use borrow.Author.Tests.{lt-ltb, le-ltb, eqb-true, eqb-false}
use Rattle.protocol_types.specs.Board.{Fits, slots, slot, fetch_price}
use Rattle.protocol.specs.Tables.{Tables, tables, Sized, counter, holds, sharing}
use Rattle.protocol.specs.Masks.{holders, masks_of}
use Rattle.protocol.specs.Rules.{payer, written_alone, broadcast, charged, written, update_cycles}
use Rattle.engine_masks.specs.Copies.{lost}
use Rattle.protocol_types.specs.declared.Setup.{Setup}
use Rattle.protocol_types.specs.declared.Block.{Block}
use Rattle.protocol_types.proofs.Laws.{at_set}
use Rattle.bits.proofs.Bits.{mask_below}
use Rattle.protocol.proofs.Holding.{holder-slot, payer-found, payer-sharing}
use Rattle.protocol.proofs.Lengths.{sized-broadcast}
use Rattle.protocol.proofs.Masks.{mask-read, length-masks}
use Rattle.engine_masks.proofs.Rules.{masks-recounted, masks-charged, masks-charged-empty}
use Rattle.engine_writes.proofs.write.Goals as goal

-- processor i holds block b at slot k
module _ (s : Setup) (ok : Fits s) (t : Tables) (i : ℕ) (b : Block) (held : holds s t i b ≡ true) (k : ℕ) (is-k : k ≡ slot s i b) (o x : ℕ) where
  has-copy : 0 < counter t k
  has-copy = rw is-k (holder-slot s t i b held).0

  masks-alone : masks_of s (written_alone s t k o x) ≡ masks_of s t
  unfolding written_alone
  masks-alone = masks-recounted s ok t (written_alone s t k o x) k (fetch_price s) refl refl ok.some-fetch has-copy

  masks-broadcast : masks_of s (broadcast s t k b o x) ≡ masks_of s t
  unfolding broadcast
  masks-broadcast = masks-recounted s ok t (broadcast s t k b o x) k (fetch_price s) refl refl ok.some-fetch has-copy

  -- processor j, the payer, holds it at slot m
  module _ (z : Sized s t) (j m : ℕ) (is_m : m ≡ slot s j b) (hm : m < slots s) (hb : b.0 < s.blocks) (pays : holds s t j b ≡ true) where
    abbrev t' : Tables
    t' = broadcast s t k b o x

    masks-kept : counter t' m ≢ 1 → masks_of s t ≡ masks_of s (charged s t' m)
    unfolding broadcast
    masks-kept d =
        sym (masks-charged s ok t' (sized-broadcast s t z k b o x) m hm
        (at_set (λ (x : ℕ). 0 < x) t.counters k (fetch_price s) m ok.some-fetch (rw is_m (holder-slot s t j b pays).0)) d ∙ masks-broadcast)

    masks-emptied : counter t' m ≡ 1 → lost (masks_of s t) b j ≡ masks_of s (charged s t' m)
    unfolding broadcast
    masks-emptied e =
        ap (λ h. lost h b j) (sym masks-broadcast)
        ∙ masks-charged-empty s ok t' (sized-broadcast s t z k b o x) m hm j b is_m hb (rw is_m (holder-slot s t j b pays).1) e

-- what the search for the payer, which found j, tells
module _ (s : Setup) (t : Tables) (i : ℕ) (b : Block) (j : ℕ) (found : j ≡ payer s t i b) where
  alone : s.processors ≤ j → sharing s t i b ≡ false
  alone h = sym (payer-sharing s t i b) ∙ rw (← found) (le-ltb j s.processors h)

  shared : j < s.processors → sharing s t i b ≡ true
  shared h = sym (payer-sharing s t i b) ∙ rw (← found) (lt-ltb j s.processors h)

  pays : j < s.processors → holds s t j b ≡ true
  pays h = rw found (payer-found s t i b (shared h)).passes

pub bounds-masks-b : goal.bounds-masks-b
bounds-masks-b c =
    let a = c.args in
    let p = c.requires in
    let t = tables a.blocks.now a.counters.now a.marks.now a.words.now a.memory.now in
    omega (arith, p.block_lt_blocks, length-masks a.setup t p.true_masks)

pub payer-requires : goal.payer-requires
unfolding holders
payer-requires c =
    let a = c.args in
    let p = c.requires in
    let t = tables a.blocks.now a.counters.now a.marks.now a.words.now a.memory.now in record {
      fits = p.fits;
      processor_lt_processors = p.processor_lt_processors;
      mask_bound = rw (mask-read a.setup t a.block p.true_masks p.block_lt_blocks) (mask_below a.setup.processors _);
      per_slot = p.sized.counters;
    }

pub returns-in_default : goal.returns-in_default
unfolding written update_cycles
returns-in_default c =
    let a = c.args in
    let p = c.requires in
    let s = a.setup in
    let t = tables a.blocks.now a.counters.now a.marks.now a.words.now a.memory.now in
    let mask = mask-read s t a.block p.true_masks p.block_lt_blocks in
    let found = c.in_default.ensures.value a.blocks.now a.marks.now a.words.now a.memory.now mask in
    let e = alone s t a.processor a.block s.processors found (omega arith) in
    let w = c.write_alone.ensures a.blocks.now a.memory.now in record {
      value = rw e;
      memory_value = rw (e, ← c.slot-k.ensures.value) w;
      masks_after = p.true_masks ∙ sym (ap (masks_of s) w ∙ masks-alone s p.fits t a.processor a.block p.block_value c.slot-k.result c.slot-k.ensures.value a.offset a.value);
    }

pub write_shared-emptied-requires : goal.write_shared-emptied-requires
write_shared-emptied-requires c =
    let a = c.args in
    let p = c.requires in
    let s = a.setup in
    let t = tables a.blocks.now a.counters.now a.marks.now a.words.now a.memory.now in
    let mask = mask-read s t a.block p.true_masks p.block_lt_blocks in
    let found = c.in-Some.ensures.value a.blocks.now a.marks.now a.words.now a.memory.now mask in
    let held = holder-slot s t c.in-Some.j a.block (pays s t a.processor a.block c.in-Some.j found c.in-Some.ensures.in_range) in record {
      fits = p.fits;
      writer_bound = (c.slot-k.ensures.within, c.slot.ensures.within);
      block_lt_blocks = p.block_lt_blocks;
      offset_lt_words = p.offset_lt_words;
      bound = rw c.slot.ensures.value held.0;
      mask_value = mask;
      sized = p.sized;
    }

pub returns-then-not-emptied : goal.returns-then-not-emptied
unfolding written update_cycles
returns-then-not-emptied c =
    let a = c.args in
    let p = c.requires in
    let s = a.setup in
    let t = tables a.blocks.now a.counters.now a.marks.now a.words.now a.memory.now in
    let mask = mask-read s t a.block p.true_masks p.block_lt_blocks in
    let found = c.in-Some.ensures.value a.blocks.now a.marks.now a.words.now a.memory.now mask in
    let e = shared s t a.processor a.block c.in-Some.j found c.in-Some.ensures.in_range in
    let w = c.write_shared-emptied.ensures.memory_value in
    let left = eqb-false _ _ (sym c.write_shared-emptied.ensures.value ∙ c.if-not-emptied.true) in record {
      value = rw e;
      memory_value = rw (e, ← found, ← c.slot-k.ensures.value, ← c.slot.ensures.value) w;
      masks_after = p.true_masks
          ∙ masks-kept s p.fits t a.processor a.block p.block_value c.slot-k.result c.slot-k.ensures.value a.offset a.value p.sized
          c.in-Some.j c.slot.result c.slot.ensures.value c.slot.ensures.within p.block_lt_blocks
          (pays s t a.processor a.block c.in-Some.j found c.in-Some.ensures.in_range) left
          ∙ sym (ap (masks_of s) w);
    }

pub lose-requires : goal.lose-requires
lose-requires c =
    let a = c.args in
    let p = c.requires in
    let t = tables a.blocks.now a.counters.now a.marks.now a.words.now a.memory.now in
    (omega (arith, c.in-Some.ensures.in_range, p.fits.few-processors), omega (arith, p.block_lt_blocks, length-masks a.setup t p.true_masks))

pub returns : goal.returns
unfolding written update_cycles
returns c =
    let a = c.args in
    let p = c.requires in
    let s = a.setup in
    let t = tables a.blocks.now a.counters.now a.marks.now a.words.now a.memory.now in
    let mask = mask-read s t a.block p.true_masks p.block_lt_blocks in
    let found = c.in-Some.ensures.value a.blocks.now a.marks.now a.words.now a.memory.now mask in
    let e = shared s t a.processor a.block c.in-Some.j found c.in-Some.ensures.in_range in
    let w = c.write_shared-emptied.ensures.memory_value in
    let last = eqb-true _ _ (sym c.write_shared-emptied.ensures.value ∙ c.if-not-emptied.false) in record {
      value = rw e;
      memory_value = rw (e, ← found, ← c.slot-k.ensures.value, ← c.slot.ensures.value) w;
      masks_after = c.lose.ensures ∙ ap (λ h. lost h a.block c.in-Some.j) p.true_masks
          ∙ masks-emptied s p.fits t a.processor a.block p.block_value c.slot-k.result c.slot-k.ensures.value a.offset a.value p.sized
          c.in-Some.j c.slot.result c.slot.ensures.value c.slot.ensures.within p.block_lt_blocks
          (pays s t a.processor a.block c.in-Some.j found c.in-Some.ensures.in_range) last
          ∙ sym (ap (masks_of s) w);
    }
