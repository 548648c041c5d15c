-- A clear keeps the tables' lengths (sized-cleared), names no block outside main memory (inside-cleared) and leaves held blocks in their proper lines
-- (proper-cleared). The sum fits, since a clear costs at most 2,048 (few-cycles).
use Prim.Native.Nat.{◌+◌}
use mathlib.Core.Path.{sym, subst}
use native.Mathlib.Omega.{arith}
use Rattle.protocol.specs.Tables.{tables, Sized}
use Rattle.engine_masks.specs.Copies.{Proper}
use Rattle.protocol.proofs.Lengths.{sized-cleared}
use Rattle.engine_masks.proofs.Rules.{stands}
use Rattle.engine_masks.proofs.Proper.{proper-cleared}
use Rattle.engine_evictions.proofs.Clearing.{next-cycles, few-cycles}
use Rattle.engine_evictions.proofs.Inside.{Inside, inside-cleared}
use Rattle.engine_evictions.proofs.clear.Goals as goal

pub evict-cycles-requires : goal.evict-cycles-requires
evict-cycles-requires c =
    let a = c.args in
    let p = c.requires in
    let s = a.setup in
    let t = tables a.blocks.now a.counters.now a.marks.now a.words.now a.memory.now in
    let w = c.loop-l in
    let l = w.l in
    let u = tables w.blocks w.counters w.marks w.words w.memory in
    let e = sym c.loop-l.invariant.2 in
    let k = c.line_slot-k.ensures in record {
      fits = p.fits;
      processor_lt_processors = (p.i_lt_processors, k.upper_bound);
      k_bound = subst (Inside s) e (inside-cleared s p.fits t a.i l p.by_index) c.line_slot-k.result;
      stands_at = rw k.value (stands s p.fits u (subst (Proper s) e (proper-cleared s p.fits t a.i l p.proper)) a.i l p.i_lt_processors (omega arith));
      sized = subst (Sized s) e (sized-cleared s t p.sized a.i l);
      true_masks = c.loop-l.invariant.3;
    }

pub overflow_add-cycles : goal.overflow_add-cycles
overflow_add-cycles c =
    let a = c.args in
    let t = tables a.blocks.now a.counters.now a.marks.now a.words.now a.memory.now in
    let l = c.loop-l.l in
    let n = next-cycles a.setup t a.i l c.loop-l.invariant.2 c.line_slot-k.ensures.value c.loop-l.invariant.1 c.evict-cycles.ensures.value in
    omega (arith, few-cycles a.setup c.requires.fits t a.i (l + 1) (omega arith) n)
