-- What is left to feed from the start of a line on gives the whole. A turn feeds a line that lies whole in the rest (`fed-whole`): after a
-- refusal nothing changes any more (`refused-stays`), else the count is at the start of the next line and can go on (`counted_start`,
-- `countable-after`). A line that is cut is the end (`fed-within`). Every turn leaves true masks, by `end_line`.
use Prim.Native.Nat.{◌+◌}
use mathlib.Core.Path.{sym, ap, ◌∙◌}
use native.Mathlib.Omega.{arith}
use lib.ListN.{length, drop, length-drop}
use borrow.Author.Tests.{ne_eqb}
use Rattle.protocol.specs.Tables.{tables}
use Rattle.trace_din.proofs.Leading.{rest_part}
use Rattle.trace_count.specs.Counting.{CountNumbers, CountStage, stage}
use Rattle.trace_count.proofs.Laws.{countable-after, counted_start, some_refuses, none_passes}
use Rattle.trace.specs.Feeding.{fed}
use Rattle.trace.proofs.Feeding.{refused-stays, fed-within, fed-whole}
use Rattle.std.proofs.Common.{rules}
use Rattle.trace.proofs.feed_lines.Goals as goal

pub returns-then-first-rest-clause-memory_value : goal.returns-then-first-rest-clause-memory_value
returns-then-first-rest-clause-memory_value c =
    let x = c.lines in
    let t = tables x.blocks x.counters x.marks x.words x.memory in
    ap (λ (y : CountNumbers). stage y t) c.lengthen.ensures
    ∙ fed-within _ x.rest.now x.invariant.at_start (omega (arith, c.if-first-rest.true, c.first_line-first.ensures.end))
    ∙ sym x.invariant.left

pub returns-then-is_some-clause-memory_value : goal.returns-then-is_some-clause-memory_value
returns-then-is_some-clause-memory_value c =
    let x = c.lines in
    let first = c.first_line-first in
    let rest = drop (first.result.end + 1) x.rest.now in
    sym
    (x.invariant.left
    ∙ fed-whole _ x.rest.now _ _ x.invariant.at_start first.ensures.end c.if-first-rest.false first.ensures.parsed
    ∙ ap (λ (y : CountStage). fed y rest) (sym c.end_line-so_far.ensures.memory_value)
    ∙ refused-stays _ rest (ne_eqb _ _ (some_refuses _ (sym c.is_some.ensures ∙ c.if-is_some.true))))

pub overflow_add-rest : goal.overflow_add-rest
overflow_add-rest c = let part = c.lines.invariant.part in search rules

pub lines-preserved : goal.lines-preserved
lines-preserved c =
    let x = c.lines in
    let first = c.first_line-first in
    let ended = c.end_line-so_far.ensures in
    let rest = drop (first.result.end + 1) x.rest.now in
    let behind = rest_part x.rest.now (first.result.end + 1) in
    record {
      part = omega (arith, x.invariant.part, ap length behind, length-drop (first.result.end + 1) x.rest.now);
      at_start = counted_start _ _ _ ended.memory_value (none_passes _ (sym c.is_some.ensures ∙ c.if-is_some.false));
      countable = countable-after _ _ _ ended.memory_value x.invariant.countable;
      left = x.invariant.left
          ∙ fed-whole _ x.rest.now _ _ x.invariant.at_start first.ensures.end c.if-first-rest.false first.ensures.parsed
          ∙ ap (λ (y : CountStage). fed y rest) (sym ended.memory_value)
          ∙ ap (fed _) (sym behind);
      true_masks = ended.masks_after;
    }
