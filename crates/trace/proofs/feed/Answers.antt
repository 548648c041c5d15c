-- After a refusal nothing changes (`refused-stays`). Else the bytes up to the first newline belong to the current line: it is cut (`fed-more`),
-- or it ends (`fed-ends`), and then a refusal stops the count, or `feed_lines` goes on from the start of the next line.
use Prim.Native.Nat.{◌+◌}
use mathlib.Core.Path.{sym, ap, ◌∙◌}
use native.Mathlib.Omega.{arith}
use lib.ListN.{take, drop}
use lib.Seq.{length-take-le}
use borrow.Author.Tests.{ne_eqb}
use Rattle.trace_din.specs.Lines.{is_text}
use Rattle.trace_din.proofs.Leading.{rest_part, leading-short}
use Rattle.trace_count.specs.Counting.{CountStage}
use Rattle.trace_count.proofs.Laws.{countable-after, counted_start, some_refuses, none_passes}
use Rattle.trace.specs.Feeding.{fed}
use Rattle.trace.proofs.Laws.{countable-lengthened}
use Rattle.trace.proofs.Feeding.{refused-stays, fed-more, fed-ends}
use Rattle.std.proofs.Common.{rules}
use Rattle.trace.proofs.feed.Goals as goal

pub returns-then-is_some : goal.returns-then-is_some
returns-then-is_some c = record {
  memory_value = sym (refused-stays _ c.args.bytes.now (ne_eqb _ _ (some_refuses _ (sym c.is_some.ensures ∙ c.if-is_some.true))));
  masks_after = search rules;
}

pub slice_bounds-lengthen-end : goal.slice_bounds-lengthen-end
slice_bounds-lengthen-end c =
    let s = c.args.bytes.now in
    let e = c.line_end-end in
    sym (length-take-le e.result s (omega (arith, e.ensures, leading-short is_text s)))

pub returns-then-end-bytes : goal.returns-then-end-bytes
returns-then-end-bytes c = record {
  memory_value = fed-more _ c.args.bytes.now _ _ (none_passes _ (sym c.is_some.ensures ∙ c.if-is_some.false)) c.line_end-end.ensures c.lengthen-longer.ensures c.if-end-bytes.true;
  masks_after = search rules;
}

pub end_line-next-requires : goal.end_line-next-requires
end_line-next-requires c = record {
  countable = countable-lengthened _ _ (take c.line_end-end.result c.args.bytes.now) c.lengthen-longer.ensures c.requires.countable;
  true_masks = search rules;
}

pub returns-then-is_some-2 : goal.returns-then-is_some-2
returns-then-is_some-2 c =
    let s = c.args.bytes.now in
    let rest = drop (c.line_end-end.result + 1) s in record {
      memory_value = sym
          (fed-ends _ s _ _ (none_passes _ (sym c.is_some.ensures ∙ c.if-is_some.false)) c.line_end-end.ensures c.lengthen-longer.ensures _ c.if-end-bytes.false c.parsed.ensures
          ∙ ap (λ (x : CountStage). fed x rest) (sym c.end_line-next.ensures.memory_value)
          ∙ refused-stays _ rest (ne_eqb _ _ (some_refuses _ (sym c.is_some-2.ensures ∙ c.if-is_some-2.true))));
      masks_after = c.end_line-next.ensures.masks_after;
    }

pub feed_lines-requires : goal.feed_lines-requires
feed_lines-requires c =
    let ended = c.end_line-next.ensures in record {
      at_start = counted_start _ _ _ ended.memory_value (none_passes _ (sym c.is_some-2.ensures ∙ c.if-is_some-2.false));
      countable = countable-after _ _ _ ended.memory_value (countable-lengthened _ _ (take c.line_end-end.result c.args.bytes.now) c.lengthen-longer.ensures c.requires.countable);
      true_masks = ended.masks_after;
    }

pub returns : goal.returns
returns c =
    let lines = c.feed_lines.ensures in
    let s = c.args.bytes.now in record {
      memory_value = lines.memory_value
          ∙ ap (fed _) (rest_part s (c.line_end-end.result + 1))
          ∙ sym
          (fed-ends _ s _ _ (none_passes _ (sym c.is_some.ensures ∙ c.if-is_some.false)) c.line_end-end.ensures c.lengthen-longer.ensures _ c.if-end-bytes.false c.parsed.ensures
          ∙ ap (λ (x : CountStage). fed x (drop (c.line_end-end.result + 1) s)) (sym c.end_line-next.ensures.memory_value));
      masks_after = lines.masks_after;
    }
