-- A fresh count on fresh tables can go on (`countable-first`, `countable-fed`); fed with all the bytes and finished it gives `ended` (`fed-ended`).
use mathlib.Core.Path.{sym, ap, ◌∙◌, subst}
use Rattle.trace_count.specs.Counting.{CountStage, Countable}
use Rattle.trace.specs.Feeding.{fed, finished}
use Rattle.trace.proofs.Laws.{first-stage, countable-first}
use Rattle.trace.proofs.Feeding.{countable-fed}
use Rattle.trace.proofs.Whole.{fed-ended}
use Rattle.std.proofs.Common.{rules}
use Rattle.trace.proofs.count_fresh.Goals as goal

pub feed-count-requires : goal.feed-count-requires
feed-count-requires c = record {
  countable = countable-first _ _ c.new.ensures c.requires.memory_value;
  true_masks = search rules;
}

pub finish-requires : goal.finish-requires
finish-requires c = record {
  countable = subst Countable (sym c.feed-count.ensures.memory_value) (countable-fed _ c.args.bytes.now (countable-first _ _ c.new.ensures c.requires.memory_value));
  true_masks = c.feed-count.ensures.masks_after;
}

pub returns : goal.returns
returns c =
    let s = c.args.bytes.now in
    c.finish.ensures.memory_value ∙ ap finished (c.feed-count.ensures.memory_value ∙ ap (λ (x : CountStage). fed x s) (first-stage _ _ c.new.ensures c.requires.memory_value)) ∙ fed-ended s
