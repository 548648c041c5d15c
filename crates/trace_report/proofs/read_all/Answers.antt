-- Between two reads the count is that of all reads so far, which left more to read (`Going`). A turn is one read more (`going_more`), and the reading
-- ends where a read says so (`reached-end`) or where all turns are made (`reached-last`). Every read leaves true masks.
use mathlib.Core.Path.{refl}
use Rattle.trace_report.proofs.Laws.{countable-going, going_more, reached-end}
use Rattle.trace_report.proofs.read_all.Goals as goal

pub read_some-requires-clause-countable : goal.read_some-requires-clause-countable
read_some-requires-clause-countable g c = countable-going _ _ c.loop-turn.invariant.going

pub returns-in-Break-clause-reached : goal.returns-in-Break-clause-reached
returns-in-Break-clause-reached g c = reached-end _ _ c.loop-turn.invariant.going _ _ c.in-Break.ensures.took refl

pub loop-turn-preserved : goal.loop-turn-preserved
loop-turn-preserved g c = record {
  going = going_more _ _ c.loop-turn.invariant.going _ _ c.in-Continue.ensures.took _ refl;
  true_masks = c.in-Continue.ensures.masks_after;
}
