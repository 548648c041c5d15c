-- Tables that are not started are of the wrong lengths (`not-started`); those that are started are fresh (`now-started`), with
-- true masks (`fresh-with-masks`).
use mathlib.Core.Path.{refl, sym, ◌∙◌}
use Rattle.trace_lines.specs.Trace.{trace_setup}
use Rattle.protocol_types.proofs.Refusals.{some-number}
use Rattle.trace.proofs.Laws.{fresh-with-masks, not-started, now-started, ended-started}
use Rattle.trace.proofs.count_trace.Goals as goal

pub returns-in-Err : goal.returns-in-Err
unfolding trace_setup
returns-in-Err c =
    let e = rw c.trace_setup.ensures at c.in-Err.ensures in
    not-started _ _ _ e.value e.masks_value _ (some-number _)

pub count_fresh-requires : goal.count_fresh-requires
unfolding trace_setup
count_fresh-requires c =
    let e = rw c.trace_setup.ensures at c.in_default.ensures in
    let f = fresh-with-masks _ (now-started _ _ _ e.value e.masks_value refl).1 in record {
      memory_value = f.0;
      true_masks = f.1;
    }

pub returns : goal.returns
unfolding trace_setup
returns c =
    let e = rw c.trace_setup.ensures at c.in_default.ensures in
    c.count_fresh.ensures ∙ sym (ended-started _ _ (now-started _ _ _ e.value e.masks_value refl).0)
