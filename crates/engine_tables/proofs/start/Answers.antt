-- The cases of starting (start-refused, start-unsized, start-filled): a setup that is not refused fits (setup-fits), and tables and masks of the right
-- lengths, cleared, are fresh.
use mathlib.Core.Path.{sym, ◌∙◌}
use Rattle.protocol.specs.Tables.{tables, fresh}
use Rattle.protocol.specs.Masks.{masked, fresh_masked}
use Rattle.protocol_types.proofs.Board.{setup-fits}
use Rattle.protocol_types.proofs.Refusals.{refusal-at_exit, some-number}
use Rattle.engine_tables.proofs.Tests.{start-refused, start-unsized, start-filled, sized-is, passed-lengths}
use Rattle.engine_tables.proofs.start.Goals as goal

pub returns-in_err-check : goal.returns-in_err-check
returns-in_err-check c =
    let a = c.args in
    let refused = refusal-at_exit _ _ c.from_residual.result c.from_residual.ensures.1 c.in_err-check.ensures in
    let r = start-refused a.setup (masked (tables a.blocks.now a.counters.now a.marks.now a.words.now a.memory.now) a.masks.now) (λ e. some-number _ (c.in_err-check.ensures ∙ e)) in record {
      value = refused ∙ r.0;
      masks_value = r.1;
    }

pub lengths_fit-requires : goal.lengths_fit-requires
lengths_fit-requires c = setup-fits c.args.setup (sym c.in_ok-check.ensures)

pub returns-then-not-lengths_fit : goal.returns-then-not-lengths_fit
returns-then-not-lengths_fit c =
    let a = c.args in
    let x = masked (tables a.blocks.now a.counters.now a.marks.now a.words.now a.memory.now) a.masks.now in
    let r = start-unsized a.setup x (sym c.in_ok-check.ensures) (sized-is a.setup x ∙ sym c.lengths_fit.ensures ∙ c.if-not-lengths_fit.true) in record {
      value = r.0;
      masks_value = r.1;
    }

pub returns : goal.returns
unfolding fresh fresh_masked
returns c =
    let a = c.args in
    let x = masked (tables a.blocks.now a.counters.now a.marks.now a.words.now a.memory.now) a.masks.now in
    let l = sized-is a.setup x ∙ sym c.lengths_fit.ensures ∙ c.if-not-lengths_fit.false in
    let lengths = passed-lengths a.setup x l in
    let z = lengths.0 in
    let r = start-filled a.setup x (sym c.in_ok-check.ensures) l in record {
      value = r.0;
      masks_value = rw (
        c.set_all.ensures,
        c.set_all-2.ensures,
        c.set_all-3.ensures,
        c.set_all-4.ensures,
        c.set_all-5.ensures,
        c.set_all-6.ensures,
        z.blocks,
        z.counters,
        z.marks,
        z.words,
        z.memory,
        lengths.1,
      )
          r.1;
    }
