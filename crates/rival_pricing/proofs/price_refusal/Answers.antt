-- The first condition met gives the refusal: 1 or 10, then 2, then 5.
use mathlib.Core.Path.{sym}
use Rattle.protocol_types.specs.Refusals.{no_refusal}
use Rattle.protocol_types.proofs.Board.{setup-fits}
use Rattle.protocol_types.proofs.Refusals.{refusal-at_exit, number-first}
use Rattle.protocol.specs.Pricer.{price_refusal}
use Rattle.rival_pricing.proofs.price_refusal.Goals as goal

pub returns-in_err-check : goal.returns-in_err-check
unfolding price_refusal
returns-in_err-check c =
    let e = c.in_err-check.field-0.0 in
    refusal-at_exit e no_refusal c.from_residual.result c.from_residual.ensures.1
    (rw (← c.in_err-check.ensures) (sym (number-first e _)))

pub is_sized-fit-requires : goal.is_sized-fit-requires
is_sized-fit-requires c = setup-fits c.args.setup (sym (c.in_ok-check.ensures))
