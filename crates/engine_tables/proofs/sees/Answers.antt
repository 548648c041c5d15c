-- A setup that is not refused fits (setup-fits).
use mathlib.Core.Path.{sym, ◌∙◌}
use Rattle.protocol_types.proofs.Board.{setup-fits}
use Rattle.engine_tables.proofs.Tests.{passes}
use Rattle.engine_tables.proofs.sees.Goals as goal

pub slot_count-slots-requires : goal.slot_count-slots-requires
slot_count-slots-requires c = setup-fits c.args.setup (passes c.check.result c.check.ensures (sym c.is_err.ensures.value ∙ c.if-is_err.false))

pub word_count-requires : goal.word_count-requires
word_count-requires c = setup-fits c.args.setup (passes c.check.result c.check.ensures (sym c.is_err.ensures.value ∙ c.if-is_err.false))

pub holds-requires-clause-fits : goal.holds-requires-clause-fits
holds-requires-clause-fits c = setup-fits c.args.setup (passes c.check.result c.check.ensures (sym c.is_err.ensures.value ∙ c.if-is_err.false))
