-- An entry that is not refused names a processor.
use mathlib.Core.Path.{sym}
use Rattle.protocol_types.specs.Refusals.{no_refusal}
use Rattle.rival_copies.proofs.Laws.{names_processor}
use Rattle.rival_conditions.proofs.check_drop.Goals as goal

pub slot-k-requires-clause-processor_lt_processors :
    goal.slot-k-requires-clause-processor_lt_processors
slot-k-requires-clause-processor_lt_processors c = names_processor _ _ _ no_refusal (sym (c.in_ok-check_move.ensures no_refusal))
