-- A block's line is one of the lines (line-lt).
use Rattle.protocol_types.specs.Board.{slot}
use Rattle.protocol_types.proofs.Board.{line-lt}
use Rattle.protocol_types.proofs.Setup.slot.Goals as goal

pub line_slot-requires : goal.line_slot-requires
line_slot-requires c = record {
  fits = c.requires.fits;
  processor_lt_processors = (c.requires.processor_lt_processors, rw c.line_of-line.ensures (line-lt c.args.self c.requires.fits c.args.block));
}

pub returns : goal.returns
unfolding slot
returns c =
    record { value = rw (← c.line_of-line.ensures) c.line_slot.ensures.value; within = c.line_slot.ensures.upper_bound }
