-- The setup of traces is not refused, so every law of setups that fit holds of it.
use mathlib.Core.Path.{◌≡◌, refl}
use Rattle.protocol_types.specs.Refusals.{no_refusal}
use Rattle.protocol_types.specs.Board.{setup_refusal, sizes_in_range, prices_in_range, Fits}
use Rattle.protocol_types.proofs.Board.{setup-fits}
use Rattle.trace_lines.specs.Trace.{trace_setup}

pub trace-passes : setup_refusal trace_setup ≡ no_refusal
unfolding trace_setup setup_refusal sizes_in_range prices_in_range
trace-passes = refl

pub trace-fits : Fits trace_setup
trace-fits = setup-fits trace_setup trace-passes
