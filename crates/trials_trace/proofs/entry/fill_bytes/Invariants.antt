-- It promises nothing but to be safe and to end: each index, sum and cast fits.
use mathlib.Core.Path.{◌≡◌}
use lib.ListN.{length}
use Rattle.trials_trace.proofs.entry.fill_bytes.Given as goal

abbrev pub invariant-loop-k : goal.invariant-loop-k
invariant-loop-k l = length l.to ≡ length l.initial.to
