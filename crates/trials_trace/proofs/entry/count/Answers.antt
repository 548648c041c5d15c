-- It promises nothing but to be safe and to end: each index, sum and cast fits.
use mathlib.Core.Path.{sym}
use lib.Seq.{length-take-le}
use Rattle.std.proofs.Common.{rules}
use Rattle.trials_trace.proofs.entry.count.Goals as goal

pub slice_bounds-count_trace-end : goal.slice_bounds-count_trace-end
slice_bounds-count_trace-end c = sym (length-take-le _ _ (search rules))

pub slice_bounds-count_trace-end-2 : goal.slice_bounds-count_trace-end-2
slice_bounds-count_trace-end-2 c = sym (length-take-le _ _ (search rules))

pub slice_bounds-count_trace-end-3 : goal.slice_bounds-count_trace-end-3
slice_bounds-count_trace-end-3 c = sym (length-take-le _ _ (search rules))

pub slice_bounds-count_trace-end-4 : goal.slice_bounds-count_trace-end-4
slice_bounds-count_trace-end-4 c = sym (length-take-le _ _ (search rules))

pub slice_bounds-count_trace-end-5 : goal.slice_bounds-count_trace-end-5
slice_bounds-count_trace-end-5 c = sym (length-take-le _ _ (search rules))

pub slice_bounds-count_trace-end-6 : goal.slice_bounds-count_trace-end-6
slice_bounds-count_trace-end-6 c = sym (length-take-le _ _ (search rules))
