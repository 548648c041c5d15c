-- A byte of 0 has no bit.
use Rattle.bits.proofs.Bytes.{lowest_is}
use native.Mathlib.Omega.{arith}
use lib.Count.{count_trailing_zeros}
use Rattle.bits.proofs.lowest.Goals as goal

pub returns-then-mask-eq0-clause-value : goal.returns-then-mask-eq0-clause-value
unfolding count_trailing_zeros
returns-then-mask-eq0-clause-value c = rw c.if-mask-eq0.true (lowest_is 0 (omega arith))
