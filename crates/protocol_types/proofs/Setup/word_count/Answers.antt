-- By the definition; the product is small, since the setup fits.
use mathlib.Core.Path.{◌≡◌}
use native.Mathlib.Omega.{arith}
use Rattle.protocol_types.specs.Board.{slots}
use Rattle.protocol_types.proofs.Board.{few-line-words}
use Rattle.protocol_types.proofs.Setup.word_count.Goals as goal

pub overflow_mul-result : goal.overflow_mul-result
overflow_mul-result c =
    let a = c.args in
    let e : c.slot_count.result ≡ slots a.self = c.slot_count.ensures in
    rw e (omega (arith, few-line-words a.self c.requires))

pub returns : goal.returns
returns c = rw c.slot_count.ensures
