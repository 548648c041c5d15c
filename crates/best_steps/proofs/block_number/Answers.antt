-- The block is below M, which is at most 4.
use mathlib.Core.Path.{ap}
use native.Mathlib.Omega.{arith}
use Rattle.protocol_types.proofs.Board.{block-lt}
use Rattle.best_steps.proofs.block_number.Goals as goal

pub overflow_mul-result : goal.overflow_mul-result
overflow_mul-result c =
    let p = c.requires in
    let e = ap (λ b. b.0) c.block_of-block.ensures in
    record { fits = omega (arith, e, block-lt c.args.setup p.0 c.args.variable p.2, p.1) }

pub returns : goal.returns
returns c =
    let p = c.requires in
    let e = ap (λ b. b.0) c.block_of-block.ensures in
    (omega (arith, e), omega (arith, e, block-lt c.args.setup p.0 c.args.variable p.2, p.1))
