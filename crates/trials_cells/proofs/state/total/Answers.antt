-- The loop's invariant: the total of the numbers passed; one more by totalled_more.
use Rattle.std.proofs.Common.{◌≡◌, refl, sym, ◌∙◌, arith}
use Rattle.trials_cells.specs.Cells.{summed}
use Rattle.trials_cells.proofs.Laws.{totalled_more}
use Rattle.trials_cells.proofs.state.total.Goals as goal

pub loop-number-init : goal.loop-number-init
loop-number-init c = refl

pub loop-number-preserved : goal.loop-number-preserved
loop-number-preserved c =
    c.sum-all.ensures ∙ (λ i. summed (c.loop-number.invariant i) (c.counted.ensures i)) ∙ sym (totalled_more c.args.cells.now c.args.kind c.loop-number.number)

pub returns : goal.returns
returns c = let e : c.loop-number.number ≡ 32 = omega arith in cc
