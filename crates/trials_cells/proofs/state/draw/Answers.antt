-- The callees' equations, put together.
use Rattle.std.proofs.Common.{ℕ, ap, ◌∙◌}
use Rattle.trials_cells.specs.Cells.{reduced, with}
use Rattle.trials_cells.specs.State.{following}
use Rattle.trials_cells.proofs.state.draw.Goals as goal

pub returns : goal.returns
returns c =
    let a = c.args in
    let e = c.follow-s.ensures ∙ ap following c.get.ensures in
    (c.remainder.ensures ∙ ap (λ (x : ℕ). reduced x a.below) e, c.put.ensures ∙ ap (λ (x : ℕ). with a.cells.now 0 0 x) e)
