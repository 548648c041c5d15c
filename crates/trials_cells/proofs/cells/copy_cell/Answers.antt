-- The callees' equations, put together.
use Rattle.std.proofs.Common.{ℕ, ap, ◌∙◌}
use Rattle.trials_cells.specs.Cells.{with}
use Rattle.trials_cells.proofs.cells.copy_cell.Goals as goal

pub returns : goal.returns
returns c =
    let a = c.args in
    c.put.ensures ∙ ap (λ (x : ℕ). with a.cells.now a.b a.k x) c.get-x.ensures
