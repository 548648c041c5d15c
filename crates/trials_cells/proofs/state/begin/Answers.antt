-- The callees' equations, put together.
use Rattle.trials_cells.proofs.state.begin.Goals as goal

pub returns : goal.returns
returns c = cc
