-- The callees' equations, put together.
use Rattle.trials_cells.proofs.state.between.Goals as goal

pub returns : goal.returns
returns c = (cc, cc)
