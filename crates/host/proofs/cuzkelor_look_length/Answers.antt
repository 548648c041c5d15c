-- The look, at the setup of the six numbers (setup_of).
use Rattle.host.proofs.cuzkelor_look_length.Goals as goal

pub returns : goal.returns
returns c = rw c.setup_of-setup.ensures at c.look_length.ensures
