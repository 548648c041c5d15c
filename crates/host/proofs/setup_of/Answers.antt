-- The six numbers, as `setup_of` has them.
use mathlib.Core.Path.{refl}
use Rattle.host.proofs.setup_of.Goals as goal

pub returns : goal.returns
returns c = refl
