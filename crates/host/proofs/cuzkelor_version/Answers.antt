-- By the definition.
use mathlib.Core.Path.{refl}
use Rattle.host.proofs.cuzkelor_version.Goals as goal

pub returns : goal.returns
returns c = refl
