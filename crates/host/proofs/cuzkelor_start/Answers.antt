-- Starting, at the setup of the six numbers (setup_of).
use mathlib.Core.Path.{◌∙◌}
use Rattle.host.proofs.cuzkelor_start.Goals as goal

pub returns : goal.returns
returns c =
    let started = rw c.setup_of-setup.ensures at c.start-answer.ensures in record {
      value = c.refusal_number.ensures ∙ started.value;
      masks_value = started.masks_value;
    }
