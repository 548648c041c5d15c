-- The generator over numbers, at the setup of the six numbers (setup_of).
use mathlib.Core.Path.{◌∙◌}
use Rattle.generator.proofs.Instances.{numbers-refused, numbers-generated}
use Rattle.host.proofs.cuzkelor_generate.Goals as goal

pub returns : goal.returns
returns c =
    let a = c.args in
    let e = rw c.setup_of-setup.ensures at c.generate.ensures in
    (c.refusal_number.ensures ∙ e.refusal ∙ numbers-refused _ a.seed a.requests.now, e.list ∙ numbers-generated _ a.seed a.requests.now)
