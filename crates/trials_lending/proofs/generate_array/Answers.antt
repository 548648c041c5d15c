-- The generator over a list of requests.
use mathlib.Core.Path.{◌∙◌}
use Rattle.generator.proofs.Instances.{requests-refused, requests-generated}
use Rattle.trials_lending.proofs.generate_array.Goals as goal

pub returns : goal.returns
returns c =
    let a = c.args in
    let e = c.generate-answer.ensures in
    (e.refusal ∙ requests-refused a.setup a.seed a.requests, e.list ∙ requests-generated a.setup a.seed a.requests)
