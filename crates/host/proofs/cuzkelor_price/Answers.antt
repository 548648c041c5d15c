-- The price over numbers, at the setup of the six numbers (setup_of); its answer is stored number by number.
use mathlib.Core.Path.{◌∙◌}
use Rattle.protocol.specs.Pricer.{numbered}
use Rattle.host.proofs.cuzkelor_price.Goals as goal

pub returns : goal.returns
returns c =
    let e = rw c.setup_of-setup.ensures at c.price-answer.ensures in
    let n = c.number_of.ensures in
    let k = c.place_of.ensures in
    let z = c.cost_of.ensures in record {
      cost_after = (λ j. numbered (n j) (k j) (z j)) ∙ e.1;
      marks_value = e.2;
    }
