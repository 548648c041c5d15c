-- The search over lists of numbers (host_best/proofs/Lists), at the setup of the six numbers (setup_of); its answer is stored number by number.
use mathlib.Core.Path.{◌∙◌, ap}
use Rattle.best_schedule.specs.Lent.{search_lent}
use Rattle.host_best.specs.Numbers.{in_numbers}
use Rattle.host_best.proofs.Lists.{numbers-ensured}
use Rattle.host.specs.Host.{setup_of}
use Rattle.host.proofs.cuzkelor_best.Goals as goal

pub returns : goal.returns
returns c =
    let a = c.args in
    let s = setup_of a.processors a.lines a.block_words a.block_count a.fetch_price a.write_back_price in
    let x = search_lent a.distances.now a.order.now a.predecessors.now a.lowest.now in
    let e = numbers-ensured s x a.requests.now a.schedule.now a.steps _ _ _ (rw c.setup_of-setup.ensures at c.best-answer.ensures) in record {
      excess_after = c.in_numbers-best.ensures ∙ ap in_numbers e.0;
      schedule_after = e.1;
      lowest_value = e.2;
    }
