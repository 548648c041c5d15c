-- The setup and both lists are refused, or the lists are whole (Start).
use mathlib.Core.Path.{sym, ◌∙◌}
use Rattle.rival_copies.specs.Copies.{rival_lent}
use Rattle.host_decoding.proofs.Whole.{passed-whole}
use Rattle.rival_pricer.proofs.Start.{price-refused, price-whole}
use Rattle.rival_pricer.proofs.price.Goals as goal

pub returns-in-Err : goal.returns-in-Err
returns-in-Err g c =
    let a = c.args in
    price-refused a.setup (rival_lent a.blocks.now a.held.now a.marks.now) (g.C.Stores.records a.requests.now) (g.D.Stores.records a.entries.now)
    _ _ (rw (← c.are_whole.ensures) c.in-Err.ensures)

pub returns : goal.returns
returns g c =
    let a = c.args in
    price-whole a.setup (rival_lent a.blocks.now a.held.now a.marks.now) (g.C.Stores.records a.requests.now) (g.D.Stores.records a.entries.now)
    (sym c.are_whole.ensures ∙ (passed-whole a.setup _ c.in_default.ensures).0) c.price_whole.ensures
