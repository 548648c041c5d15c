-- Each end is a law of proofs/Search.antt.
use mathlib.Core.Path.{◌∙◌}
use mathlib.Core.Bool.{◌&&◌}
use native.Mathlib.Omega.{arith}
use lib.ListN.{length, length-take}
use Rattle.std.proofs.lemmas.Result.{err_from_is_err_and}
use Rattle.best_schedule.specs.Lent.{search_lent}
use Rattle.best.proofs.Search.{checked-is, passes, lent-is, refused-first, refused-later, found-fits, found-ends}
use Rattle.best.proofs.best.Goals as goal

pub returns-in-Err : goal.returns-in-Err
returns-in-Err g c =
    let a = c.args in
    let x = search_lent a.distances.now a.order.now a.predecessors.now a.lowest.now in
    refused-first a.setup _ a.steps x _ g.D.Stores.stored a.list.now c.in-Err.refusal
    (c.in-Err.ensures ∙ checked-is a.setup _ x _ _ _ _ c.count-count.ensures c.lengths_fit-fits.ensures c.entries_lent-entries.ensures)

pub numbers_of-requires : goal.numbers_of-requires
numbers_of-requires g c =
    let a = c.args in
    let x = search_lent a.distances.now a.order.now a.predecessors.now a.lowest.now in
    let p = passes _ _ x _ _ _ _ c.count-count.ensures c.lengths_fit-fits.ensures c.entries_lent-entries.ensures c.in_default.ensures in
    (p.fits, p.two, p.small, p.few)

pub returns-in_err-asks : goal.returns-in_err-asks
returns-in_err-asks g c =
    let a = c.args in
    let x = search_lent a.distances.now a.order.now a.predecessors.now a.lowest.now in
    let p = passes _ _ x _ _ _ _ c.count-count.ensures c.lengths_fit-fits.ensures c.entries_lent-entries.ensures c.in_default.ensures in
    let r = err_from_is_err_and c.from_residual.result c.from_residual.ensures.1 in
    rw (r.1, r.2) (refused-later a.setup _ a.steps x _ g.D.Stores.stored a.list.now p.passed _ c.in_err-asks.ensures)

pub slice_bounds-asks-end : goal.slice_bounds-asks-end
slice_bounds-asks-end g c =
    let a = c.args in
    let x = search_lent a.distances.now a.order.now a.predecessors.now a.lowest.now in
    let p = passes _ _ x _ _ _ _ c.count-count.ensures c.lengths_fit-fits.ensures c.entries_lent-entries.ensures c.in_default.ensures in
    omega (arith, p.few, c.count-count.ensures, c.in_ok-asks.ensures.many)

pub slice_bounds-find-end : goal.slice_bounds-find-end
slice_bounds-find-end g c =
    let a = c.args in
    let x = search_lent a.distances.now a.order.now a.predecessors.now a.lowest.now in
    let p = passes _ _ x _ _ _ _ c.count-count.ensures c.lengths_fit-fits.ensures c.entries_lent-entries.ensures c.in_default.ensures in
    omega (arith, p.few, c.count-count.ensures, c.in_ok-asks.ensures.many, length-take c.count-count.result c.in_ok-asks.asks)

pub find-found-requires : goal.find-found-requires
find-found-requires g c =
    let a = c.args in
    let x = search_lent a.distances.now a.order.now a.predecessors.now a.lowest.now in
    let p = passes _ _ x _ _ _ _ c.count-count.ensures c.lengths_fit-fits.ensures c.entries_lent-entries.ensures c.in_default.ensures in
    record {
      fits = (p.fits, p.small, omega (arith, p.few, c.count-count.ensures, c.in_ok-asks.ensures.many, length-take c.count-count.result c.in_ok-asks.asks));
      tables_fit = p.tables;
    }

pub slice_bounds-store_entries-end : goal.slice_bounds-store_entries-end
slice_bounds-store_entries-end g c =
    let a = c.args in
    let x = search_lent a.distances.now a.order.now a.predecessors.now a.lowest.now in
    let p = passes _ _ x _ _ _ _ c.count-count.ensures c.lengths_fit-fits.ensures c.entries_lent-entries.ensures c.in_default.ensures in
    let f = found-fits a.setup _ a.steps x _ g.D.Stores.stored a.list.now p.passed _ c.in_ok-asks.ensures _ c.count-count.ensures _ c.find-found.ensures.value in
    omega (arith, f, p.tables.distances, c.find-found.auto.distances)

pub slice_bounds-store_entries-end-2 : goal.slice_bounds-store_entries-end-2
slice_bounds-store_entries-end-2 g c =
    let a = c.args in
    let x = search_lent a.distances.now a.order.now a.predecessors.now a.lowest.now in
    let p = passes _ _ x _ _ _ _ c.count-count.ensures c.lengths_fit-fits.ensures c.entries_lent-entries.ensures c.in_default.ensures in
    let f = found-fits a.setup _ a.steps x _ g.D.Stores.stored a.list.now p.passed _ c.in_ok-asks.ensures _ c.count-count.ensures _ c.find-found.ensures.value in
    omega (arith, f, p.tables.distances, c.find-found.auto.distances, length-take c.find-found.result.length c.find-found.new.distances)

pub store_entries-requires : goal.store_entries-requires
store_entries-requires g c =
    let a = c.args in
    let x = search_lent a.distances.now a.order.now a.predecessors.now a.lowest.now in
    let p = passes _ _ x _ _ _ _ c.count-count.ensures c.lengths_fit-fits.ensures c.entries_lent-entries.ensures c.in_default.ensures in
    let f = found-fits a.setup _ a.steps x _ g.D.Stores.stored a.list.now p.passed _ c.in_ok-asks.ensures _ c.count-count.ensures _ c.find-found.ensures.value in
    omega (arith, f, lent-is (g.C.Stores.whole a.requests.now && g.D.Stores.whole a.list.now) (length (g.D.Stores.records a.list.now)) p.room, length-take c.find-found.result.length c.find-found.new.distances)

pub returns : goal.returns
returns g c =
    let a = c.args in
    let x = search_lent a.distances.now a.order.now a.predecessors.now a.lowest.now in
    let p = passes _ _ x _ _ _ _ c.count-count.ensures c.lengths_fit-fits.ensures c.entries_lent-entries.ensures c.in_default.ensures in
    let n = c.find-found.new in
    found-ends a.setup _ a.steps x _ g.D.Stores.stored a.list.now p.passed _ c.in_ok-asks.ensures _ c.count-count.ensures _ c.find-found.ensures.value
    (search_lent n.distances n.order n.predecessors n.lowest) c.find-found.ensures.tables _ c.store_entries.ensures
