-- What refuses before the first entry leaves the tables; else the verdict is the answer, and a refusal leaves zeros (Start).
use mathlib.Core.Path.{◌≡◌}
use Rattle.std.proofs.Common.{of_calls}
use Rattle.std.proofs.lemmas.Result.{err_from_is_err_and}
use Rattle.protocol.specs.Pricer.{verdict}
use Rattle.rival_copies.specs.Copies.{rival_lent}
use Rattle.rival_pricer.proofs.Start.{was-ok, was-err, refused-tables, start-refused, start-knows, start-passed}
use Rattle.rival_pricer.proofs.price_whole.Goals as goal

pub returns-in_err-map_err : goal.returns-in_err-map_err
returns-in_err-map_err g c =
    let a = c.args in
    let m = was-err _ c.price_refusal.result c.map_err.result c.map_err.ensures.cases _ c.in_err-map_err.was in
    let placed : c.in_err-map_err.field-0.0 ≡ record { refusal = m.0; place = 0 } = search (of_calls, m.2) in
    let x = err_from_is_err_and c.from_residual.result c.from_residual.ensures.1 in
    rw (x.1, x.2, placed)
    (start-refused a.setup (rival_lent a.blocks.now a.held.now a.marks.now) (g.C.Stores.records a.requests.now) (g.D.Stores.records a.entries.now) _ _
    c.count-entry_count.ensures c.count-request_count.ensures m.0 (rw m.1 at c.price_refusal.ensures))

pub clear_all-requires : goal.clear_all-requires
clear_all-requires g c =
    let a = c.args in
    (start-knows a.setup (rival_lent a.blocks.now a.held.now a.marks.now) (g.C.Stores.records a.requests.now) (g.D.Stores.records a.entries.now) _ _
    c.count-entry_count.ensures c.count-request_count.ensures
    (rw (was-ok _ c.price_refusal.result c.map_err.result c.map_err.ensures.cases _ c.in_ok-map_err.was) at c.price_refusal.ensures)).sized

pub play_all-requires-clause-fits : goal.play_all-requires-clause-fits
play_all-requires-clause-fits g c =
    let a = c.args in
    (start-knows a.setup (rival_lent a.blocks.now a.held.now a.marks.now) (g.C.Stores.records a.requests.now) (g.D.Stores.records a.entries.now) _ _
    c.count-entry_count.ensures c.count-request_count.ensures
    (rw (was-ok _ c.price_refusal.result c.map_err.result c.map_err.ensures.cases _ c.in_ok-map_err.was) at c.price_refusal.ensures)).fits

pub play_all-requires-clause-few : goal.play_all-requires-clause-few
play_all-requires-clause-few g c =
    let a = c.args in
    (start-knows a.setup (rival_lent a.blocks.now a.held.now a.marks.now) (g.C.Stores.records a.requests.now) (g.D.Stores.records a.entries.now) _ _
    c.count-entry_count.ensures c.count-request_count.ensures
    (rw (was-ok _ c.price_refusal.result c.map_err.result c.map_err.ensures.cases _ c.in_ok-map_err.was) at c.price_refusal.ensures)).few-entries

pub returns-in-Ok : goal.returns-in-Ok
returns-in-Ok g c =
    let a = c.args in
    start-passed a.setup (rival_lent a.blocks.now a.held.now a.marks.now) (g.C.Stores.records a.requests.now) (g.D.Stores.records a.entries.now) _ _
    c.count-entry_count.ensures c.count-request_count.ensures
    (rw (was-ok _ c.price_refusal.result c.map_err.result c.map_err.ensures.cases _ c.in_ok-map_err.was) at c.price_refusal.ensures)
    (rival_lent c.play_all.new.blocks c.play_all.new.held c.play_all.new.marks) c.in-Ok.ensures.0 c.in-Ok.ensures.1

pub returns-in-Err : goal.returns-in-Err
returns-in-Err g c =
    let a = c.args in
    let qs = g.C.Stores.records a.requests.now in
    let es = g.D.Stores.records a.entries.now in
    let judged = c.in-Err.ensures.0 in
    let cleared = rival_lent c.clear_all-in-Err.new.blocks c.clear_all-in-Err.new.held c.clear_all-in-Err.new.marks in
    start-passed a.setup (rival_lent a.blocks.now a.held.now a.marks.now) qs es _ _
    c.count-entry_count.ensures c.count-request_count.ensures
    (rw (was-ok _ c.price_refusal.result c.map_err.result c.map_err.ensures.cases _ c.in_ok-map_err.was) at c.price_refusal.ensures)
    cleared judged (refused-tables a.setup (verdict a.setup qs es) _ _ judged cleared c.clear_all-in-Err.ensures)
