-- Each entry is refused or played as the verdict says (Loop).
use Prim.Native.Nat.{ℕ, ◌+◌, ◌≤◌}
use mathlib.Core.Path.{◌≡◌, sym, ap, ◌∙◌}
use native.Mathlib.Omega.{arith}
use lib.ListN.{drop}
use Rattle.protocol_types.specs.Answers.{Refused}
use Rattle.protocol_types.specs.Refusals.{requests_left}
use Rattle.protocol.specs.Rival.{left}
use Rattle.rival_copies.specs.Copies.{rival_lent}
use Rattle.rival_schedule.specs.Played.{next_alone}
use Rattle.rival_schedule.proofs.Laws.{cheap}
use Rattle.rival_pricer.proofs.Loop.{Inv, inv-start, refused-there, played-there, next-completed, next-other, left-over, ended}
use Rattle.std.proofs.Common.{of_calls}
use Rattle.std.proofs.lemmas.Result.{err_from_is_err_and}
use Rattle.rival_pricer.proofs.Start.{was-ok, was-err}
use Rattle.rival_pricer.proofs.play_all.Goals as goal
use Rattle.rival_pricer.proofs.play_all.Goals.{then-completes, else-completes}

pub loop-at-init : goal.loop-at-init
loop-at-init g c = inv-start _ _ _ _ c.requires.empty

pub play_entry-requires-clause-rival_sized : goal.play_entry-requires-clause-rival_sized
play_entry-requires-clause-rival_sized g c = c.loop-at.invariant.sized

pub returns-in_err-cycles : goal.returns-in_err-cycles
returns-in_err-cycles g c =
    let l = c.loop-at in
    let m = was-err _ c.play_entry.result c.map_err.result c.map_err.ensures.cases _ c.in_err-cycles.was in
    let placed : c.in_err-cycles.field-0.0 ≡ record { refusal = m.0; place = l.at } = search (of_calls, m.2) in
    let x = err_from_is_err_and c.from_residual.result c.from_residual.ensures.1 in
    let p = rw (m.1, c.next_request-request.ensures) at c.play_entry.ensures in
    rw (x.1, x.2, placed) (refused-there _ _ _ _ _ _ _ l.invariant _ c.record_at-entry.ensures m.0 p.0, rw p.1 l.invariant.sized)

pub overflow_add-cost : goal.overflow_add-cost
overflow_add-cost g c =
    let l = c.loop-at in
    let r = rival_lent l.blocks l.held l.marks in
    let p = rw (was-ok _ c.play_entry.result c.map_err.result c.map_err.ensures.cases _ c.in_ok-cycles.was) at c.play_entry.ensures in
    let n = p.1 in
    let m = cheap c.args.setup c.requires.fits r (next_alone c.next_request-request.result) c.record_at-entry.result in
    omega (arith, l.invariant.low, c.requires.few, c.loop-at-test.true, c.count-entry_count.ensures, n, m)

pub loop-at-preserved : goal.loop-at-preserved
loop-at-preserved g c =
    let l = c.loop-at in
    let p = rw (was-ok _ c.play_entry.result c.map_err.result c.map_err.ensures.cases _ c.in_ok-cycles.was, c.next_request-request.ensures) at c.play_entry.ensures in
    let qs = g.C.Stores.records c.args.requests.now in
    let e = c.record_at-entry.result in
    let step : (m : ℕ) → m ≤ l.at + 1 → drop m qs ≡ left (drop l.next qs) e
    → Inv c.args.setup (g.D.Stores.records c.args.entries.now) qs (rival_lent c.play_entry.new.blocks c.play_entry.new.held c.play_entry.new.marks) (l.at + 1) m (l.cost + c.in_ok-cycles.cycles) =
    played-there _ _ _ _ _ _ _ l.invariant e c.record_at-entry.ensures c.requires.fits p.0 c.in_ok-cycles.cycles p.1 _ p.2
    in
    elim c.if-completes.branch [
      | then-completes w ↦ step c.if-completes.next (omega (arith, l.invariant.behind, w.next-is)) (rw w.next-is (next-completed qs l.next e (sym c.completes.ensures ∙ w.if-completes.true)))
      | else-completes w ↦ step c.if-completes.next (omega (arith, l.invariant.behind, w.next-is)) (rw w.next-is (next-other qs l.next e (sym c.completes.ensures ∙ w.if-completes.false)))
    ]

pub returns-then-next-request_count : goal.returns-then-next-request_count
returns-then-next-request_count g c =
    let l = c.loop-at in
    let last : l.at ≡ c.count-entry_count.result = omega arith in (
      left-over _ _ _ _ _ _ _ l.invariant (omega (arith, last, c.count-entry_count.ensures)) (omega (arith, c.if-next-request_count.true, c.count-request_count.ensures)) ∙ ap (Refused requests_left) last,
      l.invariant.sized,
    )

pub returns : goal.returns
returns g c =
    let l = c.loop-at in
    let last : l.at ≡ c.count-entry_count.result = omega arith in
    ended _ _ _ _ _ _ _ l.invariant (omega (arith, last, c.count-entry_count.ensures)) (omega (arith, c.if-next-request_count.false, c.count-request_count.ensures))
