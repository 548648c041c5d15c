-- A refusal leaves the list; else each turn stores one request more.
use Rattle.std.proofs.Common.{◌≡◌, ◌∙◌, ◌<◌, sym, refl, length, arith}
use Rattle.protocol_types.specs.Refusals.{no_refusal}
use Rattle.protocol.proofs.Generator.{workload-zero}
use Rattle.generator.specs.Lists.{list_refusal}
use Rattle.generator.proofs.Passed.{goes_through, refused-stays, all-stored, all_drawn, last-drawn, one_more, still_room}
use Rattle.generator.proofs.generate.Goals as goal

pub returns-in_err-check-clause-list : goal.returns-in_err-check-clause-list
returns-in_err-check-clause-list g c =
    refused-stays _ _ _ _ _ _ _ (c.in_err-check.ensures ∙ rw (c.is_whole-whole.ensures, c.count-count.ensures))

pub loop-i-init : goal.loop-i-init
loop-i-init g c = record { front = rw (workload-zero c.args.setup c.args.seed); drawn = refl; room = sym c.count-count.ensures }

pub draw_request-requires : goal.draw_request-requires
draw_request-requires g c = (goes_through _ _ _ _ (sym c.in_ok-check.ensures)).fits

pub loop-i-preserved : goal.loop-i-preserved
loop-i-preserved g c =
    let x = c.loop-i.x in
    let i = c.loop-i.i in
    let list = c.loop-i.list in
    let q = c.draw_request.result in
    let drawn = all_drawn _ x _ _ _ q c.next_draw-first.ensures c.next_draw-second.ensures c.next_draw-third.ensures c.draw_request.ensures in
    let within : i < length (g.C.Stores.records list) = omega (arith, c.loop-i-test.true, c.loop-i.invariant.room) in
    record {
      front = one_more _ _ _ _ i x list _ q c.loop-i.invariant.front c.loop-i.invariant.drawn drawn c.store.ensures;
      drawn = last-drawn _ i x _ _ _ c.loop-i.invariant.drawn c.next_draw-first.ensures c.next_draw-second.ensures c.next_draw-third.ensures;
      room = still_room g.C.Stores.records list _ _ i q c.store.ensures (g.met.C.Stores.reads_back list i q within) c.loop-i.invariant.room;
    }

pub returns-clause-list : goal.returns-clause-list
returns-clause-list g c =
    let a = c.args in
    let passed : list_refusal (g.C.Stores.whole a.list.now) a.setup a.seed (length (g.C.Stores.records a.list.now)) ≡ no_refusal =
    sym (c.in_ok-check.ensures ∙ rw (c.is_whole-whole.ensures, c.count-count.ensures)) in
    let all : c.loop-i.i ≡ length (g.C.Stores.records a.list.now) = omega (arith, c.count-count.ensures) in
    c.loop-i.invariant.front ∙ rw all (all-stored _ g.C.Stores.records _ _ _ _ passed)
