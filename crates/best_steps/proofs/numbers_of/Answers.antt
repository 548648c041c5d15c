-- Each goal is a law of proofs/Asks.antt.
use Rattle.std.proofs.Common.{◌+◌, sym, subst, arith}
use lib.ListN.{set}
use Rattle.protocol_types.proofs.Conditions.{request-passed}
use Rattle.best_positions.specs.Position.{asked}
use Rattle.best_steps.proofs.Asks.{Taken, taken-none, taken-all, refused-here, taken-more}
use Rattle.best_steps.proofs.numbers_of.Goals as goal

pub loop-i-init : goal.loop-i-init
loop-i-init g c = taken-none _ _

pub number_of-number-requires : goal.number_of-number-requires
number_of-number-requires g c =
    let v = (request-passed c.args.setup 0 c.record_at-request.result (sym c.in_default.ensures)).0 in
    let r = c.requires in
    (r.0, r.2, omega (arith, v.processor, r.1), v.operation)

pub bounds-asks-i : goal.bounds-asks-i
bounds-asks-i g c = let h = c.loop-i.invariant.many in let r = c.requires in omega arith

pub loop-i-preserved : goal.loop-i-preserved
unfolding asked
loop-i-preserved g c =
    let i = c.loop-i.i in
    let r = c.requires in
    subst (λ n. Taken c.args.setup (g.C.Stores.records c.args.requests.now) (i + 1) (set c.loop-i.asks i n)) (sym c.number_of-number.ensures)
    (taken-more c.args.setup _ _ _ c.loop-i.invariant _ c.record_at-request.ensures (i + 1) (omega arith) r.3 (sym c.in_default.ensures))

pub returns-in-Err : goal.returns-in-Err
returns-in-Err g c = refused-here c.args.setup _ _ _ c.loop-i.invariant _ c.record_at-request.ensures c.in-Err.refusal c.in-Err.ensures

pub returns : goal.returns
returns g c = taken-all _ _ _ _ (omega arith) c.loop-i.invariant
