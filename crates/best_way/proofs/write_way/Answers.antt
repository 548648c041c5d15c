-- What is written is the end of the way back, and what is left to write the rest.
use Rattle.std.proofs.Common.{◌≡◌, refl, arith}
use Rattle.best_way.proofs.Way.{filling-start, filling_step, filling-end}
use Rattle.best_way.proofs.write_way.Goals as goal

pub loop-j-init : goal.loop-j-init
loop-j-init c =
    let a = c.args in
    let z = c.requires in record {
      within = z.position;
      filling = λ s asks. filling-start s asks a.predecessors.now a.numbers.now a.v a.n z.count;
    }

pub loop-j-preserved : goal.loop-j-preserved
loop-j-preserved c =
    let a = c.args in
    let z = c.requires in
    let q = c.loop-j in record {
      within = z.before q.u;
      filling = λ s asks. filling_step s asks a.predecessors.now a.numbers.now a.v a.n q.u q.j q.numbers _ c.entry_number.result (omega arith) (omega (arith, z.room)) refl
          c.entry_number.ensures (q.invariant.filling s asks);
    }

pub returns : goal.returns
returns c s asks =
    let a = c.args in
    let q = c.loop-j in
    let e : q.j ≡ 0 = omega arith in
    filling-end s asks a.predecessors.now a.numbers.now a.v a.n q.u q.numbers (rw e at (q.invariant.filling s asks))
