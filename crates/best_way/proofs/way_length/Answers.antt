-- The entries passed and those that are left are all.
use Rattle.std.proofs.Common.{◌-◌, arith}
use Rattle.best_way.proofs.Way.{hops-stop, hops-on, hops-none}
use Rattle.best_way.proofs.way_length.Goals as goal

pub loop-n-preserved : goal.loop-n-preserved
loop-n-preserved c =
    let a = c.args in
    let q = c.loop-n in record {
      within = omega (arith, c.requires.before q.u);
      rest = omega (arith, q.invariant.rest, hops-on 32401 q.n a.predecessors.now q.u (omega arith) c.if-u-eq0.false);
    }

pub returns-clause-value : goal.returns-clause-value
returns-clause-value c =
    let a = c.args in
    let q = c.loop-n in
    omega (arith, q.invariant.rest, hops-none 32401 q.n a.predecessors.now q.u (omega arith))

pub returns-then-u-eq0-clause-value : goal.returns-then-u-eq0-clause-value
returns-then-u-eq0-clause-value c =
    let a = c.args in
    let q = c.loop-n in
    omega (arith, q.invariant.rest, hops-stop (32401 - q.n) a.predecessors.now q.u c.if-u-eq0.true)
