-- The position is reached anew where its distance falls, and then it is not settled; else nothing but the entry changes.
use Prim.Native.Nat.{◌+◌}
use mathlib.Core.Path.{sym, ap, ◌∙◌}
use native.Mathlib.Omega.{arith}
use Rattle.protocol_types.specs.Lists.{at}
use Rattle.best_search.specs.Search.{past}
use Rattle.best_lowest.specs.Lowest.{lowest_of}
use Rattle.best_tries.specs.Progress.{state_at}
use Rattle.best_tries.proofs.Steps.{relaxed-falls, relaxed-not, falls-is, lowered-table}
use Rattle.best_tries.proofs.try_entry.Goals as goal

pub returns-then-not-falls : goal.returns-then-not-falls
returns-then-not-falls c =
    let a = c.args in
    let d = a.distances.now in
    let v = a.predecessors.now in record {
      state = λ g eighteen to cost last o ts us. c.passed.ensures.state d o v ts us
          ∙ ap (λ q. past q us) (relaxed-not g (state_at d o v a.p ts) a.w (at d a.p.current + a.price) to (ap (λ z. at d a.p.current + z) cost)
          (sym c.falls.ensures ∙ c.if-not-falls.true));
      count = c.passed.ensures.count;
      table = λ o free e. e;
    }

pub returns : goal.returns
returns c =
    let a = c.args in
    let z = c.requires in
    let d = a.distances.now in
    let v = a.predecessors.now in
    let k = c.reach in
    let f = sym c.falls.ensures ∙ c.if-not-falls.false in
    let n = at d a.p.current + a.price in record {
      state = λ g eighteen to cost last o ts us. (λ i. state_at (k.ensures.distance i) o (k.ensures.way i) c.lowered.result us)
          ∙ c.lowered.ensures.state g eighteen last d o v ts us
          ∙ ap (λ q. past q us) (relaxed-falls g (state_at d o v a.p ts) a.w n to (ap (λ z. at d a.p.current + z) cost) f);
      count = c.lowered.ensures.count;
      table = λ o free e. lowered-table d o a.lowest.now _ a.w n z.next z.sized.0 (omega (arith, z.reached.0))
          (falls-is d a.w n f) (free (falls-is d a.w n f)) e k.ensures.group
          ∙ ap (λ d. lowest_of d o) (sym k.ensures.distance);
    }
