-- The next position is the upcoming one, by the table that is scanned anew.
use Prim.Native.Nat.{◌+◌}
use mathlib.Core.Path.{refl, ap, ◌∙◌}
use native.Mathlib.Omega.{arith}
use lib.ListN.{length, set, length-set}
use Rattle.best_lowest.proofs.Lowest.{groups-length}
use Rattle.best_tries.proofs.Steps.{settle-next, settled-table}
use Rattle.best_tries.proofs.settle_current.Goals as goal

pub upcoming_from-next-requires : goal.upcoming_from-next-requires
upcoming_from-next-requires c =
    let a = c.args in
    let z = c.requires in
    let e = settled-table a.distances.now a.order.now a.lowest.now _ a.p.current (a.p.settled + 1) z.position z.table c.rescan_group.ensures in record {
      sized = (
        z.sized.0,
        length-set a.order.now a.p.current (a.p.settled + 1) ∙ z.sized.1,
        ap length e ∙ groups-length 900 a.distances.now (set a.order.now a.p.current (a.p.settled + 1)),
      );
      layer = omega arith;
      table = e;
    }

pub returns : goal.returns
returns c =
    let a = c.args in
    let z = c.requires in
    let q = c.unwrap_or in record {
      state = λ s asks v ts. settle-next s asks a.distances.now a.order.now v a.p q.result a.p.used ts (q.ensures ∙ c.upcoming_from-next.ensures.choice);
      count = refl;
      table = settled-table a.distances.now a.order.now a.lowest.now _ a.p.current (a.p.settled + 1) z.position z.table c.rescan_group.ensures;
    }
