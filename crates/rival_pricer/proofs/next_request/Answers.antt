-- The record at `next` is the first of those that are left.
use Rattle.rival_pricer.proofs.Loop.{from-place}
use Rattle.rival_pricer.proofs.next_request.Goals as goal

pub returns : goal.returns
returns g c = rw (from-place (g.C.Stores.records c.args.requests.now) c.args.next c.record_at.result c.record_at.ensures)
