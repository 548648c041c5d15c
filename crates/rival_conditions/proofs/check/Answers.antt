-- Each kind of entry has its own conditions.
use Rattle.rival_conditions.proofs.check.Goals as goal

pub returns-in-Fetch : goal.returns-in-Fetch
returns-in-Fetch c = rw c.in-Fetch.is (c.check_fetch.ensures c.args.blocks.now c.args.marks.now)
