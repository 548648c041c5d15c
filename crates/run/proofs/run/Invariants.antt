-- What is left to run where i requests are taken is the whole run.
use Rattle.protocol.specs.Lent.{lent_masked}
use Rattle.run.specs.Stored.{run_stored}
use Rattle.run.proofs.Loop.{Inv}
use Rattle.run.proofs.run.Given as goal

abbrev pub invariant-loop-i : goal.invariant-loop-i
invariant-loop-i g l =
    let f = l.fn in
    let qs = g.C.Stores.records l.requests in
    Inv l.setup qs (run_stored l.setup (lent_masked f.blocks f.counters f.marks f.words f.memory f.masks) f.account (g.C.Stores.whole l.requests) qs f.values)
    l.i (lent_masked l.blocks l.counters l.marks l.words l.memory l.masks) l.account l.values
