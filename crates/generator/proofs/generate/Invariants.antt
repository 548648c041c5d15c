-- The requests that were drawn stand at the front, and x is the last draw that they used.
use Rattle.std.proofs.Common.{◌≡◌, length}
use Rattle.protocol.specs.Generator.{workload}
use Rattle.protocol.proofs.Generator.{draw_after}
use Rattle.stored_lists.specs.Lists.{filled}
use Rattle.generator.proofs.generate.Given as goal

abbrev pub invariant-loop-i : goal.invariant-loop-i
invariant-loop-i g l = record {
  front : l.list ≡ filled g.C.Stores.stored l.fn.list (workload l.setup l.seed l.i);
  drawn : l.x ≡ draw_after l.seed l.i;
  room : length (g.C.Stores.records l.list) ≡ l.count;
}
