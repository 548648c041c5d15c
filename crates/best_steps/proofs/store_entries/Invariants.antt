-- The entries of the first i numbers are stored.
use Rattle.std.proofs.Common.{◌≡◌, length}
use Rattle.best_steps.proofs.Entries.{front}
use Rattle.best_steps.proofs.store_entries.Given as goal

abbrev pub invariant-loop-i : goal.invariant-loop-i
invariant-loop-i g l =
    let d = g.D.Stores in record {
      stored : l.list ≡ front d.stored l.fn.list l.numbers l.i;
      room : length (d.records l.list) ≡ length (d.records l.fn.list);
    }
