-- Each goal is a law of proofs/Entries.antt.
use Rattle.std.proofs.Common.{◌≡◌, ◌+◌, ◌<◌, length, ap, ◌∙◌, arith}
use lib.ListN.{length-set}
use Rattle.stored_lists.specs.Lists.{filled}
use Rattle.best_positions.specs.Position.{entries_from}
use Rattle.best_steps.proofs.Entries.{front, front-all, front-next}
use Rattle.best_steps.proofs.store_entries.Goals as goal

pub loop-i-preserved : goal.loop-i-preserved
loop-i-preserved g c =
    let d = g.D.Stores in
    let h = c.loop-i.invariant in
    let i = c.loop-i.i in
    let e = c.entry_from-entry in
    let now = front d.stored c.args.list.now c.args.numbers.now i in
    let r = c.requires in
    let below : i < length (d.records c.loop-i.list) = omega (arith, h.room, r, c.loop-i-test.true) in record {
      stored =
          c.store.ensures ∙ ap (λ l. d.stored l i e.result) h.stored ∙ ap (d.stored now i) e.ensures
          ∙ front-next d.stored c.args.list.now c.args.numbers.now i (i + 1) (omega arith) c.loop-i-test.true;
      room = ap (λ l. length (d.records l)) c.store.ensures ∙ ap length (g.met.D.Stores.reads_back c.loop-i.list i e.result below) ∙ length-set _ _ _ ∙ h.room;
    }

pub returns : goal.returns
returns g c =
    let d = g.D.Stores in
    let ns = c.args.numbers.now in
    let all : c.loop-i.i ≡ length ns = omega (arith, c.loop-i.auto.i-end, c.loop-i-test.false) in
    c.loop-i.invariant.stored ∙ ap (front d.stored c.args.list.now ns) all ∙ ap (λ l. filled d.stored c.args.list.now (entries_from l)) (front-all ns)
