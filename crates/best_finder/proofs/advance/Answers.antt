-- A move is a try, a passed entry or a settled position, as the search defines it.
use mathlib.Core.Path.{refl, sym, ap, ◌∙◌}
use mathlib.Core.List.{List, ◌∷◌}
use native.Mathlib.Omega.{arith}
use lib.ListN.{length}
use Rattle.best_search.specs.Search.{Tried, past, relaxed, closed, onward}
use Rattle.best_positions.specs.Position.{board, served_of}
use Rattle.best_positions.proofs.Schedules.{next-lt}
use Rattle.best_tries.specs.Progress.{state_at}
use Rattle.best_finder.proofs.Moves.{moved_by, tick-settle, tick-try, tick-skip, onward-tries, past-tries, open-there}
use Rattle.best_finder.proofs.advance.Goals as goal

pub returns-then-p-ge-ENTRY_COUNT : goal.returns-then-p-ge-ENTRY_COUNT
returns-then-p-ge-ENTRY_COUNT c =
    let a = c.args in
    let z = c.requires in
    let g = board a.setup a.asks.now in
    let d = a.distances.now in
    let o = a.order.now in
    let v = a.predecessors.now in
    let k = c.settle_current in record {
      moved = λ ts l. let t = state_at d o v a.p ts in
          moved_by g t (onward g (closed t)) d k.new.order v k.result (tick-settle a.setup a.asks.now t c.if-p-ge-ENTRY_COUNT.true)
          (ap (λ us. state_at d k.new.order v k.result us) (onward-tries g t) ∙ k.ensures.state a.setup a.asks.now v ts) (ap length (onward-tries g t) ∙ l ∙ sym k.ensures.count);
      table = k.ensures.table;
    }

pub returns-then-not-legal_at : goal.returns-then-not-legal_at
returns-then-not-legal_at c =
    let a = c.args in
    let z = c.requires in
    let g = board a.setup a.asks.now in
    let d = a.distances.now in
    let o = a.order.now in
    let v = a.predecessors.now in
    let k = c.passed in record {
      moved = λ ts l. let t = state_at d o v a.p ts in
          moved_by g t (past t ts) d o v k.result (tick-skip a.setup a.asks.now t c.if-p-ge-ENTRY_COUNT.false (sym c.legal_at.ensures ∙ c.if-not-legal_at.true))
          (ap (λ us. state_at d o v k.result us) (past-tries t ts) ∙ k.ensures.state d o v ts ts) (ap length (past-tries t ts) ∙ l ∙ sym k.ensures.count);
      table = z.table;
    }

pub try_entry-requires : goal.try_entry-requires
try_entry-requires c =
    let a = c.args in
    let z = c.requires in
    let legal = sym c.legal_at.ensures ∙ c.if-not-legal_at.false in record {
      sized = (z.sized.0, z.sized.2, z.sized.3);
      entry = (z.few.0, c.if-p-ge-ENTRY_COUNT.false);
      few = z.few.2;
      reached = z.reached;
      next = omega (arith, c.next_at-next.ensures, next-lt a.setup a.asks.now a.p.current a.p.code z.fits.1 z.few.0 legal);
      cheap = c.price_at-price.ensures.bound;
    }

pub returns : goal.returns
unfolding board served_of
returns c =
    let a = c.args in
    let z = c.requires in
    let g = board a.setup a.asks.now in
    let d = a.distances.now in
    let o = a.order.now in
    let v = a.predecessors.now in
    let k = c.try_entry in
    let legal = sym c.legal_at.ensures ∙ c.if-not-legal_at.false in record {
      moved = λ ts l. let t = state_at d o v a.p ts in
          let us : List Tried = record { position = a.p.current; code = a.p.code } ∷ ts in
          moved_by g t (past (relaxed g t) us) k.new.distances o k.new.predecessors k.result (tick-try a.setup a.asks.now t c.if-p-ge-ENTRY_COUNT.false legal)
          (ap (λ xs. state_at k.new.distances o k.new.predecessors k.result xs) (past-tries (relaxed g t) us)
          ∙ k.ensures.state g refl c.next_at-next.ensures c.price_at-price.ensures.value refl o ts us) (ap length (past-tries (relaxed g t) us) ∙ omega (arith, l, k.ensures.count));
      table = k.ensures.table o
          (open-there g d o a.p.current a.p.code c.next_at-next.result c.price_at-price.result c.next_at-next.ensures c.price_at-price.ensures.value legal z.next) z.table;
    }
