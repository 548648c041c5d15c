-- What no refusal tells before the first request.
use Prim.Native.Nat.{ℕ, ◌≤◌}
use mathlib.Core.Path.{◌≡◌}
use mathlib.Core.Bool.{Bool, true, ◌&&◌}
use native.Mathlib.Omega.{arith}
use lib.ListN.{length}
use lib.Dec.{leb, eqb}
use borrow.Author.Tests.{eqb-true, leb-true}
use Rattle.protocol_types.specs.Refusals.{no_refusal, unless, wrong_length, not_searchable}
use Rattle.protocol_types.specs.Board.{Fits, setup_refusal}
use Rattle.best_positions.specs.Best.{SearchTables, position_count, group_count, searchable, search_sized, search_refusal}
use Rattle.best_schedule.specs.Lent.{TablesFit}
use Rattle.protocol_types.specs.declared.Setup.{Setup}
use Rattle.protocol_types.proofs.Laws.{three-true, chosen-zero}
use Rattle.protocol_types.proofs.Refusals.{neither-refuses}
use Rattle.protocol_types.proofs.Board.{setup-fits}

pub record Checked (s : Setup) (n : ℕ) (sized : Bool) : Type 0 where
  pub fits : Fits s
  pub two : s.processors ≡ 2
  pub small : s.blocks ≤ 4
  pub few : n ≤ 24
  pub sized-so : sized ≡ true

pub checked : (s : Setup) (n : ℕ) (sized : Bool) → search_refusal s n sized ≡ no_refusal → Checked s n sized
unfolding search_refusal searchable
checked s n sized e =
    let able : Bool = eqb s.processors 2 && leb s.blocks 4 && leb n 24 in
    let first = neither-refuses (setup_refusal s) (unless able not_searchable (unless sized wrong_length no_refusal)) e in
    let second = chosen-zero able (unless sized wrong_length no_refusal) not_searchable (omega arith) first.1 in
    let third = three-true (eqb s.processors 2) (leb s.blocks 4) (leb n 24) second.0 in
    record {
      fits = setup-fits s first.0;
      two = eqb-true _ _ third.0;
      small = leb-true _ _ third.1;
      few = leb-true _ _ third.2;
      sized-so = (chosen-zero sized no_refusal wrong_length (omega arith) second.1).0;
    }

pub tables-sized : (x : SearchTables) (e : ℕ) → search_sized x e ≡ true → TablesFit x × (e ≡ position_count)
unfolding search_sized
tables-sized x e h =
    let firsts : Bool = eqb (length x.distances) position_count && eqb (length x.order) position_count && eqb (length x.predecessors) position_count in
    let a = three-true firsts (eqb (length x.lowest) group_count) (eqb e position_count) h in
    let b = three-true (eqb (length x.distances) position_count) (eqb (length x.order) position_count) (eqb (length x.predecessors) position_count) a.0 in
    (record { distances = eqb-true _ _ b.0; order = eqb-true _ _ b.1; predecessors = eqb-true _ _ b.2; lowest = eqb-true _ _ a.1 }, eqb-true _ _ a.2)
