-- Requests and what is answered to them, as one table. proofs/Cases proves that every row passes, and that with 0 steps the answer is `at_once`.
use Rattle.std.specs.Prelude.{ℕ, ◌+◌, ◌-◌, ◌/◌, Bool, true, false, ◌&&◌, List, [], ◌∷◌, length, replicate, eqb}
use Rattle.protocol.specs.Tables.{fresh}
use Rattle.protocol.specs.Sessions.{priced_board, read, write, clear, fetch_entry, write_back_entry, drop_entry, same_list}
use Rattle.competitive.specs.EngineSchedule.{engine_schedule}
use Rattle.best_search.specs.Search.{walk, total}
use Rattle.protocol_types.specs.declared.Setup.{Setup}
use Rattle.protocol_types.specs.declared.Request.{Request}
use Rattle.protocol_types.specs.declared.Entry.{Entry}
use Rattle.protocol_types.specs.declared.Entry.TheVariants.{Complete, CompleteByBroadcast}
use Rattle.protocol_types.specs.declared.BestSchedule.{BestSchedule}
use Rattle.best_positions.specs.Position.{asked_all, board, numbers_of}
use Rattle.best_positions.specs.Best.{engine_cycles, spelled, best_refusal, best_place}

-- what is answered with 0 steps
unfoldable pub at_once : Setup → List Request → BestSchedule
at_once s qs = record {
  length = length (engine_schedule s (fresh s) qs);
  cost = engine_cycles s qs;
  steps = 0;
  least = false;
  excess = engine_cycles s qs - (engine_cycles s qs + 1) / 2;
}

-- ---- the kinds of rows

-- requests with buffers of the right lengths or not, and the refusal and its place. Where nothing is refused, that place is the number of requests
pub record Judged : Type 0 where
  pub setup : Setup
  pub requests : List Request
  pub sized : Bool
  pub number : ℕ
  pub place : ℕ

-- requests and what 0 steps give: the schedule and its cost, which is the engine's, and the excess
pub record Own : Type 0 where
  pub setup : Setup
  pub requests : List Request
  pub entries : List Entry
  pub cost : ℕ
  pub excess : ℕ

-- a way by the numbers of its entries, as the search finds one: what it spells, its cost, and what the engine spends
pub record Way : Type 0 where
  pub setup : Setup
  pub requests : List Request
  pub codes : List ℕ
  pub entries : List Entry
  pub cost : ℕ
  pub engine : ℕ
  pub excess : ℕ

pub data Row : Type 0 where
  judged : Judged → Row
  own : Own → Row
  way : Way → Row

abbrev pub same_entries : List Entry → List Entry → Bool
same_entries es ds = same_list (numbers_of es) (numbers_of ds)

abbrev pub same_schedule : BestSchedule → BestSchedule → Bool
same_schedule a c = eqb a.length c.length && eqb a.cost c.cost && eqb a.steps c.steps && eqb a.excess c.excess

abbrev pub judged_passes : Judged → Bool
judged_passes c =
    eqb (best_refusal c.setup c.requests c.sized) c.number && eqb (best_place c.setup c.requests c.sized) c.place

abbrev pub own_passes : Own → Bool
own_passes c =
    judged_passes (record { setup = c.setup; requests = c.requests; sized = true; number = 0; place = length c.requests })
    && same_entries (engine_schedule c.setup (fresh c.setup) c.requests) c.entries
    && same_schedule (at_once c.setup c.requests) (record { length = length c.entries; cost = c.cost; steps = 0; least = false; excess = c.excess })

abbrev pub way_passes : Way → Bool
way_passes c =
    same_entries (spelled (asked_all c.setup c.requests) 0 c.codes) c.entries
    && (board c.setup (asked_all c.setup c.requests)).final (walk (board c.setup (asked_all c.setup c.requests)) 0 c.codes)
    && eqb (total (board c.setup (asked_all c.setup c.requests)) 0 c.codes) c.cost
    && eqb (engine_cycles c.setup c.requests) c.engine
    && eqb (c.cost - (engine_cycles c.setup c.requests + 1) / 2) c.excess

abbrev pub passes : Row → Bool
passes (judged c) = judged_passes c
passes (own c) = own_passes c
passes (way c) = way_passes c

abbrev pub every_row : List Row → Bool
every_row [] = true
every_row (w ∷ ws) = passes w && every_row ws

-- ---- the table

-- L, p, M, f, g, with N 2
abbrev pub pair : ℕ → ℕ → ℕ → ℕ → ℕ → Setup
pair l p m f g = priced_board 2 l p m f g

abbrev pub row : Setup → List Request → Bool → ℕ → ℕ → Row
row s qs sized n place = judged (record { setup = s; requests = qs; sized = sized; number = n; place = place })

unfoldable pub rows : List Row
rows =
    -- 12: N 1, N 3, M 5, 25 requests
    row (priced_board 1 2 3 4 5 4) (read 0 1 ∷ []) true 12 0
    ∷ row (priced_board 3 2 3 4 5 4) (read 0 1 ∷ []) true 12 0
    ∷ row (pair 2 3 5 5 4) (read 0 1 ∷ []) true 12 0
    ∷ row (pair 2 3 4 5 4) (replicate 25 (read 1 2)) true 12 0
    -- let through: M 4 with 24 requests, M 1, no request
    ∷ row (pair 2 3 4 5 4) (replicate 24 (read 1 2)) true 0 24
    ∷ row (pair 3 2 1 4 2) (write 1 1 9 ∷ []) true 0 1
    ∷ row (pair 2 3 4 5 4) [] true 0 0
    -- 1 before 12, 10 before 12, 12 before 2
    ∷ row (pair 65 3 5 5 4) (read 0 1 ∷ []) true 1 0
    ∷ row (pair 2 3 5 33 4) (read 0 1 ∷ []) true 10 0
    ∷ row (pair 2 3 5 5 6) (replicate 25 (read 1 2)) true 10 0
    ∷ row (pair 2 3 5 5 4) (read 0 1 ∷ []) false 12 0
    -- 2 before 3, also with no request
    ∷ row (pair 2 3 4 5 4) (read 2 1 ∷ []) false 2 0
    ∷ row (pair 2 3 4 5 4) [] false 2 0
    -- 3 at place 2 before 4 at place 3, and the other way round
    ∷ row (pair 2 3 4 5 4) (read 0 1 ∷ write 1 2 7 ∷ read 2 4 ∷ read 1 12 ∷ []) true 3 2
    ∷ row (pair 2 3 4 5 4) (read 0 1 ∷ write 1 2 7 ∷ read 1 12 ∷ read 2 4 ∷ []) true 4 2
    -- the last variable let through and the first refused, M × p; 3 before 4 in one request
    ∷ row (pair 2 3 4 5 4) (read 0 11 ∷ write 1 11 5 ∷ read 1 11 ∷ []) true 0 3
    ∷ row (pair 2 3 4 5 4) (read 0 11 ∷ write 1 12 5 ∷ read 1 11 ∷ []) true 4 1
    ∷ row (pair 2 3 4 5 4) (read 0 11 ∷ write 2 12 5 ∷ []) true 3 1
    -- a clear by processor 2
    ∷ row (pair 2 3 4 5 4) (clear 1 ∷ read 1 3 ∷ clear 0 ∷ clear 2 ∷ []) true 3 3
    -- a miss with a marked block in the way
    ∷ own (record {
      setup = pair 1 3 4 5 2;
      requests = write 1 4 8 ∷ read 1 9 ∷ [];
      entries = fetch_entry 1 1 ∷ Complete ∷ write_back_entry 1 1 ∷ drop_entry 1 1 ∷ fetch_entry 1 3 ∷ Complete ∷ [];
      cost = 12;
      excess = 6;
    })
    -- a shared write that empties the payer's line, whose drop comes after the completion; the next write finds one holder
    ∷ own (record {
      setup = pair 2 3 4 2 1;
      requests = read 1 6 ∷ read 0 7 ∷ write 0 8 5 ∷ write 0 6 4 ∷ write 0 7 3 ∷ [];
      entries = fetch_entry 1 2 ∷ Complete ∷ fetch_entry 0 2 ∷ Complete ∷ Complete ∷ Complete ∷ drop_entry 1 2 ∷ Complete ∷ [];
      cost = 6;
      excess = 3;
    })
    -- a clear with a marked and an unmarked block, from line 0 up; a clear of an empty cache. Odd cycles: half of 13 rounded up is 7
    ∷ own (record {
      setup = pair 3 2 4 5 3;
      requests = write 1 2 8 ∷ clear 0 ∷ read 1 6 ∷ clear 1 ∷ [];
      entries = fetch_entry 1 1 ∷ Complete ∷ Complete ∷ fetch_entry 1 3 ∷ Complete ∷ drop_entry 1 3 ∷ write_back_entry 1 1 ∷ drop_entry 1 1 ∷ Complete ∷ [];
      cost = 13;
      excess = 6;
    })
    -- a write with one holder marks it, and the other's fetch takes the mark: no write-back
    ∷ own (record {
      setup = pair 2 2 3 7 4;
      requests = write 0 3 6 ∷ read 1 2 ∷ clear 0 ∷ [];
      entries = fetch_entry 0 1 ∷ Complete ∷ fetch_entry 1 1 ∷ Complete ∷ drop_entry 0 1 ∷ Complete ∷ [];
      cost = 14;
      excess = 7;
    })
    ∷ own (record { setup = pair 2 3 4 5 4; requests = []; entries = []; cost = 0; excess = 0 })
    -- a write by broadcast saves the clear's write-back: cost 5 where the engine spends 7, half of which, rounded up, is 4
    ∷ way (record {
      setup = pair 2 2 4 4 3;
      requests = write 0 7 9 ∷ clear 0 ∷ [];
      codes = 6 ∷ 17 ∷ 7 ∷ 16 ∷ [];
      entries = fetch_entry 0 3 ∷ CompleteByBroadcast ∷ drop_entry 0 3 ∷ Complete ∷ [];
      cost = 5;
      engine = 7;
      excess = 1;
    })
    -- a block marked, written back, and kept unmarked beside another copy: a drop before the shared write makes it free
    ∷ way (record {
      setup = pair 2 2 4 6 2;
      requests = write 1 5 9 ∷ read 0 4 ∷ write 1 4 8 ∷ [];
      codes = 12 ∷ 16 ∷ 12 ∷ 4 ∷ 16 ∷ 5 ∷ 16 ∷ [];
      entries = fetch_entry 1 2 ∷ Complete ∷ write_back_entry 1 2 ∷ fetch_entry 0 2 ∷ Complete ∷ drop_entry 0 2 ∷ Complete ∷ [];
      cost = 14;
      engine = 13;
      excess = 7;
    })
    ∷ []
