-- The engine's own actions as a rival's schedule, and what is claimed of it.
use Rattle.std.specs.Prelude.{ℕ, zero, suc, ◌<◌, ◌≡◌, ◌&&◌, cond, List, [], ◌∷◌, ◌++◌, ltb, eqb}
use Rattle.protocol_types.specs.Lists.{at}
use Rattle.protocol_types.specs.Board.{slots, line_slot, slot, block_of}
use Rattle.protocol.specs.Tables.{Tables, fresh, counter, block, mark, holds, sharing, marked}
use Rattle.protocol.specs.Rules.{obtained, payer, cleared}
use Rattle.protocol.specs.Requests.{served}
use Rattle.protocol.specs.Engines.{served_all, spent}
use Rattle.protocol.specs.Runs.{engine}
use Rattle.protocol.specs.Rival.{Rival, no_copies, Legal, costs, last_copies}
use Rattle.protocol_types.specs.declared.Setup.{Setup}
use Rattle.protocol_types.specs.declared.Block.{Block}
use Rattle.protocol_types.specs.declared.Request.{Request}
use Rattle.protocol_types.specs.declared.Operation.{Operation}
use Rattle.protocol_types.specs.declared.Operation.TheVariants.{Read, Write, Clear}
use Rattle.protocol_types.specs.declared.Entry.{Entry}
use Rattle.protocol_types.specs.declared.Entry.TheVariants.{Fetch, WriteBack, Drop, Complete}

-- ---- what the engine does for one request, as entries

-- rule 1: the block in slot k of processor i is written back if it is marked
unfoldable pub saving : Tables → ℕ → ℕ → List Entry
saving t i k = cond (marked t k) (WriteBack i (block t k) ∷ []) []

-- then it is dropped; an empty slot needs no entry
unfoldable pub evicting : Tables → ℕ → ℕ → List Entry
evicting t i k = cond (ltb 0 (counter t k)) (saving t i k ++ Drop i (block t k) ∷ []) []

-- rules 1 and 2: on a miss processor i empties the slot and fetches block b; on a hit it does nothing
unfoldable pub obtaining : Setup → Tables → ℕ → Block → List Entry
obtaining s t i b = cond (holds s t i b) [] (evicting t i (slot s i b) ++ Fetch i b ∷ [])

-- rule 5, once processor i's write is completed: the payer drops block b if its counter was 1
unfoldable pub paying : Setup → Tables → ℕ → Block → List Entry
paying s t i b =
    cond (sharing s t i b && eqb (counter t (slot s (payer s t i b) b)) 1)
    (Drop (payer s t i b) b ∷ []) []

-- a clear (document 02, P6): each of processor i's first n lines that is held, from line 0 up, is written back if it is marked, then dropped
abbrev pub clearing : Setup → Tables → ℕ → ℕ → List Entry
clearing s t i zero = []
clearing s t i (suc n) = clearing s t i n ++ evicting (cleared s t i n) i (line_slot s i n)

-- processor i's operation: the block is obtained, the request completed, and the payer pays for a write; a clear is completed once the cache is empty
abbrev pub serving_by : Setup → Tables → ℕ → Operation → List Entry
serving_by s t i (Read v) = obtaining s t i (block_of s v) ++ Complete ∷ []
serving_by s t i (Write v x) = obtaining s t i (block_of s v) ++ Complete ∷ paying s (obtained s t i (block_of s v)) i (block_of s v)
serving_by s t i Clear = clearing s t i s.lines ++ Complete ∷ []

unfoldable pub serving : Setup → Tables → Request → List Entry
serving s t q = serving_by s t q.processor q.operation

-- ---- and for a list of requests, in order

abbrev pub engine_schedule : Setup → Tables → List Request → List Entry
engine_schedule s t [] = []
engine_schedule s t (q ∷ qs) = serving s t q ++ engine_schedule s (served s t q) qs

-- ---- the engine is one of the rivals

-- the rival's copies are those of the engine's tables, slot by slot
pub record SameCopies (s : Setup) (t : Tables) (r : Rival) : Type 0 where
  -- a held mark is 1 where the counter is not 0, and 0 where it is
  pub held : (k : ℕ) → k < slots s → at r.held k ≡ cond (ltb 0 (counter t k)) 1 0
  -- the same block number
  pub blocks : (k : ℕ) → k < slots s → at r.blocks k ≡ (block t k).0
  -- the same dirty mark
  pub marks : (k : ℕ) → k < slots s → at r.marks k ≡ mark t k

-- for these requests, from fresh tables and from empty caches
pub record EngineIsRival (s : Setup) (qs : List Request) : Type 0 where
  -- its actions are a legal schedule
  pub legal : Legal s (no_copies s) qs (engine_schedule s (fresh s) qs)
  -- which costs what the rules charge the engine, kind by kind
  pub bill : costs s (no_copies s) qs (engine_schedule s (fresh s) qs) ≡ spent (engine s) (fresh s) qs
  -- and leaves the rival with the engine's copies
  pub copies : SameCopies s (served_all (engine s) (fresh s) qs) (last_copies s (no_copies s) qs (engine_schedule s (fresh s) qs))
