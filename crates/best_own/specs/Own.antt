-- The engine's own actions for two processors and at most four blocks, as entries by number (best_positions/specs/Position): what it does for a request is
-- told by the position where the request finds it and eight counters. best_own_claims proves that they are `engine_schedule`.
use Rattle.std.specs.Prelude.{ℕ, ◌+◌, ◌-◌, ◌*◌, ◌/◌, ◌%◌, ◌&&◌, cond, List, [], ◌∷◌, ◌++◌, set, ltb, eqb}
use Rattle.protocol_types.specs.Lists.{at, zeros}
use Rattle.protocol_types.specs.Board.{fetch_price}
use Rattle.protocol_types.specs.declared.Setup.{Setup}
use Rattle.best_search.specs.Search.{walk, forward}
use Rattle.best_positions.specs.Position.{has, digit, entry_number, board}
use Rattle.best_own_parts.specs.Codes.{drop_code, complete_code, obtaining_codes, clearing_codes}

-- ---- what the engine does for a request that finds it at position u

-- the counter of processor i for block b, of eight
abbrev pub counter_index : ℕ → ℕ → ℕ
counter_index i b = 4 * i + b

-- rule 5: the other processor, where it holds block b too, pays; it drops the block if its counter was 1
unfoldable pub paying_codes : ℕ → List ℕ → ℕ → ℕ → List ℕ
paying_codes u c i b = cond (has (1 - i) (digit u b) && eqb (at c (counter_index (1 - i) b)) 1) (drop_code (1 - i) b ∷ []) []

-- request a (`asked`): a read or a write of block a / 4, or a clear
unfoldable pub serving_codes : Setup → ℕ → List ℕ → ℕ → List ℕ
serving_codes s u c a =
    cond (ltb a 16)
    (obtaining_codes s u (a % 2) (a / 4) ++ complete_code ∷ cond (eqb (a / 2 % 2) 1) (paying_codes u c (a % 2) (a / 4)) [])
    (clearing_codes s u (a % 2) s.lines ++ complete_code ∷ [])

-- ---- the counters after it; that of a block which is not held says nothing

-- processor i's is full
unfoldable pub refilled : Setup → List ℕ → ℕ → ℕ → List ℕ
refilled s c i b = set c (counter_index i b) (fetch_price s)

-- a write fills the writer's counter, and the payer's falls by 1
unfoldable pub written_counters : Setup → ℕ → List ℕ → ℕ → ℕ → List ℕ
written_counters s u c i b =
    cond (has (1 - i) (digit u b)) (set (refilled s c i b) (counter_index (1 - i) b) (at c (counter_index (1 - i) b) - 1)) (refilled s c i b)

-- a read fills it where it fetches
unfoldable pub read_counters : Setup → ℕ → List ℕ → ℕ → ℕ → List ℕ
read_counters s u c i b = cond (has i (digit u b)) c (refilled s c i b)

unfoldable pub served_counters : Setup → ℕ → List ℕ → ℕ → List ℕ
served_counters s u c a =
    cond (ltb a 16) (cond (eqb (a / 2 % 2) 1) (written_counters s u c (a % 2) (a / 4)) (read_counters s u c (a % 2) (a / 4))) c

-- ---- and for the requests in order

-- those left, from position u and counters c
abbrev pub own_from : Setup → List ℕ → ℕ → List ℕ → List ℕ → List ℕ
own_from s asks u c [] = []
own_from s asks u c (a ∷ later) =
    serving_codes s u c a ++ own_from s asks (walk (board s asks) u (serving_codes s u c a)) (served_counters s u c a) later

-- from empty caches
unfoldable pub own_codes : Setup → List ℕ → List ℕ
own_codes s asks = own_from s asks 0 (zeros 8) asks

-- the numbers that tell them
unfoldable pub own_numbers : Setup → List ℕ → List ℕ
own_numbers s asks = forward (board s asks) entry_number 0 (own_codes s asks)
