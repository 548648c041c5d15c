-- The best schedule found so far (document 02, P8): the conditions, the answer, the list, and what holds of them. proofs/SoFar proves `BestSoFar`.
use Rattle.std.specs.Prelude.{ℕ, suc, ◌+◌, ◌-◌, ◌/◌, ◌≤◌, ◌≡◌, ◌≢◌, Bool, true, ◌&&◌, cond, List, [], ◌∷◌, ◌++◌, length, drop, eqb, leb}
use Rattle.protocol_types.specs.Refusals.{no_refusal, unless, first_of, wrong_length, not_searchable}
use Rattle.protocol_types.specs.Board.{setup_refusal}
use Rattle.protocol_types.specs.Conditions.{request_refusal}
use Rattle.protocol.specs.Tables.{fresh}
use Rattle.protocol.specs.Accounts.{cycles}
use Rattle.protocol.specs.Engines.{spent}
use Rattle.protocol.specs.Runs.{engine}
use Rattle.protocol.specs.Rival.{Rival, no_copies, played, left, refusal, Legal, costs}
use Rattle.competitive.specs.EngineSchedule.{engine_schedule}
use Rattle.protocol_types.specs.declared.Setup.{Setup}
use Rattle.protocol_types.specs.declared.Request.{Request}
use Rattle.protocol_types.specs.declared.Entry.{Entry}
use Rattle.protocol_types.specs.declared.Entry.TheVariants.{Fetch, WriteBack, Drop, Complete, CompleteByBroadcast}
use Rattle.protocol_types.specs.declared.BestSchedule.{BestSchedule}
use Rattle.protocol_types.specs.SearchAnswers.{BestAnswer}
use Rattle.protocol_types.specs.SearchAnswers.{Found, Refused}
use Rattle.best_search.specs.Search.{State, Tried, searched, route, trail, over, used}
use Rattle.best_positions.specs.Position.{asked_all, entry_of, entry_number, next_at, board, served_of, rival_of}

-- ---- the conditions: 1, 10, 12, 2, then 3 and 4 of each request

-- 12: "N not 2, M over 4 or over 24 requests", of n requests
unfoldable pub searchable : Setup → ℕ → Bool
searchable s n = eqb s.processors 2 && leb s.blocks 4 && leb n 24

-- the lent search tables. How long they are, and what they hold after a search, is free
pub record SearchTables : Type 0 where
  pub distances : List ℕ
  pub order : List ℕ
  pub predecessors : List ℕ
  pub lowest : List ℕ

abbrev pub search_tables : List ℕ → List ℕ → List ℕ → List ℕ → SearchTables
search_tables d o p l = record { distances = d; order = o; predecessors = p; lowest = l }

-- "one for each position there can be"
abbrev pub position_count : ℕ
position_count = 32400

-- a group is 36 positions
abbrev pub group_count : ℕ
group_count = 900

-- 2: the search tables, and a list of 32,400 entries, n being the list's length
unfoldable pub search_sized : SearchTables → ℕ → Bool
search_sized x n =
    eqb (length x.distances) position_count && eqb (length x.order) position_count && eqb (length x.predecessors) position_count
    && eqb (length x.lowest) group_count && eqb n position_count

-- before the first request, of which there are n
unfoldable pub search_refusal : Setup → ℕ → Bool → ℕ
search_refusal s n sized =
    first_of (setup_refusal s)
    (unless (searchable s n) not_searchable
    (unless sized wrong_length no_refusal))

-- 3 or 4 at the first request that either meets
abbrev pub requests_refusal : Setup → List Request → ℕ
requests_refusal s [] = no_refusal
requests_refusal s (q ∷ qs) = first_of (request_refusal s 0 q) (requests_refusal s qs)

-- "the place being the request's"
abbrev pub requests_place : Setup → List Request → ℕ
requests_place s [] = 0
requests_place s (q ∷ qs) = cond (eqb (request_refusal s 0 q) no_refusal) (suc (requests_place s qs)) 0

unfoldable pub best_refusal : Setup → List Request → Bool → ℕ
best_refusal s qs sized = first_of (search_refusal s (length qs) sized) (requests_refusal s qs)

-- 0 where 1, 10, 12 or 2 refuses
unfoldable pub best_place : Setup → List Request → Bool → ℕ
best_place s qs sized = cond (eqb (search_refusal s (length qs) sized) no_refusal) (requests_place s qs) 0

-- ---- the search and its schedule

-- what the engine spends on the requests
unfoldable pub engine_cycles : Setup → List Request → ℕ
engine_cycles s qs = cycles (spent (engine s) (fresh s) qs)

-- the search after at most m steps
unfoldable pub found : Setup → List Request → ℕ → State
found s qs m = searched (board s (asked_all s qs)) (engine_cycles s qs) m

-- the entries that these numbers stand for, along the way from position u
abbrev pub spelled : List ℕ → ℕ → List ℕ → List Entry
spelled asks u [] = []
spelled asks u (k ∷ ks) = entry_of u k ∷ spelled asks (next_at asks u k) ks

-- the way to the goal; the engine's own actions while nothing cheaper was found
unfoldable pub schedule : Setup → List Request → ℕ → List Entry
schedule s qs m =
    cond (eqb (found s qs m).goal position_count) (engine_schedule s (fresh s) qs)
    (spelled (asked_all s qs) 0 (route (board s (asked_all s qs)) (suc position_count) (found s qs m) (found s qs m).goal []))

-- the same way as numbers, read from the table on the way back
unfoldable pub way_back : Setup → List ℕ → List ℕ → ℕ → List ℕ
way_back s asks via v = trail (board s asks) entry_number (suc position_count) via v []

-- ---- the answer, and the list

unfoldable pub best_schedule : Setup → List Request → ℕ → BestSchedule
best_schedule s qs m = record {
  length = length (schedule s qs m);
  cost = (found s qs m).limit;
  steps = used (found s qs m);
  least = over (board s (asked_all s qs)) (found s qs m);
  -- "its cost less half the engine's cycles, that half rounded up"
  excess = (found s qs m).limit - (engine_cycles s qs + 1) / 2;
}

unfoldable pub best_answer : Setup → List Request → ℕ → Bool → BestAnswer
best_answer s qs m sized =
    cond (eqb (best_refusal s qs sized) no_refusal) (Found (best_schedule s qs m)) (Refused (best_refusal s qs sized) (best_place s qs sized))

-- the schedule "at the front of the list, whose other entries stay"; "no refusal changes a buffer"
unfoldable pub best_list : Setup → List Request → ℕ → Bool → List Entry → List Entry
best_list s qs m sized lent =
    cond (eqb (best_refusal s qs sized) no_refusal) (schedule s qs m ++ drop (length (schedule s qs m)) lent) lent

-- ---- what was tried, as entries where they stand

-- the requests served after an entry
abbrev pub served_by : ℕ → Entry → ℕ
served_by n (Fetch i b) = n
served_by n (WriteBack i b) = n
served_by n (Drop i b) = n
served_by n Complete = suc n
served_by n CompleteByBroadcast = suc n

-- an entry tried from a position of copies, marks and requests served
pub record Trial : Type 0 where
  pub copies : Rival
  pub served : ℕ
  pub entry : Entry

abbrev pub trial : Setup → Tried → Trial
trial s x = record { copies = rival_of s x.position; served = served_of x.position; entry = entry_of x.position x.code }

abbrev pub trials : Setup → List Tried → List Trial
trials s [] = []
trials s (x ∷ xs) = trial s x ∷ trials s xs

pub data Among (x : Trial) : List Trial → Type 0 where
  here : {y : Trial} {ys : List Trial} → x ≡ y → Among x (y ∷ ys)
  there : {y : Trial} {ys : List Trial} → Among x ys → Among x (y ∷ ys)

-- each entry of the schedule was tried where it stands: r, n and qs are the copies, the requests served and those left there
abbrev pub EveryTried : Setup → List Trial → Rival → ℕ → List Request → List Entry → Type 0
EveryTried s xs r n qs [] = Unit {0}
EveryTried s xs r n qs (e ∷ es) =
    Among (record { copies = r; served = n; entry = e }) xs × EveryTried s xs (played s r qs e) (served_by n e) (left qs e) es

-- position r, n is where the search starts or where one of the trials leads
pub data Reached (s : Setup) (qs : List Request) (xs : List Trial) (r : Rival) (n : ℕ) : Type 0 where
  from_start : r ≡ no_copies s → n ≡ 0 → Reached s qs xs r n
  by-trial : (x : Trial) → Among x xs → r ≡ played s x.copies (drop x.served qs) x.entry → n ≡ served_by x.served x.entry → Reached s qs xs r n

-- "One step tries one legal entry from one reached position", "none twice from one position": the last step first
abbrev pub Trials : Setup → List Request → List Trial → Type 0
Trials s qs [] = Unit {0}
Trials s qs (x ∷ xs) =
    (refusal s x.copies (drop x.served qs) x.entry ≡ no_refusal) × Reached s qs xs x.copies x.served × (Among x xs → ⊥) × Trials s qs xs

-- what was tried in at most m steps
abbrev pub tried_by : Setup → List Request → ℕ → List Trial
tried_by s qs m = trials s (found s qs m).tries

-- what holds of the answer with m steps, where nothing is refused. Which entries are tried is free
pub record BestSoFar (s : Setup) (qs : List Request) (m : ℕ) : Type 0 where
  -- "a legal schedule from empty caches at the front of the list, … its cost"
  pub legal : Legal s (no_copies s) qs (schedule s qs m)
  pub fits : length (schedule s qs m) ≤ position_count
  pub cost : (best_schedule s qs m).cost ≡ cycles (costs s (no_copies s) qs (schedule s qs m))
  -- "With 0 steps it is the engine's own actions as a schedule, in their order"
  pub none : m ≡ 0 → schedule s qs m ≡ engine_schedule s (fresh s) qs
  -- "More steps never give a dearer one"
  pub better : (n : ℕ) → m ≤ n → (best_schedule s qs n).cost ≤ (best_schedule s qs m).cost
  -- "no legal schedule whose every entry was tried where it stands is cheaper"
  pub tried : (es : List Entry) → Legal s (no_copies s) qs es → EveryTried s (tried_by s qs m) (no_copies s) 0 qs es
      → (best_schedule s qs m).cost ≤ cycles (costs s (no_copies s) qs es)
  -- the steps used are as many as were tried
  pub steps : Trials s qs (tried_by s qs m)
  pub count : (best_schedule s qs m).steps ≡ length (tried_by s qs m)
  pub within : (best_schedule s qs m).steps ≤ m
  -- "steps are left over only once it is called least"
  pub left : (best_schedule s qs m).steps ≢ m → (best_schedule s qs m).least ≡ true
  -- "It is called least only if no legal schedule is cheaper"
  pub least : (best_schedule s qs m).least ≡ true → (es : List Entry) → Legal s (no_copies s) qs es
      → (best_schedule s qs m).cost ≤ cycles (costs s (no_copies s) qs es)
  -- "583,200 steps always suffice to say so"
  pub suffice : 583200 ≤ m → (best_schedule s qs m).least ≡ true
  -- the excess is no cut difference: the cost is never below that half (demand 3)
  pub excess : (best_schedule s qs m).cost ≡ (best_schedule s qs m).excess + (engine_cycles s qs + 1) / 2
