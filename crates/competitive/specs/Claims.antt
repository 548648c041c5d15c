-- What the demands say of whole lists of runs, of whole schedules and of generated lists. proofs/Demands proves it: `Demands` of every setup that is not refused, `RefusedAtOnce` and `MasksRight` of every setup.
use Rattle.std.specs.Prelude.{ℕ, zero, suc, ◌+◌, ◌*◌, ◌≤◌, ◌<◌, ◌≡◌, ◌≢◌, Bool, true, false, ◌&&◌, cond, List, [], ◌∷◌, length, take, ltb, eqb}
use Rattle.protocol_types.specs.Lists.{at}
use Rattle.protocol_types.specs.Bits.{bit_at}
use Rattle.protocol_types.specs.Refusals.{no_refusal, unsound_tables}
use Rattle.protocol_types.specs.Board.{setup_refusal, fetch_price, write_back_price, variables, line_slot}
use Rattle.protocol.specs.Tables.{Tables, counter, block, mark, word, memory_word, holds, marked, fresh}
use Rattle.protocol.specs.Soundness.{Sound}
use Rattle.protocol.specs.Masks.{masks_of, Masked, with_masks, fresh_masked, sized_masked, sound_masked}
use Rattle.protocol_types.specs.Conditions.{request_limit}
use Rattle.protocol.specs.Requests.{served, value, bill}
use Rattle.protocol.specs.Accounts.{cycles, fetch_and_update, fresh_account, entered, cycles_of, bill_of, possible}
use Rattle.protocol.specs.Engines.{answered, ended_by, run, Run, State, outcomes, runs, taken_all, spent, expected_all, values_of, Never20Or21}
use Rattle.protocol.specs.Runs.{masked_refusal, engine, masked_engine, masked_opening, masked_outcome, masked_outcomes, masked_state}
use Rattle.protocol.specs.Rival.{Rival, no_copies, played, left, cost, Legal, costs, last_copies}
use Rattle.protocol.specs.Pricer.{accepted, verdict, price_refusal, price, price_tables}
use Rattle.protocol.specs.Generator.{generate_refusal, generated}
use Rattle.competitive.specs.EngineSchedule.{EngineIsRival}
use Rattle.protocol_types.specs.declared.Setup.{Setup}
use Rattle.protocol_types.specs.declared.Variable.{Variable}
use Rattle.protocol_types.specs.declared.Block.{Block}
use Rattle.protocol_types.specs.declared.Request.{Request}
use Rattle.protocol_types.specs.declared.Operation.{Operation}
use Rattle.protocol_types.specs.declared.Operation.TheVariants.{Read, Write, Clear}
use Rattle.protocol_types.specs.declared.Bill.{Bill}
use Rattle.protocol_types.specs.declared.Account.{Account}
use Rattle.protocol_types.specs.declared.Entry.{Entry}
use Rattle.protocol_types.specs.declared.Entry.TheVariants.{Fetch, WriteBack, Drop, Complete, CompleteByBroadcast}
use Rattle.protocol_types.specs.Answers.{Accepted, Refused}

-- ---- demand 3

-- a list of runs from fresh tables and masks and account a; the masks are handed on with the tables (document 02, P7)
pub record Claim (s : Setup) (a : Account) (rs : List (Run Request)) : Type 0 where
  -- "the account's three cycle counts together grow by exactly that sum": what the rules charge for the requests taken, in order from fresh tables
  pub grows : cycles_of (runs (masked_engine s) (masked_opening s a) rs).account ≡ cycles_of a + cycles (spent (engine s) (fresh s) (taken_all (engine s) a.requests rs))
  -- the requests in it grow by the number taken
  pub counts : (runs (masked_engine s) (masked_opening s a) rs).account.requests ≡ a.requests + length (taken_all (engine s) a.requests rs)
  -- "Twice the cost of every legal schedule is at least that sum."
  pub halves : (es : List Entry) → Legal s (no_copies s) (taken_all (engine s) a.requests rs) es
      → cycles (spent (engine s) (fresh s) (taken_all (engine s) a.requests rs)) ≤ 2 * cycles (costs s (no_copies s) (taken_all (engine s) a.requests rs) es)

-- ---- demand 3, kind by kind (document 02, P4)

-- theorem 4.2 of source document 000: c is what the engine spends, d what a schedule costs
pub record SplitBill (c d : Bill) : Type 0 where
  -- "the engine's fetch cycles are at most the rival's fetch plus update cycles"
  pub fetches : c.fetch ≤ fetch_and_update d
  -- "The engine's update plus write-back cycles are at most that same sum."
  pub updates : c.update + c.write_back ≤ fetch_and_update d

-- the same list of runs, account and requests taken as in `Claim`, which follows from it
pub record SplitClaim (s : Setup) (a : Account) (rs : List (Run Request)) : Type 0 where
  -- each count of the account grows by exactly what the rules charge of its kind, and its requests by the number taken
  pub grows : (runs (masked_engine s) (masked_opening s a) rs).account
      ≡ entered a (length (taken_all (engine s) a.requests rs)) (spent (engine s) (fresh s) (taken_all (engine s) a.requests rs))
  -- "for every legal rival"
  pub splits : (es : List Entry) → Legal s (no_copies s) (taken_all (engine s) a.requests rs) es
      → SplitBill (spent (engine s) (fresh s) (taken_all (engine s) a.requests rs)) (costs s (no_copies s) (taken_all (engine s) a.requests rs) es)

abbrev pub is_completion : Entry → Bool
is_completion (Fetch i b) = false
is_completion (WriteBack i b) = false
is_completion (Drop i b) = false
is_completion Complete = true
is_completion CompleteByBroadcast = true

-- "what its completions cost": the cycles, of any kind, of the entries that complete a request
abbrev pub completion_costs : Setup → Rival → List Request → List Entry → ℕ
completion_costs s r qs [] = 0
completion_costs s r qs (e ∷ es) = cond (is_completion e) (cycles (cost s r qs e)) 0 + completion_costs s (played s r qs e) (left qs e) es

abbrev pub is_write_back : Entry → Bool
is_write_back (Fetch i b) = false
is_write_back (WriteBack i b) = true
is_write_back (Drop i b) = false
is_write_back Complete = false
is_write_back CompleteByBroadcast = false

-- how many write-backs a schedule has
abbrev pub write_backs : List Entry → ℕ
write_backs [] = 0
write_backs (e ∷ es) = cond (is_write_back e) 1 0 + write_backs es

-- the kinds of a schedule's cost, legal or not
pub record CostKinds (s : Setup) (qs : List Request) (es : List Entry) : Type 0 where
  -- its update cycles are what its completions cost
  pub completions : (costs s (no_copies s) qs es).update ≡ completion_costs s (no_copies s) qs es
  -- its write-back cycles are g for each write-back: the price less these is its fetch plus update cycles
  pub write-backs : (costs s (no_copies s) qs es).write_back ≡ write_back_price s * write_backs es

-- ---- how near the bounds come

-- a list of k × (f + 1) + 2 requests and a schedule for it, which cost 2f + 2fk and 2f + fk: how near to 2 the factor comes
pub record TightList (s : Setup) (k : ℕ) : Type 0 where
  pub requests : List Request
  pub schedule : List Entry
  pub many : length requests ≡ k * (fetch_price s + 1) + 2
  -- one run from fresh tables and masks and a fresh account takes it whole, at exactly 2f + 2fk
  pub whole : (vs : List ℕ) → length vs ≡ length requests → (run (masked_engine s) (fresh_masked s) fresh_account requests vs).answer.refusal ≡ no_refusal
  pub count : (vs : List ℕ) → length vs ≡ length requests → (run (masked_engine s) (fresh_masked s) fresh_account requests vs).answer.taken ≡ length requests
  pub spends : (vs : List ℕ) → length vs ≡ length requests
      → cycles_of (run (masked_engine s) (fresh_masked s) fresh_account requests vs).account ≡ 2 * fetch_price s + 2 * (fetch_price s * k)
  -- 2f + fk of them for fetches, fk for updates
  pub spends-by-kind : (vs : List ℕ) → length vs ≡ length requests
      → bill_of (run (masked_engine s) (fresh_masked s) fresh_account requests vs).account
      ≡ record { fetch = 2 * fetch_price s + fetch_price s * k; write_back = 0; update = fetch_price s * k }
  -- the schedule is legal for it, at exactly 2f + fk
  pub legal : Legal s (no_copies s) requests schedule
  pub pays : cycles (costs s (no_copies s) requests schedule) ≡ 2 * fetch_price s + fetch_price s * k
  -- all of it for fetches: the first bound of `SplitBill` is met with equality, the second is missed by 2f
  pub pays-by-kind : costs s (no_copies s) requests schedule ≡ record { fetch = 2 * fetch_price s + fetch_price s * k; write_back = 0; update = 0 }

pub record Demand3 (s : Setup) : Type 0 where
  pub bounded : (a : Account) → possible s a ≡ true → (rs : List (Run Request)) → Claim s a rs
  pub split : (a : Account) → possible s a ≡ true → (rs : List (Run Request)) → SplitClaim s a rs
  pub kinds : (qs : List Request) (es : List Entry) → CostKinds s qs es
  pub tight : 2 ≤ s.processors → (k : ℕ) → k * (fetch_price s + 1) + 2 ≤ request_limit → TightList s k

-- ---- demand 2: "From fresh tables a read supplies the last value written, or 0." No cache is spoken of

-- the value of variable v after an operation, x before it
abbrev pub newer : Operation → Variable → ℕ → ℕ
newer (Read w) v x = x
newer (Write w y) v x = cond (eqb w.0 v.0) y x
newer Clear v x = x

-- the last value written to variable v by the requests, x if none was
abbrev pub last_written : List Request → Variable → ℕ → ℕ
last_written [] v x = x
last_written (q ∷ qs) v x = last_written qs v (newer q.operation v x)

-- what an operation supplies or writes, where ps were taken before it; a clear "gives value 0" (document 02, P6)
abbrev pub expected_by : List Request → Operation → ℕ
expected_by ps (Read v) = last_written ps v 0
expected_by ps (Write v x) = x
expected_by ps Clear = 0

abbrev pub expected_value : List Request → Request → ℕ
expected_value ps q = expected_by ps q.operation

pub record LastValues (s : Setup) : Type 0 where
  pub values : (a : Account) → possible s a ≡ true → (rs : List (Run Request))
      → values_of (outcomes (masked_engine s) (masked_opening s a) rs) ≡ expected_all (engine s) expected_value a.requests [] rs
  pub never : (a : Account) → possible s a ≡ true → (rs : List (Run Request)) → Never20Or21 (outcomes (masked_engine s) (masked_opening s a) rs)

-- ---- what a clear does (document 02, P6), read off the tables before and after it

abbrev pub clear_by : ℕ → Request
clear_by i = record { processor = i; operation = Clear }

-- the marked ones of processor i's first n lines
abbrev pub marked_lines : Setup → Tables → ℕ → ℕ → ℕ
marked_lines s t i zero = 0
marked_lines s t i (suc n) = marked_lines s t i n + cond (marked t (line_slot s i n)) 1 0

-- slot k is all 0
pub record Emptied (s : Setup) (t : Tables) (k : ℕ) : Type 0 where
  pub counter : counter t k ≡ 0
  pub block : (block t k).0 ≡ 0
  pub mark : mark t k ≡ 0
  pub words : (o : ℕ) → o < s.words → word s t k o ≡ 0

-- slot k is in t' as it is in t
pub record Unchanged (s : Setup) (t t' : Tables) (k : ℕ) : Type 0 where
  pub counter : counter t' k ≡ counter t k
  pub block : block t' k ≡ block t k
  pub mark : mark t' k ≡ mark t k
  pub words : (o : ℕ) → o < s.words → word s t' k o ≡ word s t k o

pub record ClearedRight (s : Setup) (t : Tables) (i : ℕ) : Type 0 where
  -- "every line empties"
  pub empties : (l : ℕ) → l < s.lines → Emptied s (served s t (clear_by i)) (line_slot s i l)
  -- and no line of another cache changes
  pub others : (k : ℕ) → ((l : ℕ) → l < s.lines → k ≢ line_slot s i l) → Unchanged s t (served s t (clear_by i)) k
  -- "marked blocks are written back": main memory takes their words
  pub takes : (l o : ℕ) → l < s.lines → o < s.words → mark t (line_slot s i l) ≡ 1
      → memory_word s (served s t (clear_by i)) (block t (line_slot s i l)) o ≡ word s t (line_slot s i l) o
  -- and keeps its own of every other block
  pub keeps : (b : Block) (o : ℕ) → o < s.words → ((l : ℕ) → l < s.lines → mark t (line_slot s i l) ≡ 1 → b ≢ block t (line_slot s i l))
      → memory_word s (served s t (clear_by i)) b o ≡ memory_word s t b o
  -- "at g each"
  pub charges : bill s t (clear_by i) ≡ record { fetch = 0; write_back = write_back_price s * marked_lines s t i s.lines; update = 0 }
  pub gives : value s t (clear_by i) ≡ 0

-- ---- demand 2: "A rival schedule that 1, 2 and 5 let through" (and 10, which acts as 1 does) "is accepted if and only if it is legal, at its true cost."

-- what the rival's tables show of a line, h, b and m being its held mark, block number and dirty mark: "with empty lines all 0"
pub record LineShown (h b m : ℕ) : Type 0 where
  pub held-le : h ≤ 1
  pub mark-le : m ≤ 1
  pub no_block : h ≡ 0 → b ≡ 0
  pub no-mark : h ≡ 0 → m ≡ 0

abbrev pub Shown : Rival → Type 0
Shown r = (k : ℕ) → LineShown (at r.held k) (at r.blocks k) (at r.marks k)

pub record PricedRight (s : Setup) (lent : Rival) (qs : List Request) (es : List Entry) : Type 0 where
  pub accepts : Legal s (no_copies s) qs es → price s lent qs es ≡ Accepted (cycles (costs s (no_copies s) qs es))
  pub shows : Legal s (no_copies s) qs es → price_tables s lent qs es ≡ last_copies s (no_copies s) qs es
  pub only : (c : ℕ) → price s lent qs es ≡ Accepted c → Legal s (no_copies s) qs es
  pub clears : (n k : ℕ) → price s lent qs es ≡ Refused n k → price_tables s lent qs es ≡ no_copies s
  pub truly : (c : ℕ) → price s lent qs es ≡ Accepted c → c ≡ cycles (costs s (no_copies s) qs es)
  pub shown : (c : ℕ) → price s lent qs es ≡ Accepted c → Shown (price_tables s lent qs es)

-- "Legality knows no limit of length": 5 is the pricer's and the generator's. The verdict, which the price is made of, of any schedule
pub record JudgedRight (s : Setup) (qs : List Request) (es : List Entry) : Type 0 where
  pub accepts : Legal s (no_copies s) qs es → verdict s qs es ≡ accepted (last_copies s (no_copies s) qs es) (costs s (no_copies s) qs es)
  pub only : (r : Rival) (c : Bill) → verdict s qs es ≡ accepted r c → Legal s (no_copies s) qs es

-- ---- a load that two labs can repeat (document 02, P2)

-- a lent list that 1, 10, 11 and 5 let through, as the generator leaves it
pub record Repeatable (s : Setup) (seed : ℕ) (lent : List Request) : Type 0 where
  -- "A generated list must be one that fresh tables and a fresh account take to the end."
  pub taken : (vs : List ℕ) → length vs ≡ length lent
      → (run (masked_engine s) (fresh_masked s) fresh_account (generated s seed lent) vs).answer ≡ answered (length lent) no_refusal 0
  -- it depends on N, on M × p, on the seed and on the count alone: not on lines and prices, nor on what the list held
  pub alike : (t : Setup) (other : List Request) → generate_refusal t seed (length other) ≡ no_refusal
      → t.processors ≡ s.processors → variables t ≡ variables s → length other ≡ length lent → generated t seed other ≡ generated s seed lent
  -- a longer list begins with it
  pub begins : (longer : List Request) → generate_refusal s seed (length longer) ≡ no_refusal → length lent ≤ length longer
      → take (length lent) (generated s seed longer) ≡ generated s seed lent

-- ---- the masks of holders (document 02, P7): of every setup

-- the masks of tables t: "one byte a block, bit i set exactly if processor i holds it"
pub record HoldersShown (s : Setup) (t : Tables) : Type 0 where
  pub many : length (masks_of s t) ≡ s.blocks
  pub bytes : setup_refusal s ≡ no_refusal → (b : Block) → b.0 < s.blocks → at (masks_of s t) b.0 < 256
  -- a bit from N on is clear
  pub bits : (b : Block) (i : ℕ) → b.0 < s.blocks → bit_at (at (masks_of s t) b.0) i ≡ ltb i s.processors && holds s t i b

pub record MasksRight (s : Setup) : Type 0 where
  pub holders : (t : Tables) → HoldersShown s t
  -- starting leaves true masks
  pub starting : fresh_masked s ≡ with_masks s (fresh s)
  -- "From true masks, every answer, the account and every old table must be proved the same as without masks, and the masks left are true again": the values too
  pub same : (t : Tables) (a : Account) (qs : List Request) (vs : List ℕ)
      → run (masked_engine s) (with_masks s t) a qs vs ≡ masked_outcome s (run (engine s) t a qs vs)
  -- of a list of runs: what each answers and leaves, and what the whole list leaves
  pub same-each : (w : State Tables) (rs : List (Run Request)) → outcomes (masked_engine s) (masked_state s w) rs ≡ masked_outcomes s (outcomes (engine s) w rs)
  pub same-last : (w : State Tables) (rs : List (Run Request)) → runs (masked_engine s) (masked_state s w) rs ≡ masked_state s (runs (engine s) w rs)
  -- "Tables with a false mask are unsound (20)": so answers a run that 1, 10 and 2 let through
  pub unsound : (x : Masked) (a : Account) (qs : List Request) (vs : List ℕ) → setup_refusal s ≡ no_refusal → sized_masked s x ≡ true → length vs ≡ length qs
      → x.masks ≢ masks_of s x.tables → run (masked_engine s) x a qs vs ≡ ended_by unsound_tables x a vs
  -- a run that 1, 10, 2, 20 or 21 refuses leaves the masks, and all else, as they were
  pub refused : (x : Masked) (a : Account) (qs : List Request) (vs : List ℕ) → masked_refusal s x a (length qs) vs ≢ no_refusal
      → run (masked_engine s) x a qs vs ≡ ended_by (masked_refusal s x a (length qs) vs) x a vs
  -- any other run, whatever it is lent, leaves the true masks of the tables that it leaves
  pub left : (x : Masked) (a : Account) (qs : List Request) (vs : List ℕ) → masked_refusal s x a (length qs) vs ≡ no_refusal
      → (run (masked_engine s) x a qs vs).tables ≡ with_masks s (run (masked_engine s) x a qs vs).tables.tables

-- ---- runs that 1, 10, 2, 20 or 21 refuses at once add nothing, so that 'any list of runs' has no gap: of every setup and every state

pub record RefusedAtOnce (s : Setup) : Type 0 where
  pub by-setup : setup_refusal s ≢ no_refusal → (w : State Masked) (rs : List (Run Request)) → runs (masked_engine s) w rs ≡ w
  -- false masks too (document 02, P7)
  pub by-tables : (w : State Masked) → sized_masked s w.tables && sound_masked s w.tables ≡ false → (rs : List (Run Request)) → runs (masked_engine s) w rs ≡ w
  pub by-account : (w : State Masked) → possible s w.account ≡ false → (rs : List (Run Request)) → runs (masked_engine s) w rs ≡ w
  -- a list that the generator refuses stays as it was (document 02, P2: "A refusal leaves the list untouched")
  pub list-stays : (seed : ℕ) (lent : List Request) → generate_refusal s seed (length lent) ≢ no_refusal → generated s seed lent ≡ lent

-- each demand, of one setup
pub record Demands (s : Setup) : Type 0 where
  pub last-values : LastValues s
  pub cleared-right : (t : Tables) → Sound s t → (i : ℕ) → i < s.processors → ClearedRight s t i
  pub judged-right : (qs : List Request) (es : List Entry) → JudgedRight s qs es
  pub priced-right : (lent : Rival) (qs : List Request) (es : List Entry) → price_refusal s lent (length es) (length qs) ≡ no_refusal → PricedRight s lent qs es
  pub demand3 : Demand3 s
  pub masks-right : MasksRight s
  pub repeatable : (seed : ℕ) (lent : List Request) → generate_refusal s seed (length lent) ≡ no_refusal → Repeatable s seed lent
  -- the engine's own actions are a legal schedule for the requests that a list of runs takes
  pub engine-is-rival : (a : Account) → possible s a ≡ true → (rs : List (Run Request)) → EngineIsRival s (taken_all (engine s) a.requests rs)
