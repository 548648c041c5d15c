-- The twelve sessions of document 01 and the cases beside them, then those of document 02, as one table. proofs/Sessions proves that every row passes.
-- A session compares the answer, the values, the account, every entry of every table and every mask of holders with what the row says.
use Rattle.std.specs.Prelude.{ℕ, suc, ◌+◌, ◌*◌, ◌/◌, ◌^◌, Bool, true, false, ◌&&◌, not, cond, List, [], ◌∷◌, length, replicate, set, eqb}
use Rattle.std.proofs.lemmas.List.Edits.{sets}
use Rattle.protocol_types.specs.Lists.{at, zeros}
use Rattle.protocol_types.specs.Board.{slots}
use Rattle.protocol.specs.Tables.{Tables, tables, fresh}
use Rattle.protocol.specs.Masks.{masks_of, Masked, masked, with_masks, fresh_masked}
use Rattle.protocol.specs.Accounts.{cycles, fetch_and_update, fresh_account, entered, bill_of}
use Rattle.protocol.specs.Engines.{answered, Outcome, run_from, run}
use Rattle.protocol.specs.Runs.{start_refusal, started, looked, masked_engine}
use Rattle.protocol.specs.Rival.{Rival, rival, no_copies, costs}
use Rattle.protocol.specs.Pricer.{price_refusal, price, price_tables, PriceNumbers, numbered, in_numbers}
use Rattle.protocol.specs.Generator.{draws, generate_refusal, generated}
use Rattle.protocol_types.specs.declared.Setup.{Setup}
use Rattle.protocol_types.specs.declared.Request.{Request}
use Rattle.protocol_types.specs.declared.Operation.{Operation}
use Rattle.protocol_types.specs.declared.Operation.TheVariants.{Read, Write, Clear}
use Rattle.protocol_types.specs.declared.Bill.{Bill}
use Rattle.protocol_types.specs.declared.Account.{Account}
use Rattle.protocol_types.specs.Answers.{RunAnswer}
use Rattle.protocol_types.specs.declared.Entry.{Entry}
use Rattle.protocol_types.specs.declared.Entry.TheVariants.{Fetch, WriteBack, Drop, Complete, CompleteByBroadcast}

-- ---- short names for the rows

-- N, L, p, M, f, g
abbrev pub priced_board : ℕ → ℕ → ℕ → ℕ → ℕ → ℕ → Setup
priced_board n l p m f g = record { processors = n; lines = l; words = p; blocks = m; fetch_price = f; write_back_price = g }

-- N, L, p, M; "in S1 to S12 both equal p"
abbrev pub board : ℕ → ℕ → ℕ → ℕ → Setup
board n l p m = priced_board n l p m p p

-- "N 4, L 8, M 64, p 4 unless said"
abbrev pub usual : Setup
usual = board 4 8 4 64

-- the board of most quotes
abbrev pub small : Setup
small = board 2 2 3 5

-- "document 003's pipelined bus has fetch 5, write-back 4, update 1 for four words"
abbrev pub pipelined : Setup
pipelined = priced_board 4 8 4 64 5 4

-- f and g above p
abbrev pub dear_fetch : Setup
dear_fetch = priced_board 2 2 2 5 5 3

-- f and g below p
abbrev pub cheap_fetch : Setup
cheap_fetch = priced_board 2 2 4 5 3 2

abbrev pub read : ℕ → ℕ → Request
read i v = record { processor = i; operation = Read (record { 0 = v }) }

abbrev pub write : ℕ → ℕ → ℕ → Request
write i v x = record { processor = i; operation = Write (record { 0 = v }) x }

abbrev pub clear : ℕ → Request
clear i = record { processor = i; operation = Clear }

-- what stands in a list that is lent to the generator
abbrev pub unwritten : Request
unwritten = write 7 7 7

abbrev pub fetch_entry : ℕ → ℕ → Entry
fetch_entry i b = Fetch i (record { 0 = b })

abbrev pub write_back_entry : ℕ → ℕ → Entry
write_back_entry i b = WriteBack i (record { 0 = b })

abbrev pub drop_entry : ℕ → ℕ → Entry
drop_entry i b = Drop i (record { 0 = b })

-- requests, fetch, write-back and update cycles
abbrev pub account : ℕ → ℕ → ℕ → ℕ → Account
account n f g u = record { requests = n; fetch = f; write_back = g; update = u }

-- fetch, write-back and update cycles
abbrev pub cost : ℕ → ℕ → ℕ → Bill
cost f g u = record { fetch = f; write_back = g; update = u }

-- ---- what the tables hold

-- a line that is not all 0: its slot, block, counter, mark and words
pub record Copy : Type 0 where
  pub slot : ℕ
  pub block : ℕ
  pub counter : ℕ
  pub mark : ℕ
  pub words : List ℕ

abbrev pub copy : ℕ → ℕ → ℕ → ℕ → List ℕ → Copy
copy k b c m w = record { slot = k; block = b; counter = c; mark = m; words = w }

-- a word of main memory that is not 0
pub record Cell : Type 0 where
  pub variable : ℕ
  pub value : ℕ

abbrev pub cell : ℕ → ℕ → Cell
cell v x = record { variable = v; value = x }

-- the tables with these lines and cells, and 0 everywhere else
abbrev pub with_copies : Setup → Tables → List Copy → Tables
with_copies s t [] = t
with_copies s t (c ∷ cs) =
    with_copies s
    (tables (set t.blocks c.slot c.block) (set t.counters c.slot c.counter) (set t.marks c.slot c.mark)
    (sets t.words (c.slot * s.words) c.words) t.memory) cs

abbrev pub with_cells : Tables → List Cell → Tables
with_cells t [] = t
with_cells t (c ∷ cs) = with_cells (tables t.blocks t.counters t.marks t.words (set t.memory c.variable c.value)) cs

unfoldable pub holding : Setup → List Copy → List Cell → Tables
holding s cs ms = with_cells (with_copies s (fresh s) cs) ms

-- the masks hs with these lines' bits; slot k is a line of processor k / L
abbrev pub with_holders : Setup → List ℕ → List Copy → List ℕ
with_holders s hs [] = hs
with_holders s hs (c ∷ cs) = with_holders s (set hs c.block (at hs c.block + 2 ^ (c.slot / s.lines))) cs

-- the masks of holders of these lines (document 02, P7)
unfoldable pub holders_of : Setup → List Copy → List ℕ
holders_of s cs = with_holders s (zeros s.blocks) cs

-- ---- comparing

abbrev pub same_list : List ℕ → List ℕ → Bool
same_list [] [] = true
same_list [] (y ∷ ys) = false
same_list (x ∷ xs) [] = false
same_list (x ∷ xs) (y ∷ ys) = eqb x y && same_list xs ys

abbrev pub same_tables : Tables → Tables → Bool
same_tables t u =
    same_list t.blocks u.blocks && same_list t.counters u.counters && same_list t.marks u.marks
    && same_list t.words u.words && same_list t.memory u.memory

abbrev pub same_masked : Masked → Masked → Bool
same_masked x y = same_tables x.tables y.tables && same_list x.masks y.masks

abbrev pub same_account : Account → Account → Bool
same_account a c = eqb a.requests c.requests && eqb a.fetch c.fetch && eqb a.write_back c.write_back && eqb a.update c.update

abbrev pub same_bill : Bill → Bill → Bool
same_bill c d = eqb c.fetch d.fetch && eqb c.write_back d.write_back && eqb c.update d.update

abbrev pub same_answer : RunAnswer → RunAnswer → Bool
same_answer a c = eqb a.taken c.taken && eqb a.refusal c.refusal && eqb a.place c.place

abbrev pub same_rival : Rival → Rival → Bool
same_rival r q = same_list r.blocks q.blocks && same_list r.held q.held && same_list r.marks q.marks

abbrev pub same_numbers : PriceNumbers → PriceNumbers → Bool
same_numbers a c = eqb a.number c.number && eqb a.place c.place && eqb a.cost c.cost

abbrev pub same_operation : Operation → Operation → Bool
same_operation (Read v) (Read w) = eqb v.0 w.0
same_operation (Read v) (Write w y) = false
same_operation (Read v) Clear = false
same_operation (Write v x) (Read w) = false
same_operation (Write v x) (Write w y) = eqb v.0 w.0 && eqb x y
same_operation (Write v x) Clear = false
same_operation Clear (Read w) = false
same_operation Clear (Write w y) = false
same_operation Clear Clear = true

abbrev pub same_requests : List Request → List Request → Bool
same_requests [] [] = true
same_requests [] (q ∷ qs) = false
same_requests (p ∷ ps) [] = false
same_requests (p ∷ ps) (q ∷ qs) = eqb p.processor q.processor && same_operation p.operation q.operation && same_requests ps qs

-- ---- the kinds of rows

-- a run after other requests
pub record Session : Type 0 where
  pub setup : Setup
  -- the account at first
  pub account : Account
  -- taken first, from fresh tables and masks unless said: the run meets the tables, the masks and the account that they leave
  pub before : List Request
  pub requests : List Request
  -- what it leaves in a list of as many nines
  pub values : List ℕ
  pub answer : RunAnswer
  -- what it adds to the account, besides the requests taken, and the account that it leaves
  pub cost : Bill
  pub left : Account
  -- whether any table changes
  pub changes : Bool
  -- every line and every word of memory that is then not 0
  pub lines : List Copy
  pub memory : List Cell

-- a run of one request on buffers as they are lent, with the tables' own masks unless said, a start, and a look at block `block` of processor `processor`
pub record Lent : Type 0 where
  pub setup : Setup
  pub tables : Tables
  pub account : Account
  pub values : List ℕ
  pub run_refusal : ℕ
  pub start_refusal : ℕ
  pub processor : ℕ
  pub block : ℕ
  pub seen : List ℕ

-- a schedule, priced on tables of sevens; then the three tables
pub record Quote : Type 0 where
  pub setup : Setup
  pub requests : List Request
  pub entries : List Entry
  pub number : ℕ
  pub place : ℕ
  pub cost : ℕ
  pub blocks : List ℕ
  pub held : List ℕ
  pub marks : List ℕ

-- a legal schedule for requests, kind by kind
pub record Split : Type 0 where
  pub setup : Setup
  pub requests : List Request
  pub entries : List Entry
  -- what one run from fresh tables spends on the requests, and what the schedule costs
  pub spends : Bill
  pub pays : Bill
  -- the schedule's fetch plus update cycles
  pub sum : ℕ

pub data Row : Type 0 where
  session : Session → Row
  -- a session from other tables than fresh ones: with these lines and cells
  session_from : List Copy → List Cell → Session → Row
  -- the same with these masks (document 02, P7), and the masks that it leaves
  session_masks : List Copy → List Cell → List ℕ → Session → List ℕ → Row
  -- tables that an empty run meets, and its refusal
  tabled : Setup → Tables → ℕ → Row
  lent : Lent → Row
  -- the same with these masks
  lent_masks : Lent → List ℕ → Row
  -- tables and masks, and those that starting leaves
  begun : Setup → Masked → Masked → Row
  quote : Quote → Row
  split : Split → Row
  -- what the pricer checks before the first entry: block numbers, held marks and dirty marks of these lengths, n entries, m requests, and the refusal
  checked : Setup → ℕ → ℕ → ℕ → ℕ → ℕ → ℕ → Row
  -- a seed and its first draws
  seed_draws : ℕ → List ℕ → Row
  -- a setup, a seed, the generator's refusal, and what is then in a list of this length that held `unwritten` requests
  generator : Setup → ℕ → ℕ → List Request → Row
  -- what it checks: a setup, a seed, a list of n requests, and the refusal
  generator_checked : Setup → ℕ → ℕ → ℕ → Row
  -- the n requests of a seed, which a run from fresh tables and a fresh account takes to the end
  taken : Setup → ℕ → ℕ → Row

-- a schedule that is refused by n at place k: no cost, and tables of zeros
abbrev pub refused_at : Setup → List Request → List Entry → ℕ → ℕ → Row
refused_at s qs es n k =
    let zeros : List ℕ = replicate (s.processors * s.lines) 0 in
    quote (record { setup = s; requests = qs; entries = es; number = n; place = k; cost = 0; blocks = zeros; held = zeros; marks = zeros })

-- copies of block 9 on the usual board, from processor i on, with these counters (0: no copy) and words
abbrev pub copies_of9 : ℕ → List ℕ → List ℕ → List Copy
copies_of9 i [] ws = []
copies_of9 i (c ∷ cs) ws = cond (eqb c 0) (copies_of9 (suc i) cs ws) (copy (i * 8 + 1) 9 c 0 ws ∷ copies_of9 (suc i) cs ws)

-- copies of block 9 with these counters, a write to it by processor i, and the counters then
abbrev pub payment : List ℕ → ℕ → List ℕ → Row
payment cs i ds = session_from (copies_of9 0 cs (0 ∷ 5 ∷ 0 ∷ 0 ∷ [])) (cell 37 5 ∷ []) (record {
  setup = usual;
  account = account 0 0 0 0;
  before = [];
  requests = write i 38 6 ∷ [];
  values = 6 ∷ [];
  answer = answered 1 0 0;
  cost = cost 0 0 1;
  left = account 1 0 0 1;
  changes = true;
  lines = copies_of9 0 ds (0 ∷ 5 ∷ 6 ∷ 0 ∷ []);
  memory = cell 37 5 ∷ cell 38 6 ∷ [];
})

-- lines on three caches, for the masks: block 1 in processor 0's, block 3 in those of 1 and 2, block 4, marked, in 2's
abbrev pub three_caches : Setup
three_caches = priced_board 3 2 2 5 5 3

abbrev pub held_lines : List Copy
held_lines = copy 1 1 3 0 (7 ∷ 8 ∷ []) ∷ copy 3 3 2 0 (5 ∷ 6 ∷ []) ∷ copy 4 4 5 1 (9 ∷ 2 ∷ []) ∷ copy 5 3 4 0 (5 ∷ 6 ∷ []) ∷ []

abbrev pub held_memory : List Cell
held_memory = cell 2 7 ∷ cell 3 8 ∷ cell 6 5 ∷ cell 7 6 ∷ cell 8 1 ∷ cell 9 1 ∷ []

-- they are lent with these masks and this account: what refuses a run, and what refuses starting
abbrev pub masks_lent : List ℕ → Account → ℕ → ℕ → Row
masks_lent hs a n m = lent_masks (record {
  setup = three_caches;
  account = a;
  values = 9 ∷ [];
  run_refusal = n;
  start_refusal = m;
  tables = holding three_caches held_lines held_memory;
  processor = 1;
  block = 3;
  seen = 5 ∷ 6 ∷ [];
}) hs

-- a setup that n refuses, to a run and to starting, and that a look shows nothing of: with tables of N 2, L 2, p 2 and M 5 that hold block 3
abbrev pub setup_refused : Setup → ℕ → Row
setup_refused s n = lent (record {
  setup = s;
  account = account 3 0 0 0;
  values = 9 ∷ [];
  run_refusal = n;
  start_refusal = n;
  tables = tables (4 ∷ 3 ∷ 4 ∷ 0 ∷ []) (1 ∷ 2 ∷ 2 ∷ 0 ∷ []) (0 ∷ 1 ∷ 0 ∷ 0 ∷ []) (8 ∷ 9 ∷ 5 ∷ 6 ∷ 8 ∷ 9 ∷ 0 ∷ 0 ∷ []) (0 ∷ 0 ∷ 0 ∷ 0 ∷ 0 ∷ 0 ∷ 7 ∷ 7 ∷ 8 ∷ 9 ∷ []);
  processor = 0;
  block = 3;
  seen = [];
})

-- ---- when a row passes

-- from the tables and masks x; it leaves the masks hs
unfoldable pub session_passes : Masked → Session → List ℕ → Bool
session_passes x w hs =
    let s : Setup = w.setup in
    let b : Outcome Masked = run_from (masked_engine s) x w.account w.before [] in
    let o : Outcome Masked = run (masked_engine s) b.tables b.account w.requests (replicate (length w.requests) 9) in
    eqb b.answer.taken (length w.before)
    && same_answer o.answer w.answer && same_list o.values w.values
    && same_account o.account w.left && same_account w.left (entered b.account w.answer.taken w.cost)
    && same_masked o.tables (masked (holding s w.lines w.memory) hs)
    && cond w.changes (not (same_tables o.tables.tables b.tables.tables)) (same_masked o.tables b.tables)

-- an empty list: nothing changes, 0 taken
unfoldable pub tabled_passes : Setup → Tables → ℕ → Bool
tabled_passes s t n =
    let o : Outcome Masked = run (masked_engine s) (with_masks s t) fresh_account [] [] in
    same_answer o.answer (answered 0 n 0) && same_masked o.tables (with_masks s t) && same_account o.account fresh_account && same_list o.values []

-- with masks hs
unfoldable pub lent_passes : Lent → List ℕ → Bool
lent_passes w hs =
    let s : Setup = w.setup in
    let t : Tables = w.tables in
    let x : Masked = masked t hs in
    let o : Outcome Masked = run (masked_engine s) x w.account (read 1 1 ∷ []) w.values in
    eqb o.answer.refusal w.run_refusal
    && cond (eqb w.run_refusal 0) true (same_masked o.tables x && same_account o.account w.account && same_list o.values w.values && same_answer o.answer (answered 0 w.run_refusal 0))
    && eqb (start_refusal s x) w.start_refusal && same_masked (started s x) (cond (eqb w.start_refusal 0) (fresh_masked s) x)
    && same_list (looked s t.blocks t.counters t.words w.processor (record { 0 = w.block })) w.seen

unfoldable pub sevens : Setup → Rival
sevens s = rival (replicate (slots s) 7) (replicate (slots s) 7) (replicate (slots s) 7)

unfoldable pub quote_passes : Quote → Bool
quote_passes w =
    let r : Rival = price_tables w.setup (sevens w.setup) w.requests w.entries in
    same_numbers (in_numbers (price w.setup (sevens w.setup) w.requests w.entries)) (numbered w.number w.place w.cost)
    && same_rival r (rival w.blocks w.held w.marks)

unfoldable pub split_passes : Split → Bool
split_passes w =
    let s : Setup = w.setup in
    let o : Outcome Masked = run (masked_engine s) (fresh_masked s) fresh_account w.requests (replicate (length w.requests) 9) in
    let c : Bill = costs s (no_copies s) w.requests w.entries in
    same_answer o.answer (answered (length w.requests) 0 0) && same_bill (bill_of o.account) w.spends
    && same_numbers (in_numbers (price s (sevens s) w.requests w.entries)) (numbered 0 0 (cycles w.pays))
    && same_bill c w.pays && eqb (fetch_and_update c) w.sum

-- and a refusal of an empty schedule leaves the tables
abbrev pub checked_passes : Setup → Rival → ℕ → ℕ → ℕ → Bool
checked_passes s r n m x =
    let q : Rival = price_tables s r [] [] in
    eqb (price_refusal s r n m) x && cond (eqb n 0 && eqb m 0 && not (eqb x 0)) (same_rival q r) true

abbrev pub generator_passes : Setup → ℕ → ℕ → List Request → Bool
generator_passes s seed x qs =
    eqb (generate_refusal s seed (length qs)) x && same_requests (generated s seed (replicate (length qs) unwritten)) qs

abbrev pub taken_passes : Setup → ℕ → ℕ → Bool
taken_passes s seed n =
    let o : Outcome Masked = run (masked_engine s) (fresh_masked s) fresh_account (generated s seed (replicate n unwritten)) (replicate n 9) in
    eqb (generate_refusal s seed n) 0 && same_answer o.answer (answered n 0 0)

abbrev pub passes : Row → Bool
passes (session w) = session_passes (fresh_masked w.setup) w (holders_of w.setup w.lines)
passes (session_from cs ms w) = session_passes (masked (holding w.setup cs ms) (holders_of w.setup cs)) w (holders_of w.setup w.lines)
passes (session_masks cs ms hs w ks) = session_passes (masked (holding w.setup cs ms) hs) w ks
passes (tabled s t n) = tabled_passes s t n
passes (lent w) = lent_passes w (masks_of w.setup w.tables)
passes (lent_masks w hs) = lent_passes w hs
passes (begun s x y) = eqb (start_refusal s x) 0 && same_masked (started s x) y
passes (quote w) = quote_passes w
passes (split w) = split_passes w
passes (checked s b h k n m x) = checked_passes s (rival (replicate b 7) (replicate h 7) (replicate k 7)) n m x
passes (seed_draws seed ds) = same_list (draws seed (length ds)) ds
passes (generator s seed x qs) = generator_passes s seed x qs
passes (generator_checked s seed n x) = eqb (generate_refusal s seed n) x
passes (taken s seed n) = taken_passes s seed n

abbrev pub every_row : List Row → Bool
every_row [] = true
every_row (w ∷ ws) = passes w && every_row ws

-- ---- the table

unfoldable pub rows : List Row
rows =
    -- S1
    session (record {
      setup = usual;
      account = account 0 0 0 0;
      before = [];
      requests = read 0 0 ∷ [];
      values = 0 ∷ [];
      answer = answered 1 0 0;
      cost = cost 4 0 0;
      left = account 1 4 0 0;
      changes = true;
      lines = copy 0 0 4 0 (0 ∷ 0 ∷ 0 ∷ 0 ∷ []) ∷ [];
      memory = [];
    })
    -- S2
    ∷ session (record {
      setup = usual;
      account = account 0 0 0 0;
      before = read 0 0 ∷ [];
      requests = read 0 0 ∷ [];
      values = 0 ∷ [];
      answer = answered 1 0 0;
      cost = cost 0 0 0;
      left = account 2 4 0 0;
      changes = false;
      lines = copy 0 0 4 0 (0 ∷ 0 ∷ 0 ∷ 0 ∷ []) ∷ [];
      memory = [];
    })
    -- S3
    ∷ session (record {
      setup = usual;
      account = account 0 0 0 0;
      before = read 0 0 ∷ [];
      requests = write 0 0 7 ∷ [];
      values = 7 ∷ [];
      answer = answered 1 0 0;
      cost = cost 0 0 0;
      left = account 2 4 0 0;
      changes = true;
      lines = copy 0 0 4 1 (7 ∷ 0 ∷ 0 ∷ 0 ∷ []) ∷ [];
      memory = [];
    })
    -- S4
    ∷ session (record {
      setup = usual;
      account = account 0 0 0 0;
      before = read 0 0 ∷ write 0 0 7 ∷ [];
      requests = read 1 0 ∷ [];
      values = 7 ∷ [];
      answer = answered 1 0 0;
      cost = cost 4 0 0;
      left = account 3 8 0 0;
      changes = true;
      lines = copy 0 0 4 0 (7 ∷ 0 ∷ 0 ∷ 0 ∷ []) ∷ copy 8 0 4 0 (7 ∷ 0 ∷ 0 ∷ 0 ∷ []) ∷ [];
      memory = cell 0 7 ∷ [];
    })
    -- S5, write 1 of 4
    ∷ session (record {
      setup = usual;
      account = account 0 0 0 0;
      before = read 0 0 ∷ write 0 0 7 ∷ read 1 0 ∷ [];
      requests = write 0 1 11 ∷ [];
      values = 11 ∷ [];
      answer = answered 1 0 0;
      cost = cost 0 0 1;
      left = account 4 8 0 1;
      changes = true;
      lines = copy 0 0 4 0 (7 ∷ 11 ∷ 0 ∷ 0 ∷ []) ∷ copy 8 0 3 0 (7 ∷ 11 ∷ 0 ∷ 0 ∷ []) ∷ [];
      memory = cell 0 7 ∷ cell 1 11 ∷ [];
    })
    -- S5, write 2 of 4
    ∷ session (record {
      setup = usual;
      account = account 0 0 0 0;
      before = read 0 0 ∷ write 0 0 7 ∷ read 1 0 ∷ write 0 1 11 ∷ [];
      requests = write 0 2 12 ∷ [];
      values = 12 ∷ [];
      answer = answered 1 0 0;
      cost = cost 0 0 1;
      left = account 5 8 0 2;
      changes = true;
      lines = copy 0 0 4 0 (7 ∷ 11 ∷ 12 ∷ 0 ∷ []) ∷ copy 8 0 2 0 (7 ∷ 11 ∷ 12 ∷ 0 ∷ []) ∷ [];
      memory = cell 0 7 ∷ cell 1 11 ∷ cell 2 12 ∷ [];
    })
    -- S5, write 3 of 4
    ∷ session (record {
      setup = usual;
      account = account 0 0 0 0;
      before = read 0 0 ∷ write 0 0 7 ∷ read 1 0 ∷ write 0 1 11 ∷ write 0 2 12 ∷ [];
      requests = write 0 3 13 ∷ [];
      values = 13 ∷ [];
      answer = answered 1 0 0;
      cost = cost 0 0 1;
      left = account 6 8 0 3;
      changes = true;
      lines = copy 0 0 4 0 (7 ∷ 11 ∷ 12 ∷ 13 ∷ []) ∷ copy 8 0 1 0 (7 ∷ 11 ∷ 12 ∷ 13 ∷ []) ∷ [];
      memory = cell 0 7 ∷ cell 1 11 ∷ cell 2 12 ∷ cell 3 13 ∷ [];
    })
    -- S5, write 4 of 4 empties 1's line
    ∷ session (record {
      setup = usual;
      account = account 0 0 0 0;
      before = read 0 0 ∷ write 0 0 7 ∷ read 1 0 ∷ write 0 1 11 ∷ write 0 2 12 ∷ write 0 3 13 ∷ [];
      requests = write 0 1 14 ∷ [];
      values = 14 ∷ [];
      answer = answered 1 0 0;
      cost = cost 0 0 1;
      left = account 7 8 0 4;
      changes = true;
      lines = copy 0 0 4 0 (7 ∷ 14 ∷ 12 ∷ 13 ∷ []) ∷ [];
      memory = cell 0 7 ∷ cell 1 14 ∷ cell 2 12 ∷ cell 3 13 ∷ [];
    })
    -- S5, the four in one run: 4 cycles
    ∷ session (record {
      setup = usual;
      account = account 0 0 0 0;
      before = read 0 0 ∷ write 0 0 7 ∷ read 1 0 ∷ [];
      requests = write 0 1 11 ∷ write 0 2 12 ∷ write 0 3 13 ∷ write 0 1 14 ∷ [];
      values = 11 ∷ 12 ∷ 13 ∷ 14 ∷ [];
      answer = answered 4 0 0;
      cost = cost 0 0 4;
      left = account 7 8 0 4;
      changes = true;
      lines = copy 0 0 4 0 (7 ∷ 14 ∷ 12 ∷ 13 ∷ []) ∷ [];
      memory = cell 0 7 ∷ cell 1 14 ∷ cell 2 12 ∷ cell 3 13 ∷ [];
    })
    -- S6
    ∷ session (record {
      setup = usual;
      account = account 0 0 0 0;
      before = read 0 0 ∷ write 0 0 7 ∷ read 1 0 ∷ write 0 1 11 ∷ write 0 2 12 ∷ write 0 3 13 ∷ write 0 1 14 ∷ [];
      requests = write 0 2 15 ∷ [];
      values = 15 ∷ [];
      answer = answered 1 0 0;
      cost = cost 0 0 0;
      left = account 8 8 0 4;
      changes = true;
      lines = copy 0 0 4 1 (7 ∷ 14 ∷ 15 ∷ 13 ∷ []) ∷ [];
      memory = cell 0 7 ∷ cell 1 14 ∷ cell 2 12 ∷ cell 3 13 ∷ [];
    })
    -- S7
    ∷ session (record {
      setup = usual;
      account = account 0 0 0 0;
      before = read 0 0 ∷ write 0 0 7 ∷ [];
      requests = read 0 32 ∷ [];
      values = 0 ∷ [];
      answer = answered 1 0 0;
      cost = cost 4 4 0;
      left = account 3 8 4 0;
      changes = true;
      lines = copy 0 8 4 0 (0 ∷ 0 ∷ 0 ∷ 0 ∷ []) ∷ [];
      memory = cell 0 7 ∷ [];
    })
    -- S8
    ∷ session (record {
      setup = usual;
      account = account 0 0 0 0;
      before = read 0 0 ∷ [];
      requests = read 0 32 ∷ [];
      values = 0 ∷ [];
      answer = answered 1 0 0;
      cost = cost 4 0 0;
      left = account 2 8 0 0;
      changes = true;
      lines = copy 0 8 4 0 (0 ∷ 0 ∷ 0 ∷ 0 ∷ []) ∷ [];
      memory = [];
    })
    -- S9, on block 9 in line 1
    ∷ session (record {
      setup = usual;
      account = account 0 0 0 0;
      before = read 0 39 ∷ read 1 39 ∷ read 2 39 ∷ [];
      requests = write 1 38 6 ∷ [];
      values = 6 ∷ [];
      answer = answered 1 0 0;
      cost = cost 0 0 1;
      left = account 4 12 0 1;
      changes = true;
      lines = copy 1 9 3 0 (0 ∷ 0 ∷ 6 ∷ 0 ∷ []) ∷ copy 9 9 4 0 (0 ∷ 0 ∷ 6 ∷ 0 ∷ []) ∷ copy 17 9 4 0 (0 ∷ 0 ∷ 6 ∷ 0 ∷ []) ∷ [];
      memory = cell 38 6 ∷ [];
    })
    -- beside S9, counters 4 and 2 (P5): 2 pays
    ∷ session (record {
      setup = usual;
      account = account 0 0 0 0;
      before = read 0 39 ∷ read 2 39 ∷ write 0 38 5 ∷ write 0 37 4 ∷ read 1 39 ∷ [];
      requests = write 1 38 6 ∷ [];
      values = 6 ∷ [];
      answer = answered 1 0 0;
      cost = cost 0 0 1;
      left = account 6 12 0 3;
      changes = true;
      lines = copy 1 9 4 0 (0 ∷ 4 ∷ 6 ∷ 0 ∷ []) ∷ copy 9 9 4 0 (0 ∷ 4 ∷ 6 ∷ 0 ∷ []) ∷ copy 17 9 1 0 (0 ∷ 4 ∷ 6 ∷ 0 ∷ []) ∷ [];
      memory = cell 37 4 ∷ cell 38 6 ∷ [];
    })
    -- S10, processors 1 and 3 on block 13
    ∷ session (record {
      setup = board 4 8 1 64;
      account = account 0 0 0 0;
      before = read 1 13 ∷ read 3 13 ∷ [];
      requests = write 3 13 6 ∷ [];
      values = 6 ∷ [];
      answer = answered 1 0 0;
      cost = cost 0 0 1;
      left = account 3 2 0 1;
      changes = true;
      lines = copy 29 13 1 0 (6 ∷ []) ∷ [];
      memory = cell 13 6 ∷ [];
    })
    -- S11, on tables in use
    ∷ session (record {
      setup = usual;
      account = account 0 0 0 0;
      before = write 0 37 6 ∷ read 2 37 ∷ write 3 10 5 ∷ [];
      requests = [];
      values = [];
      answer = answered 0 0 0;
      cost = cost 0 0 0;
      left = account 3 12 0 0;
      changes = false;
      lines = copy 1 9 4 0 (0 ∷ 6 ∷ 0 ∷ 0 ∷ []) ∷ copy 17 9 4 0 (0 ∷ 6 ∷ 0 ∷ 0 ∷ []) ∷ copy 26 2 4 1 (0 ∷ 0 ∷ 5 ∷ 0 ∷ []) ∷ [];
      memory = cell 37 6 ∷ [];
    })
    -- S12 at 999,999: one more is taken
    ∷ session (record {
      setup = usual;
      account = account 999999 3999996 3999996 999999;
      before = [];
      requests = read 3 39 ∷ read 2 39 ∷ [];
      values = 0 ∷ 9 ∷ [];
      answer = answered 1 22 1;
      cost = cost 4 0 0;
      left = account 1000000 4000000 3999996 999999;
      changes = true;
      lines = copy 25 9 4 0 (0 ∷ 0 ∷ 0 ∷ 0 ∷ []) ∷ [];
      memory = [];
    })
    -- S12 at 1,000,000
    ∷ session (record {
      setup = usual;
      account = account 1000000 4000000 0 0;
      before = [];
      requests = read 3 39 ∷ [];
      values = 9 ∷ [];
      answer = answered 0 22 0;
      cost = cost 0 0 0;
      left = account 1000000 4000000 0 0;
      changes = false;
      lines = [];
      memory = [];
    })
    -- variable 255 is taken
    ∷ session (record {
      setup = usual;
      account = account 0 0 0 0;
      before = [];
      requests = read 2 255 ∷ [];
      values = 0 ∷ [];
      answer = answered 1 0 0;
      cost = cost 4 0 0;
      left = account 1 4 0 0;
      changes = true;
      lines = copy 23 63 4 0 (0 ∷ 0 ∷ 0 ∷ 0 ∷ []) ∷ [];
      memory = [];
    })
    -- variable 256 gives 4, and stops the run
    ∷ session (record {
      setup = usual;
      account = account 0 0 0 0;
      before = read 2 39 ∷ [];
      requests = read 2 38 ∷ read 2 256 ∷ read 2 38 ∷ [];
      values = 0 ∷ 9 ∷ 9 ∷ [];
      answer = answered 1 4 1;
      cost = cost 0 0 0;
      left = account 2 4 0 0;
      changes = false;
      lines = copy 17 9 4 0 (0 ∷ 0 ∷ 0 ∷ 0 ∷ []) ∷ [];
      memory = [];
    })
    -- N 8 is taken
    ∷ session (record {
      setup = board 8 8 4 64;
      account = account 0 0 0 0;
      before = [];
      requests = write 7 39 5 ∷ [];
      values = 5 ∷ [];
      answer = answered 1 0 0;
      cost = cost 4 0 0;
      left = account 1 4 0 0;
      changes = true;
      lines = copy 57 9 4 1 (0 ∷ 0 ∷ 0 ∷ 5 ∷ []) ∷ [];
      memory = [];
    })
    -- N 9 gives 1
    ∷ session (record {
      setup = board 9 8 4 64;
      account = account 0 0 0 0;
      before = [];
      requests = write 7 39 5 ∷ [];
      values = 9 ∷ [];
      answer = answered 0 1 0;
      cost = cost 0 0 0;
      left = account 0 0 0 0;
      changes = false;
      lines = [];
      memory = [];
    })
    -- 3 before 4
    ∷ session (record {
      setup = usual;
      account = account 0 0 0 0;
      before = [];
      requests = write 1 39 5 ∷ write 4 256 1 ∷ [];
      values = 5 ∷ 9 ∷ [];
      answer = answered 1 3 1;
      cost = cost 4 0 0;
      left = account 1 4 0 0;
      changes = true;
      lines = copy 9 9 4 1 (0 ∷ 0 ∷ 0 ∷ 5 ∷ []) ∷ [];
      memory = [];
    })
    -- 3 before 22
    ∷ session (record {
      setup = usual;
      account = account 1000000 0 0 0;
      before = [];
      requests = read 4 39 ∷ [];
      values = 9 ∷ [];
      answer = answered 0 3 0;
      cost = cost 0 0 0;
      left = account 1000000 0 0 0;
      changes = false;
      lines = [];
      memory = [];
    })
    -- 4 before 22
    ∷ session (record {
      setup = usual;
      account = account 1000000 0 0 0;
      before = [];
      requests = read 1 256 ∷ [];
      values = 9 ∷ [];
      answer = answered 0 4 0;
      cost = cost 0 0 0;
      left = account 1000000 0 0 0;
      changes = false;
      lines = [];
      memory = [];
    })
    -- 22 is checked for each request: an empty list meets none
    ∷ session (record {
      setup = usual;
      account = account 2000000 0 0 0;
      before = [];
      requests = [];
      values = [];
      answer = answered 0 0 0;
      cost = cost 0 0 0;
      left = account 2000000 0 0 0;
      changes = false;
      lines = [];
      memory = [];
    })
    -- 21: fetch cycles over f × requests
    ∷ session (record {
      setup = usual;
      account = account 2 9 8 2;
      before = [];
      requests = read 1 39 ∷ [];
      values = 9 ∷ [];
      answer = answered 0 21 0;
      cost = cost 0 0 0;
      left = account 2 9 8 2;
      changes = false;
      lines = [];
      memory = [];
    })
    -- 21: write-back cycles over g × L × requests (P6)
    ∷ session (record {
      setup = usual;
      account = account 2 8 65 2;
      before = [];
      requests = read 1 39 ∷ [];
      values = 9 ∷ [];
      answer = answered 0 21 0;
      cost = cost 0 0 0;
      left = account 2 8 65 2;
      changes = false;
      lines = [];
      memory = [];
    })
    -- 21: update cycles over requests
    ∷ session (record {
      setup = usual;
      account = account 2 8 8 3;
      before = [];
      requests = read 1 39 ∷ [];
      values = 9 ∷ [];
      answer = answered 0 21 0;
      cost = cost 0 0 0;
      left = account 2 8 8 3;
      changes = false;
      lines = [];
      memory = [];
    })
    -- an account at its limits is possible
    ∷ session (record {
      setup = usual;
      account = account 2 8 64 2;
      before = [];
      requests = read 1 39 ∷ [];
      values = 0 ∷ [];
      answer = answered 1 0 0;
      cost = cost 4 0 0;
      left = account 3 12 64 2;
      changes = true;
      lines = copy 9 9 4 0 (0 ∷ 0 ∷ 0 ∷ 0 ∷ []) ∷ [];
      memory = [];
    })
    -- mistake 1: one payer, of equal ones the lowest
    ∷ session (record {
      setup = usual;
      account = account 0 0 0 0;
      before = read 1 39 ∷ read 2 39 ∷ read 3 39 ∷ write 3 37 4 ∷ [];
      requests = write 1 38 6 ∷ [];
      values = 6 ∷ [];
      answer = answered 1 0 0;
      cost = cost 0 0 1;
      left = account 5 12 0 2;
      changes = true;
      lines = copy 9 9 4 0 (0 ∷ 4 ∷ 6 ∷ 0 ∷ []) ∷ copy 17 9 3 0 (0 ∷ 4 ∷ 6 ∷ 0 ∷ []) ∷ copy 25 9 4 0 (0 ∷ 4 ∷ 6 ∷ 0 ∷ []) ∷ [];
      memory = cell 37 4 ∷ cell 38 6 ∷ [];
    })
    -- mistake 2: an unmarked block is not written back
    ∷ session (record {
      setup = usual;
      account = account 0 0 0 0;
      before = write 0 37 6 ∷ read 1 37 ∷ [];
      requests = read 1 5 ∷ [];
      values = 0 ∷ [];
      answer = answered 1 0 0;
      cost = cost 4 0 0;
      left = account 3 12 0 0;
      changes = true;
      lines = copy 1 9 4 0 (0 ∷ 6 ∷ 0 ∷ 0 ∷ []) ∷ copy 9 1 4 0 (0 ∷ 0 ∷ 0 ∷ 0 ∷ []) ∷ [];
      memory = cell 37 6 ∷ [];
    })
    -- mistake 3: the old owner is left unmarked, its counter stays
    ∷ session (record {
      setup = usual;
      account = account 0 0 0 0;
      before = write 3 39 5 ∷ [];
      requests = read 2 39 ∷ [];
      values = 5 ∷ [];
      answer = answered 1 0 0;
      cost = cost 4 0 0;
      left = account 2 8 0 0;
      changes = true;
      lines = copy 17 9 4 0 (0 ∷ 0 ∷ 0 ∷ 5 ∷ []) ∷ copy 25 9 4 0 (0 ∷ 0 ∷ 0 ∷ 5 ∷ []) ∷ [];
      memory = cell 39 5 ∷ [];
    })
    -- mistake 4: a lone holder's counter is refilled, not lowered
    ∷ session (record {
      setup = usual;
      account = account 0 0 0 0;
      before = read 1 37 ∷ read 2 37 ∷ write 2 37 6 ∷ read 2 5 ∷ [];
      requests = write 1 38 3 ∷ [];
      values = 3 ∷ [];
      answer = answered 1 0 0;
      cost = cost 0 0 0;
      left = account 5 12 0 1;
      changes = true;
      lines = copy 9 9 4 1 (0 ∷ 6 ∷ 3 ∷ 0 ∷ []) ∷ copy 17 1 4 0 (0 ∷ 0 ∷ 0 ∷ 0 ∷ []) ∷ [];
      memory = cell 37 6 ∷ [];
    })
    -- mistake 5: a read hit raises no counter
    ∷ session (record {
      setup = usual;
      account = account 0 0 0 0;
      before = read 1 37 ∷ read 2 37 ∷ write 2 37 6 ∷ [];
      requests = read 1 37 ∷ [];
      values = 6 ∷ [];
      answer = answered 1 0 0;
      cost = cost 0 0 0;
      left = account 4 8 0 1;
      changes = false;
      lines = copy 9 9 3 0 (0 ∷ 6 ∷ 0 ∷ 0 ∷ []) ∷ copy 17 9 4 0 (0 ∷ 6 ∷ 0 ∷ 0 ∷ []) ∷ [];
      memory = cell 37 6 ∷ [];
    })
    -- a write refills the writer's counter, and the payer is another
    ∷ session (record {
      setup = usual;
      account = account 0 0 0 0;
      before = read 1 37 ∷ read 2 37 ∷ write 2 37 6 ∷ [];
      requests = write 1 38 3 ∷ [];
      values = 3 ∷ [];
      answer = answered 1 0 0;
      cost = cost 0 0 1;
      left = account 4 8 0 2;
      changes = true;
      lines = copy 9 9 4 0 (0 ∷ 6 ∷ 3 ∷ 0 ∷ []) ∷ copy 17 9 3 0 (0 ∷ 6 ∷ 3 ∷ 0 ∷ []) ∷ [];
      memory = cell 37 6 ∷ cell 38 3 ∷ [];
    })
    -- a write miss on a block that another has marked
    ∷ session (record {
      setup = usual;
      account = account 0 0 0 0;
      before = write 1 37 6 ∷ [];
      requests = write 3 39 2 ∷ [];
      values = 2 ∷ [];
      answer = answered 1 0 0;
      cost = cost 4 0 1;
      left = account 2 8 0 1;
      changes = true;
      lines = copy 9 9 3 0 (0 ∷ 6 ∷ 0 ∷ 2 ∷ []) ∷ copy 25 9 4 0 (0 ∷ 6 ∷ 0 ∷ 2 ∷ []) ∷ [];
      memory = cell 37 6 ∷ cell 39 2 ∷ [];
    })
    -- a write miss on the line of a marked block
    ∷ session (record {
      setup = usual;
      account = account 0 0 0 0;
      before = write 2 37 6 ∷ [];
      requests = write 2 6 3 ∷ [];
      values = 3 ∷ [];
      answer = answered 1 0 0;
      cost = cost 4 4 0;
      left = account 2 8 4 0;
      changes = true;
      lines = copy 17 1 4 1 (0 ∷ 0 ∷ 3 ∷ 0 ∷ []) ∷ [];
      memory = cell 37 6 ∷ [];
    })
    -- a block that was written back is fetched with the word that was written
    ∷ session (record {
      setup = usual;
      account = account 0 0 0 0;
      before = write 2 37 6 ∷ read 2 6 ∷ [];
      requests = read 3 37 ∷ [];
      values = 6 ∷ [];
      answer = answered 1 0 0;
      cost = cost 4 0 0;
      left = account 3 12 4 0;
      changes = true;
      lines = copy 17 1 4 0 (0 ∷ 0 ∷ 0 ∷ 0 ∷ []) ∷ copy 25 9 4 0 (0 ∷ 6 ∷ 0 ∷ 0 ∷ []) ∷ [];
      memory = cell 37 6 ∷ [];
    })
    -- a fetch brings p words and no more
    ∷ session (record {
      setup = usual;
      account = account 0 0 0 0;
      before = write 0 40 5 ∷ read 1 40 ∷ read 0 8 ∷ [];
      requests = read 0 37 ∷ [];
      values = 0 ∷ [];
      answer = answered 1 0 0;
      cost = cost 4 0 0;
      left = account 4 16 0 0;
      changes = true;
      lines = copy 1 9 4 0 (0 ∷ 0 ∷ 0 ∷ 0 ∷ []) ∷ copy 2 2 4 0 (0 ∷ 0 ∷ 0 ∷ 0 ∷ []) ∷ copy 10 10 4 0 (5 ∷ 0 ∷ 0 ∷ 0 ∷ []) ∷ [];
      memory = cell 40 5 ∷ [];
    })
    -- a write-back takes p words and no more, and clears one mark
    ∷ session (record {
      setup = usual;
      account = account 0 0 0 0;
      before = write 0 37 6 ∷ write 0 8 5 ∷ [];
      requests = read 0 5 ∷ [];
      values = 0 ∷ [];
      answer = answered 1 0 0;
      cost = cost 4 4 0;
      left = account 3 12 4 0;
      changes = true;
      lines = copy 1 1 4 0 (0 ∷ 0 ∷ 0 ∷ 0 ∷ []) ∷ copy 2 2 4 1 (5 ∷ 0 ∷ 0 ∷ 0 ∷ []) ∷ [];
      memory = cell 37 6 ∷ [];
    })
    -- a line that becomes empty is p words and no more
    ∷ session (record {
      setup = board 2 3 2 6;
      account = account 0 0 0 0;
      before = read 0 6 ∷ read 1 6 ∷ write 1 8 5 ∷ write 0 7 1 ∷ [];
      requests = write 0 6 2 ∷ [];
      values = 2 ∷ [];
      answer = answered 1 0 0;
      cost = cost 0 0 1;
      left = account 5 6 0 2;
      changes = true;
      lines = copy 0 3 2 0 (2 ∷ 1 ∷ []) ∷ copy 4 4 2 1 (5 ∷ 0 ∷ []) ∷ [];
      memory = cell 6 2 ∷ cell 7 1 ∷ [];
    })
    -- one processor: no other holder, ever
    ∷ session (record {
      setup = board 1 1 2 2;
      account = account 0 0 0 0;
      before = [];
      requests = read 0 3 ∷ write 0 3 4 ∷ write 0 2 5 ∷ [];
      values = 0 ∷ 4 ∷ 5 ∷ [];
      answer = answered 3 0 0;
      cost = cost 2 0 0;
      left = account 3 2 0 0;
      changes = true;
      lines = copy 0 1 2 1 (5 ∷ 4 ∷ []) ∷ [];
      memory = [];
    })
    -- more lines than blocks
    ∷ session (record {
      setup = board 2 5 2 3;
      account = account 0 0 0 0;
      before = write 1 5 3 ∷ [];
      requests = read 0 5 ∷ write 0 4 2 ∷ write 0 4 1 ∷ [];
      values = 3 ∷ 2 ∷ 1 ∷ [];
      answer = answered 3 0 0;
      cost = cost 2 0 2;
      left = account 4 4 0 2;
      changes = true;
      lines = copy 2 2 2 0 (1 ∷ 3 ∷ []) ∷ [];
      memory = cell 4 1 ∷ cell 5 3 ∷ [];
    })
    -- the payer is the other holder with the smallest counter (P5): others with 4 and 2
    ∷ session (record {
      setup = usual;
      account = account 0 0 0 0;
      before = read 0 39 ∷ read 1 39 ∷ read 2 39 ∷ write 0 38 6 ∷ write 0 37 5 ∷ [];
      requests = write 2 36 3 ∷ [];
      values = 3 ∷ [];
      answer = answered 1 0 0;
      cost = cost 0 0 1;
      left = account 6 12 0 3;
      changes = true;
      lines = copy 1 9 4 0 (3 ∷ 5 ∷ 6 ∷ 0 ∷ []) ∷ copy 9 9 1 0 (3 ∷ 5 ∷ 6 ∷ 0 ∷ []) ∷ copy 17 9 4 0 (3 ∷ 5 ∷ 6 ∷ 0 ∷ []) ∷ [];
      memory = cell 36 3 ∷ cell 37 5 ∷ cell 38 6 ∷ [];
    })
    -- others with 2 and 4
    ∷ session (record {
      setup = usual;
      account = account 0 0 0 0;
      before = read 0 39 ∷ read 1 39 ∷ read 2 39 ∷ write 1 38 6 ∷ write 1 37 5 ∷ [];
      requests = write 2 36 3 ∷ [];
      values = 3 ∷ [];
      answer = answered 1 0 0;
      cost = cost 0 0 1;
      left = account 6 12 0 3;
      changes = true;
      lines = copy 1 9 1 0 (3 ∷ 5 ∷ 6 ∷ 0 ∷ []) ∷ copy 9 9 4 0 (3 ∷ 5 ∷ 6 ∷ 0 ∷ []) ∷ copy 17 9 4 0 (3 ∷ 5 ∷ 6 ∷ 0 ∷ []) ∷ [];
      memory = cell 36 3 ∷ cell 37 5 ∷ cell 38 6 ∷ [];
    })
    -- others with 4 and 1: the payer's line becomes empty
    ∷ session (record {
      setup = usual;
      account = account 0 0 0 0;
      before = read 0 39 ∷ read 1 39 ∷ read 2 39 ∷ write 0 38 6 ∷ write 0 37 5 ∷ write 0 39 4 ∷ [];
      requests = write 2 36 3 ∷ [];
      values = 3 ∷ [];
      answer = answered 1 0 0;
      cost = cost 0 0 1;
      left = account 7 12 0 4;
      changes = true;
      lines = copy 1 9 4 0 (3 ∷ 5 ∷ 6 ∷ 4 ∷ []) ∷ copy 17 9 4 0 (3 ∷ 5 ∷ 6 ∷ 4 ∷ []) ∷ [];
      memory = cell 36 3 ∷ cell 37 5 ∷ cell 38 6 ∷ cell 39 4 ∷ [];
    })
    -- others with 1 and 4
    ∷ session (record {
      setup = usual;
      account = account 0 0 0 0;
      before = read 0 39 ∷ read 1 39 ∷ read 2 39 ∷ write 1 38 6 ∷ write 1 37 5 ∷ write 1 39 4 ∷ [];
      requests = write 2 36 3 ∷ [];
      values = 3 ∷ [];
      answer = answered 1 0 0;
      cost = cost 0 0 1;
      left = account 7 12 0 4;
      changes = true;
      lines = copy 9 9 4 0 (3 ∷ 5 ∷ 6 ∷ 4 ∷ []) ∷ copy 17 9 4 0 (3 ∷ 5 ∷ 6 ∷ 4 ∷ []) ∷ [];
      memory = cell 36 3 ∷ cell 37 5 ∷ cell 38 6 ∷ cell 39 4 ∷ [];
    })
    -- a fetch of block 1 leaves block 9, marked in the same line elsewhere, as it is
    ∷ session (record {
      setup = usual;
      account = account 0 0 0 0;
      before = write 1 37 6 ∷ [];
      requests = read 0 5 ∷ [];
      values = 0 ∷ [];
      answer = answered 1 0 0;
      cost = cost 4 0 0;
      left = account 2 8 0 0;
      changes = true;
      lines = copy 1 1 4 0 (0 ∷ 0 ∷ 0 ∷ 0 ∷ []) ∷ copy 9 9 4 1 (0 ∷ 6 ∷ 0 ∷ 0 ∷ []) ∷ [];
      memory = [];
    })
    -- the owner is the processor that has this block marked, not one that has another block of the line marked
    ∷ session (record {
      setup = usual;
      account = account 0 0 0 0;
      before = write 0 37 6 ∷ write 2 5 3 ∷ [];
      requests = read 1 5 ∷ [];
      values = 3 ∷ [];
      answer = answered 1 0 0;
      cost = cost 4 0 0;
      left = account 3 12 0 0;
      changes = true;
      lines = copy 1 9 4 1 (0 ∷ 6 ∷ 0 ∷ 0 ∷ []) ∷ copy 9 1 4 0 (0 ∷ 3 ∷ 0 ∷ 0 ∷ []) ∷ copy 17 1 4 0 (0 ∷ 3 ∷ 0 ∷ 0 ∷ []) ∷ [];
      memory = cell 5 3 ∷ [];
    })
    -- a miss into an empty line writes nothing back to block 0
    ∷ session (record {
      setup = usual;
      account = account 0 0 0 0;
      before = read 0 0 ∷ write 0 0 7 ∷ read 1 0 ∷ [];
      requests = read 2 0 ∷ [];
      values = 7 ∷ [];
      answer = answered 1 0 0;
      cost = cost 4 0 0;
      left = account 4 12 0 0;
      changes = true;
      lines = copy 0 0 4 0 (7 ∷ 0 ∷ 0 ∷ 0 ∷ []) ∷ copy 8 0 4 0 (7 ∷ 0 ∷ 0 ∷ 0 ∷ []) ∷ copy 16 0 4 0 (7 ∷ 0 ∷ 0 ∷ 0 ∷ []) ∷ [];
      memory = cell 0 7 ∷ [];
    })
    -- more processors than lines: the owner and the payer are processor 3
    ∷ session (record {
      setup = board 4 2 2 6;
      account = account 0 0 0 0;
      before = write 3 5 6 ∷ read 2 5 ∷ [];
      requests = write 2 4 1 ∷ [];
      values = 1 ∷ [];
      answer = answered 1 0 0;
      cost = cost 0 0 1;
      left = account 3 4 0 1;
      changes = true;
      lines = copy 4 2 2 0 (1 ∷ 6 ∷ []) ∷ copy 6 2 1 0 (1 ∷ 6 ∷ []) ∷ [];
      memory = cell 4 1 ∷ cell 5 6 ∷ [];
    })
    -- sound tables
    ∷ tabled (board 2 2 2 5) (tables (4 ∷ 3 ∷ 4 ∷ 0 ∷ []) (1 ∷ 2 ∷ 2 ∷ 0 ∷ []) (0 ∷ 1 ∷ 0 ∷ 0 ∷ [])
    (8 ∷ 9 ∷ 5 ∷ 6 ∷ 8 ∷ 9 ∷ 0 ∷ 0 ∷ [])
    (0 ∷ 0 ∷ 0 ∷ 0 ∷ 0 ∷ 0 ∷ 7 ∷ 7 ∷ 8 ∷ 9 ∷ [])) 0
    -- 20: a counter over f
    ∷ tabled (board 2 2 2 5) (tables (4 ∷ 3 ∷ 4 ∷ 0 ∷ []) (3 ∷ 2 ∷ 2 ∷ 0 ∷ []) (0 ∷ 1 ∷ 0 ∷ 0 ∷ [])
    (8 ∷ 9 ∷ 5 ∷ 6 ∷ 8 ∷ 9 ∷ 0 ∷ 0 ∷ [])
    (0 ∷ 0 ∷ 0 ∷ 0 ∷ 0 ∷ 0 ∷ 7 ∷ 7 ∷ 8 ∷ 9 ∷ [])) 20
    -- 20: an empty line with a block number
    ∷ tabled (board 2 2 2 5) (tables (4 ∷ 3 ∷ 4 ∷ 1 ∷ []) (1 ∷ 2 ∷ 2 ∷ 0 ∷ []) (0 ∷ 1 ∷ 0 ∷ 0 ∷ [])
    (8 ∷ 9 ∷ 5 ∷ 6 ∷ 8 ∷ 9 ∷ 0 ∷ 0 ∷ [])
    (0 ∷ 0 ∷ 0 ∷ 0 ∷ 0 ∷ 0 ∷ 7 ∷ 7 ∷ 8 ∷ 9 ∷ [])) 20
    -- 20: an empty line with a mark
    ∷ tabled (board 2 2 2 5) (tables (4 ∷ 3 ∷ 4 ∷ 0 ∷ []) (1 ∷ 2 ∷ 2 ∷ 0 ∷ []) (0 ∷ 1 ∷ 0 ∷ 1 ∷ [])
    (8 ∷ 9 ∷ 5 ∷ 6 ∷ 8 ∷ 9 ∷ 0 ∷ 0 ∷ [])
    (0 ∷ 0 ∷ 0 ∷ 0 ∷ 0 ∷ 0 ∷ 7 ∷ 7 ∷ 8 ∷ 9 ∷ [])) 20
    -- 20: an empty line with a word
    ∷ tabled (board 2 2 2 5) (tables (4 ∷ 3 ∷ 4 ∷ 0 ∷ []) (1 ∷ 2 ∷ 2 ∷ 0 ∷ []) (0 ∷ 1 ∷ 0 ∷ 0 ∷ [])
    (8 ∷ 9 ∷ 5 ∷ 6 ∷ 8 ∷ 9 ∷ 0 ∷ 1 ∷ [])
    (0 ∷ 0 ∷ 0 ∷ 0 ∷ 0 ∷ 0 ∷ 7 ∷ 7 ∷ 8 ∷ 9 ∷ [])) 20
    -- 20: a held block not below M
    ∷ tabled (board 2 2 2 5) (tables (4 ∷ 5 ∷ 4 ∷ 0 ∷ []) (1 ∷ 2 ∷ 2 ∷ 0 ∷ []) (0 ∷ 1 ∷ 0 ∷ 0 ∷ [])
    (8 ∷ 9 ∷ 5 ∷ 6 ∷ 8 ∷ 9 ∷ 0 ∷ 0 ∷ [])
    (0 ∷ 0 ∷ 0 ∷ 0 ∷ 0 ∷ 0 ∷ 7 ∷ 7 ∷ 8 ∷ 9 ∷ [])) 20
    -- 20: a held block in another line
    ∷ tabled (board 2 2 2 5) (tables (4 ∷ 2 ∷ 4 ∷ 0 ∷ []) (1 ∷ 2 ∷ 2 ∷ 0 ∷ []) (0 ∷ 1 ∷ 0 ∷ 0 ∷ [])
    (8 ∷ 9 ∷ 5 ∷ 6 ∷ 8 ∷ 9 ∷ 0 ∷ 0 ∷ [])
    (0 ∷ 0 ∷ 0 ∷ 0 ∷ 0 ∷ 0 ∷ 7 ∷ 7 ∷ 8 ∷ 9 ∷ [])) 20
    -- 20: a mark that is neither 0 nor 1
    ∷ tabled (board 2 2 2 5) (tables (4 ∷ 3 ∷ 4 ∷ 0 ∷ []) (1 ∷ 2 ∷ 2 ∷ 0 ∷ []) (0 ∷ 2 ∷ 0 ∷ 0 ∷ [])
    (8 ∷ 9 ∷ 5 ∷ 6 ∷ 8 ∷ 9 ∷ 0 ∷ 0 ∷ [])
    (0 ∷ 0 ∷ 0 ∷ 0 ∷ 0 ∷ 0 ∷ 7 ∷ 7 ∷ 8 ∷ 9 ∷ [])) 20
    -- 20: a marked block with counter below f
    ∷ tabled (board 2 2 2 5) (tables (4 ∷ 3 ∷ 4 ∷ 0 ∷ []) (1 ∷ 1 ∷ 2 ∷ 0 ∷ []) (0 ∷ 1 ∷ 0 ∷ 0 ∷ [])
    (8 ∷ 9 ∷ 5 ∷ 6 ∷ 8 ∷ 9 ∷ 0 ∷ 0 ∷ [])
    (0 ∷ 0 ∷ 0 ∷ 0 ∷ 0 ∷ 0 ∷ 7 ∷ 7 ∷ 8 ∷ 9 ∷ [])) 20
    -- 20: a marked block with a second holder
    ∷ tabled (board 2 2 2 5) (tables (4 ∷ 3 ∷ 4 ∷ 3 ∷ []) (1 ∷ 2 ∷ 2 ∷ 2 ∷ []) (0 ∷ 1 ∷ 0 ∷ 0 ∷ [])
    (8 ∷ 9 ∷ 5 ∷ 6 ∷ 8 ∷ 9 ∷ 7 ∷ 7 ∷ [])
    (0 ∷ 0 ∷ 0 ∷ 0 ∷ 0 ∷ 0 ∷ 7 ∷ 7 ∷ 8 ∷ 9 ∷ [])) 20
    -- 20: an unmarked copy unlike memory
    ∷ tabled (board 2 2 2 5) (tables (4 ∷ 3 ∷ 4 ∷ 0 ∷ []) (1 ∷ 2 ∷ 2 ∷ 0 ∷ []) (0 ∷ 1 ∷ 0 ∷ 0 ∷ [])
    (8 ∷ 9 ∷ 5 ∷ 6 ∷ 8 ∷ 1 ∷ 0 ∷ 0 ∷ [])
    (0 ∷ 0 ∷ 0 ∷ 0 ∷ 0 ∷ 0 ∷ 7 ∷ 7 ∷ 8 ∷ 9 ∷ [])) 20
    -- 20: memory unlike an unmarked copy
    ∷ tabled (board 2 2 2 5) (tables (4 ∷ 3 ∷ 4 ∷ 0 ∷ []) (1 ∷ 2 ∷ 2 ∷ 0 ∷ []) (0 ∷ 1 ∷ 0 ∷ 0 ∷ [])
    (8 ∷ 9 ∷ 5 ∷ 6 ∷ 8 ∷ 9 ∷ 0 ∷ 0 ∷ [])
    (0 ∷ 0 ∷ 0 ∷ 0 ∷ 0 ∷ 0 ∷ 7 ∷ 7 ∷ 8 ∷ 1 ∷ [])) 20
    -- a look at a held block, a marked one
    ∷ lent (record {
      setup = board 2 2 2 5;
      account = account 3 0 0 0;
      values = 9 ∷ [];
      run_refusal = 0;
      start_refusal = 0;
      tables = tables (4 ∷ 3 ∷ 4 ∷ 0 ∷ []) (1 ∷ 2 ∷ 2 ∷ 0 ∷ []) (0 ∷ 1 ∷ 0 ∷ 0 ∷ []) (8 ∷ 9 ∷ 5 ∷ 6 ∷ 8 ∷ 9 ∷ 0 ∷ 0 ∷ []) (0 ∷ 0 ∷ 0 ∷ 0 ∷ 0 ∷ 0 ∷ 7 ∷ 7 ∷ 8 ∷ 9 ∷ []);
      processor = 0;
      block = 3;
      seen = 5 ∷ 6 ∷ [];
    })
    -- a look at the other cache's copy; soundness plays no part
    ∷ lent (record {
      setup = board 2 2 2 5;
      account = account 3 0 0 0;
      values = 9 ∷ [];
      run_refusal = 20;
      start_refusal = 0;
      tables = tables (4 ∷ 3 ∷ 4 ∷ 0 ∷ []) (1 ∷ 2 ∷ 2 ∷ 0 ∷ []) (7 ∷ 1 ∷ 0 ∷ 0 ∷ []) (8 ∷ 9 ∷ 5 ∷ 6 ∷ 1 ∷ 9 ∷ 0 ∷ 0 ∷ []) (0 ∷ 0 ∷ 0 ∷ 0 ∷ 0 ∷ 0 ∷ 7 ∷ 7 ∷ 8 ∷ 9 ∷ []);
      processor = 1;
      block = 4;
      seen = 1 ∷ 9 ∷ [];
    })
    -- a look at an empty line; 2 by the list of values
    ∷ lent (record {
      setup = board 2 2 2 5;
      account = account 3 0 0 0;
      values = 9 ∷ 9 ∷ [];
      run_refusal = 2;
      start_refusal = 0;
      tables = tables (4 ∷ 3 ∷ 4 ∷ 0 ∷ []) (1 ∷ 2 ∷ 2 ∷ 0 ∷ []) (0 ∷ 1 ∷ 0 ∷ 0 ∷ []) (8 ∷ 9 ∷ 5 ∷ 6 ∷ 8 ∷ 9 ∷ 0 ∷ 0 ∷ []) (0 ∷ 0 ∷ 0 ∷ 0 ∷ 0 ∷ 0 ∷ 7 ∷ 7 ∷ 8 ∷ 9 ∷ []);
      processor = 1;
      block = 1;
      seen = [];
    })
    -- a look at a line that names another block; 2 before 20
    ∷ lent (record {
      setup = board 2 2 2 5;
      account = account 3 0 0 0;
      values = [];
      run_refusal = 2;
      start_refusal = 0;
      tables = tables (4 ∷ 3 ∷ 4 ∷ 0 ∷ []) (9 ∷ 2 ∷ 2 ∷ 0 ∷ []) (0 ∷ 1 ∷ 0 ∷ 0 ∷ []) (8 ∷ 9 ∷ 5 ∷ 6 ∷ 8 ∷ 9 ∷ 0 ∷ 0 ∷ []) (0 ∷ 0 ∷ 0 ∷ 0 ∷ 0 ∷ 0 ∷ 7 ∷ 7 ∷ 8 ∷ 9 ∷ []);
      processor = 0;
      block = 2;
      seen = [];
    })
    -- a look at a block not below M; 20 before 21
    ∷ lent (record {
      setup = board 2 2 2 5;
      account = account 0 1 0 0;
      values = 9 ∷ [];
      run_refusal = 20;
      start_refusal = 0;
      tables = tables (4 ∷ 5 ∷ 4 ∷ 0 ∷ []) (1 ∷ 2 ∷ 2 ∷ 0 ∷ []) (0 ∷ 1 ∷ 0 ∷ 0 ∷ []) (8 ∷ 9 ∷ 5 ∷ 6 ∷ 8 ∷ 9 ∷ 0 ∷ 0 ∷ []) (0 ∷ 0 ∷ 0 ∷ 0 ∷ 0 ∷ 0 ∷ 7 ∷ 7 ∷ 8 ∷ 9 ∷ []);
      processor = 0;
      block = 5;
      seen = [];
    })
    -- a look at a processor not below N; 21 before 22
    ∷ lent (record {
      setup = board 2 2 2 5;
      account = account 1000000 0 0 1000001;
      values = 9 ∷ [];
      run_refusal = 21;
      start_refusal = 0;
      tables = tables (4 ∷ 3 ∷ 4 ∷ 0 ∷ []) (1 ∷ 2 ∷ 2 ∷ 0 ∷ []) (0 ∷ 1 ∷ 0 ∷ 0 ∷ []) (8 ∷ 9 ∷ 5 ∷ 6 ∷ 8 ∷ 9 ∷ 0 ∷ 0 ∷ []) (0 ∷ 0 ∷ 0 ∷ 0 ∷ 0 ∷ 0 ∷ 7 ∷ 7 ∷ 8 ∷ 9 ∷ []);
      processor = 2;
      block = 4;
      seen = [];
    })
    -- block 0 and an empty line both show 0
    ∷ lent (record {
      setup = board 2 2 2 5;
      account = account 3 0 0 0;
      values = 9 ∷ [];
      run_refusal = 0;
      start_refusal = 0;
      tables = tables (0 ∷ 3 ∷ 0 ∷ 0 ∷ []) (0 ∷ 2 ∷ 2 ∷ 0 ∷ []) (0 ∷ 1 ∷ 0 ∷ 0 ∷ []) (0 ∷ 0 ∷ 5 ∷ 6 ∷ 0 ∷ 0 ∷ 0 ∷ 0 ∷ []) (0 ∷ 0 ∷ 0 ∷ 0 ∷ 0 ∷ 0 ∷ 7 ∷ 7 ∷ 8 ∷ 9 ∷ []);
      processor = 0;
      block = 0;
      seen = [];
    })
    -- a look where a line has more words than a cache has lines
    ∷ lent (record {
      setup = board 1 2 3 2;
      tables = tables (0 ∷ 1 ∷ []) (3 ∷ 2 ∷ []) (0 ∷ 0 ∷ []) (1 ∷ 2 ∷ 3 ∷ 4 ∷ 5 ∷ 6 ∷ []) (1 ∷ 2 ∷ 3 ∷ 4 ∷ 5 ∷ 6 ∷ []);
      account = account 3 0 0 0;
      values = 9 ∷ [];
      run_refusal = 3;
      start_refusal = 0;
      processor = 0;
      block = 1;
      seen = 4 ∷ 5 ∷ 6 ∷ [];
    })
    -- 2: block numbers too long
    ∷ lent (record {
      setup = board 2 2 2 5;
      account = account 3 0 0 0;
      values = 9 ∷ [];
      run_refusal = 2;
      start_refusal = 2;
      tables = tables (4 ∷ 3 ∷ 4 ∷ 0 ∷ 0 ∷ []) (1 ∷ 2 ∷ 2 ∷ 0 ∷ []) (0 ∷ 1 ∷ 0 ∷ 0 ∷ []) (8 ∷ 9 ∷ 5 ∷ 6 ∷ 8 ∷ 9 ∷ 0 ∷ 0 ∷ []) (0 ∷ 0 ∷ 0 ∷ 0 ∷ 0 ∷ 0 ∷ 7 ∷ 7 ∷ 8 ∷ 9 ∷ []);
      processor = 0;
      block = 3;
      seen = [];
    })
    -- 2: counters too short
    ∷ lent (record {
      setup = board 2 2 2 5;
      account = account 3 0 0 0;
      values = 9 ∷ [];
      run_refusal = 2;
      start_refusal = 2;
      tables = tables (4 ∷ 3 ∷ 4 ∷ 0 ∷ []) (1 ∷ 2 ∷ 2 ∷ []) (0 ∷ 1 ∷ 0 ∷ 0 ∷ []) (8 ∷ 9 ∷ 5 ∷ 6 ∷ 8 ∷ 9 ∷ 0 ∷ 0 ∷ []) (0 ∷ 0 ∷ 0 ∷ 0 ∷ 0 ∷ 0 ∷ 7 ∷ 7 ∷ 8 ∷ 9 ∷ []);
      processor = 0;
      block = 3;
      seen = [];
    })
    -- 2: marks too long, which a look is not lent
    ∷ lent (record {
      setup = board 2 2 2 5;
      account = account 3 0 0 0;
      values = 9 ∷ [];
      run_refusal = 2;
      start_refusal = 2;
      tables = tables (4 ∷ 3 ∷ 4 ∷ 0 ∷ []) (1 ∷ 2 ∷ 2 ∷ 0 ∷ []) (0 ∷ 1 ∷ 0 ∷ 0 ∷ 0 ∷ []) (8 ∷ 9 ∷ 5 ∷ 6 ∷ 8 ∷ 9 ∷ 0 ∷ 0 ∷ []) (0 ∷ 0 ∷ 0 ∷ 0 ∷ 0 ∷ 0 ∷ 7 ∷ 7 ∷ 8 ∷ 9 ∷ []);
      processor = 0;
      block = 3;
      seen = 5 ∷ 6 ∷ [];
    })
    -- 2: words too short
    ∷ lent (record {
      setup = board 2 2 2 5;
      account = account 3 0 0 0;
      values = 9 ∷ [];
      run_refusal = 2;
      start_refusal = 2;
      tables = tables (4 ∷ 3 ∷ 4 ∷ 0 ∷ []) (1 ∷ 2 ∷ 2 ∷ 0 ∷ []) (0 ∷ 1 ∷ 0 ∷ 0 ∷ []) (8 ∷ 9 ∷ 5 ∷ 6 ∷ 8 ∷ 9 ∷ 0 ∷ []) (0 ∷ 0 ∷ 0 ∷ 0 ∷ 0 ∷ 0 ∷ 7 ∷ 7 ∷ 8 ∷ 9 ∷ []);
      processor = 0;
      block = 3;
      seen = [];
    })
    -- 2: memory too long, which a look is not lent
    ∷ lent (record {
      setup = board 2 2 2 5;
      account = account 3 0 0 0;
      values = 9 ∷ [];
      run_refusal = 2;
      start_refusal = 2;
      tables = tables (4 ∷ 3 ∷ 4 ∷ 0 ∷ []) (1 ∷ 2 ∷ 2 ∷ 0 ∷ []) (0 ∷ 1 ∷ 0 ∷ 0 ∷ []) (8 ∷ 9 ∷ 5 ∷ 6 ∷ 8 ∷ 9 ∷ 0 ∷ 0 ∷ []) (0 ∷ 0 ∷ 0 ∷ 0 ∷ 0 ∷ 0 ∷ 7 ∷ 7 ∷ 8 ∷ 9 ∷ 0 ∷ []);
      processor = 0;
      block = 3;
      seen = 5 ∷ 6 ∷ [];
    })
    -- 1 before 2
    ∷ lent (record {
      setup = board 2 2 2 257;
      account = account 0 1 0 0;
      values = [];
      run_refusal = 1;
      start_refusal = 1;
      tables = tables (4 ∷ 3 ∷ 4 ∷ 0 ∷ []) (1 ∷ 2 ∷ 2 ∷ 0 ∷ []) (0 ∷ 1 ∷ 0 ∷ 0 ∷ []) (8 ∷ 9 ∷ 5 ∷ 6 ∷ 8 ∷ 9 ∷ 0 ∷ 0 ∷ []) (0 ∷ 0 ∷ 0 ∷ 0 ∷ 0 ∷ 0 ∷ 7 ∷ 7 ∷ 8 ∷ 9 ∷ []);
      processor = 0;
      block = 3;
      seen = [];
    })
    -- 2: block numbers too short
    ∷ lent (record {
      setup = board 2 2 2 5;
      tables = tables (4 ∷ 3 ∷ 4 ∷ []) (1 ∷ 2 ∷ 2 ∷ 0 ∷ []) (0 ∷ 1 ∷ 0 ∷ 0 ∷ []) (8 ∷ 9 ∷ 5 ∷ 6 ∷ 8 ∷ 9 ∷ 0 ∷ 0 ∷ []) (0 ∷ 0 ∷ 0 ∷ 0 ∷ 0 ∷ 0 ∷ 7 ∷ 7 ∷ 8 ∷ 9 ∷ []);
      account = account 3 0 0 0;
      values = 9 ∷ [];
      run_refusal = 2;
      start_refusal = 2;
      processor = 0;
      block = 3;
      seen = [];
    })
    -- 2: counters too long
    ∷ lent (record {
      setup = board 2 2 2 5;
      tables = tables (4 ∷ 3 ∷ 4 ∷ 0 ∷ []) (1 ∷ 2 ∷ 2 ∷ 0 ∷ 0 ∷ []) (0 ∷ 1 ∷ 0 ∷ 0 ∷ []) (8 ∷ 9 ∷ 5 ∷ 6 ∷ 8 ∷ 9 ∷ 0 ∷ 0 ∷ []) (0 ∷ 0 ∷ 0 ∷ 0 ∷ 0 ∷ 0 ∷ 7 ∷ 7 ∷ 8 ∷ 9 ∷ []);
      account = account 3 0 0 0;
      values = 9 ∷ [];
      run_refusal = 2;
      start_refusal = 2;
      processor = 0;
      block = 3;
      seen = [];
    })
    -- 2: words too long
    ∷ lent (record {
      setup = board 2 2 2 5;
      tables = tables (4 ∷ 3 ∷ 4 ∷ 0 ∷ []) (1 ∷ 2 ∷ 2 ∷ 0 ∷ []) (0 ∷ 1 ∷ 0 ∷ 0 ∷ []) (8 ∷ 9 ∷ 5 ∷ 6 ∷ 8 ∷ 9 ∷ 0 ∷ 0 ∷ 0 ∷ []) (0 ∷ 0 ∷ 0 ∷ 0 ∷ 0 ∷ 0 ∷ 7 ∷ 7 ∷ 8 ∷ 9 ∷ []);
      account = account 3 0 0 0;
      values = 9 ∷ [];
      run_refusal = 2;
      start_refusal = 2;
      processor = 0;
      block = 3;
      seen = [];
    })
    -- a lone write costs 0 and marks
    ∷ quote (record {
      setup = small;
      requests = write 1 10 5 ∷ [];
      entries = fetch_entry 1 3 ∷ Complete ∷ [];
      number = 0;
      place = 0;
      cost = 3;
      blocks = 0 ∷ 0 ∷ 0 ∷ 3 ∷ [];
      held = 0 ∷ 0 ∷ 0 ∷ 1 ∷ [];
      marks = 0 ∷ 0 ∷ 0 ∷ 1 ∷ [];
    })
    -- mistake 6: a drop of the last current copy is refused
    ∷ refused_at small (write 1 10 5 ∷ []) (fetch_entry 1 3 ∷ Complete ∷ drop_entry 1 3 ∷ []) 25 2
    -- a write-back clears the mark, then the drop is free and leaves an empty line
    ∷ quote (record {
      setup = small;
      requests = write 1 10 5 ∷ [];
      entries = fetch_entry 1 3 ∷ Complete ∷ write_back_entry 1 3 ∷ drop_entry 1 3 ∷ [];
      number = 0;
      place = 0;
      cost = 6;
      blocks = 0 ∷ 0 ∷ 0 ∷ 0 ∷ [];
      held = 0 ∷ 0 ∷ 0 ∷ 0 ∷ [];
      marks = 0 ∷ 0 ∷ 0 ∷ 0 ∷ [];
    })
    -- a write-back keeps the copy
    ∷ quote (record {
      setup = small;
      requests = write 1 10 5 ∷ [];
      entries = fetch_entry 1 3 ∷ Complete ∷ write_back_entry 1 3 ∷ [];
      number = 0;
      place = 0;
      cost = 6;
      blocks = 0 ∷ 0 ∷ 0 ∷ 3 ∷ [];
      held = 0 ∷ 0 ∷ 0 ∷ 1 ∷ [];
      marks = 0 ∷ 0 ∷ 0 ∷ 0 ∷ [];
    })
    -- a fetch clears the mark elsewhere, and its own copy is unmarked
    ∷ quote (record {
      setup = small;
      requests = write 1 10 5 ∷ [];
      entries = fetch_entry 1 3 ∷ Complete ∷ fetch_entry 0 3 ∷ [];
      number = 0;
      place = 0;
      cost = 6;
      blocks = 0 ∷ 3 ∷ 0 ∷ 3 ∷ [];
      held = 0 ∷ 1 ∷ 0 ∷ 1 ∷ [];
      marks = 0 ∷ 0 ∷ 0 ∷ 0 ∷ [];
    })
    -- a fetch leaves the marks of other blocks
    ∷ quote (record {
      setup = small;
      requests = write 1 10 5 ∷ [];
      entries = fetch_entry 1 3 ∷ Complete ∷ fetch_entry 0 1 ∷ fetch_entry 1 4 ∷ [];
      number = 0;
      place = 0;
      cost = 9;
      blocks = 0 ∷ 1 ∷ 4 ∷ 3 ∷ [];
      held = 0 ∷ 1 ∷ 1 ∷ 1 ∷ [];
      marks = 0 ∷ 0 ∷ 0 ∷ 1 ∷ [];
    })
    -- a fetch leaves the mark of another block of the same line elsewhere
    ∷ quote (record {
      setup = small;
      requests = write 0 4 5 ∷ [];
      entries = fetch_entry 0 1 ∷ Complete ∷ fetch_entry 1 3 ∷ [];
      number = 0;
      place = 0;
      cost = 6;
      blocks = 0 ∷ 1 ∷ 0 ∷ 3 ∷ [];
      held = 0 ∷ 1 ∷ 0 ∷ 1 ∷ [];
      marks = 0 ∷ 1 ∷ 0 ∷ 0 ∷ [];
    })
    -- a shared write costs 1 and marks nothing
    ∷ quote (record {
      setup = small;
      requests = write 1 10 5 ∷ [];
      entries = fetch_entry 1 3 ∷ fetch_entry 0 3 ∷ Complete ∷ [];
      number = 0;
      place = 0;
      cost = 7;
      blocks = 0 ∷ 3 ∷ 0 ∷ 3 ∷ [];
      held = 0 ∷ 1 ∷ 0 ∷ 1 ∷ [];
      marks = 0 ∷ 0 ∷ 0 ∷ 0 ∷ [];
    })
    -- by broadcast a lone write costs 1, and an unmarked block stays unmarked
    ∷ quote (record {
      setup = small;
      requests = write 1 10 5 ∷ [];
      entries = fetch_entry 1 3 ∷ CompleteByBroadcast ∷ [];
      number = 0;
      place = 0;
      cost = 4;
      blocks = 0 ∷ 0 ∷ 0 ∷ 3 ∷ [];
      held = 0 ∷ 0 ∷ 0 ∷ 1 ∷ [];
      marks = 0 ∷ 0 ∷ 0 ∷ 0 ∷ [];
    })
    -- by broadcast a marked block stays marked
    ∷ quote (record {
      setup = small;
      requests = write 1 10 5 ∷ write 1 10 5 ∷ [];
      entries = fetch_entry 1 3 ∷ Complete ∷ CompleteByBroadcast ∷ [];
      number = 0;
      place = 0;
      cost = 4;
      blocks = 0 ∷ 0 ∷ 0 ∷ 3 ∷ [];
      held = 0 ∷ 0 ∷ 0 ∷ 1 ∷ [];
      marks = 0 ∷ 0 ∷ 0 ∷ 1 ∷ [];
    })
    -- a read costs 0 and marks nothing
    ∷ quote (record {
      setup = small;
      requests = read 1 10 ∷ [];
      entries = fetch_entry 1 3 ∷ Complete ∷ [];
      number = 0;
      place = 0;
      cost = 3;
      blocks = 0 ∷ 0 ∷ 0 ∷ 3 ∷ [];
      held = 0 ∷ 0 ∷ 0 ∷ 1 ∷ [];
      marks = 0 ∷ 0 ∷ 0 ∷ 0 ∷ [];
    })
    -- a write-back of an unmarked block costs as much; entries after the last completion
    ∷ quote (record {
      setup = small;
      requests = [];
      entries = fetch_entry 0 4 ∷ write_back_entry 0 4 ∷ [];
      number = 0;
      place = 0;
      cost = 6;
      blocks = 4 ∷ 0 ∷ 0 ∷ 0 ∷ [];
      held = 1 ∷ 0 ∷ 0 ∷ 0 ∷ [];
      marks = 0 ∷ 0 ∷ 0 ∷ 0 ∷ [];
    })
    -- the empty schedule, for no request
    ∷ quote (record {
      setup = small;
      requests = [];
      entries = [];
      number = 0;
      place = 0;
      cost = 0;
      blocks = 0 ∷ 0 ∷ 0 ∷ 0 ∷ [];
      held = 0 ∷ 0 ∷ 0 ∷ 0 ∷ [];
      marks = 0 ∷ 0 ∷ 0 ∷ 0 ∷ [];
    })
    -- a dropped line can be fetched into
    ∷ quote (record {
      setup = small;
      requests = [];
      entries = fetch_entry 1 3 ∷ drop_entry 1 3 ∷ fetch_entry 1 1 ∷ [];
      number = 0;
      place = 0;
      cost = 6;
      blocks = 0 ∷ 0 ∷ 0 ∷ 1 ∷ [];
      held = 0 ∷ 0 ∷ 0 ∷ 1 ∷ [];
      marks = 0 ∷ 0 ∷ 0 ∷ 0 ∷ [];
    })
    -- 23: a fetch into a line in use, even of the same block
    ∷ refused_at small [] (fetch_entry 1 3 ∷ fetch_entry 1 3 ∷ []) 23 1
    -- 24: a drop of another block of the line
    ∷ refused_at small [] (fetch_entry 1 3 ∷ drop_entry 1 1 ∷ []) 24 1
    -- 24: a write-back of a block that another holds
    ∷ refused_at small [] (fetch_entry 1 3 ∷ write_back_entry 0 3 ∷ []) 24 1
    -- 3 before 8
    ∷ refused_at small [] (fetch_entry 1 3 ∷ fetch_entry 2 5 ∷ []) 3 1
    -- 8 before 24
    ∷ refused_at small [] (drop_entry 0 5 ∷ []) 8 0
    -- 26 with no request left
    ∷ refused_at small (write 1 10 5 ∷ []) (fetch_entry 1 3 ∷ Complete ∷ CompleteByBroadcast ∷ []) 26 2
    -- 3 before 4 at a completion
    ∷ refused_at small (read 2 15 ∷ []) (fetch_entry 1 3 ∷ Complete ∷ []) 3 1
    -- 4 before 9
    ∷ refused_at small (read 0 15 ∷ []) (CompleteByBroadcast ∷ []) 4 0
    -- 9 before 27
    ∷ refused_at small (read 0 10 ∷ []) (CompleteByBroadcast ∷ []) 9 0
    -- 27: another holds the block
    ∷ refused_at small (read 0 10 ∷ []) (fetch_entry 1 3 ∷ Complete ∷ []) 27 1
    -- 28: at the schedule's length
    ∷ refused_at small (write 1 10 5 ∷ []) (fetch_entry 1 3 ∷ []) 28 1
    -- 1: tables untouched
    ∷ quote (record {
      setup = board 2 2 17 5;
      requests = write 1 10 5 ∷ [];
      entries = fetch_entry 1 3 ∷ [];
      number = 1;
      place = 0;
      cost = 0;
      blocks = 7 ∷ 7 ∷ 7 ∷ 7 ∷ [];
      held = 7 ∷ 7 ∷ 7 ∷ 7 ∷ [];
      marks = 7 ∷ 7 ∷ 7 ∷ 7 ∷ [];
    })
    -- a write that a higher processor shares costs 1 and marks nothing
    ∷ quote (record {
      setup = small;
      requests = write 0 10 5 ∷ [];
      entries = fetch_entry 0 3 ∷ fetch_entry 1 3 ∷ Complete ∷ [];
      number = 0;
      place = 0;
      cost = 7;
      blocks = 0 ∷ 3 ∷ 0 ∷ 3 ∷ [];
      held = 0 ∷ 1 ∷ 0 ∷ 1 ∷ [];
      marks = 0 ∷ 0 ∷ 0 ∷ 0 ∷ [];
    })
    -- a read of a shared block costs 0
    ∷ quote (record {
      setup = small;
      requests = read 1 10 ∷ [];
      entries = fetch_entry 1 3 ∷ fetch_entry 0 3 ∷ Complete ∷ [];
      number = 0;
      place = 0;
      cost = 6;
      blocks = 0 ∷ 3 ∷ 0 ∷ 3 ∷ [];
      held = 0 ∷ 1 ∷ 0 ∷ 1 ∷ [];
      marks = 0 ∷ 0 ∷ 0 ∷ 0 ∷ [];
    })
    -- more processors than lines: processor 2's mark clears
    ∷ quote (record {
      setup = board 3 1 3 5;
      requests = write 2 1 5 ∷ [];
      entries = fetch_entry 2 0 ∷ Complete ∷ fetch_entry 0 0 ∷ [];
      number = 0;
      place = 0;
      cost = 6;
      blocks = 0 ∷ 0 ∷ 0 ∷ [];
      held = 1 ∷ 0 ∷ 1 ∷ [];
      marks = 0 ∷ 0 ∷ 0 ∷ [];
    })
    -- a shared write costs 1, whether one other holds the block
    ∷ quote (record {
      setup = board 3 2 3 5;
      requests = write 2 10 5 ∷ [];
      entries = fetch_entry 0 3 ∷ fetch_entry 2 3 ∷ Complete ∷ [];
      number = 0;
      place = 0;
      cost = 7;
      blocks = 0 ∷ 3 ∷ 0 ∷ 0 ∷ 0 ∷ 3 ∷ [];
      held = 0 ∷ 1 ∷ 0 ∷ 0 ∷ 0 ∷ 1 ∷ [];
      marks = 0 ∷ 0 ∷ 0 ∷ 0 ∷ 0 ∷ 0 ∷ [];
    })
    -- or two others do
    ∷ quote (record {
      setup = board 3 2 3 5;
      requests = write 1 10 5 ∷ [];
      entries = fetch_entry 0 3 ∷ fetch_entry 1 3 ∷ fetch_entry 2 3 ∷ Complete ∷ [];
      number = 0;
      place = 0;
      cost = 10;
      blocks = 0 ∷ 3 ∷ 0 ∷ 3 ∷ 0 ∷ 3 ∷ [];
      held = 0 ∷ 1 ∷ 0 ∷ 1 ∷ 0 ∷ 1 ∷ [];
      marks = 0 ∷ 0 ∷ 0 ∷ 0 ∷ 0 ∷ 0 ∷ [];
    })
    -- by broadcast a write costs 1, with two holders
    ∷ quote (record {
      setup = board 3 2 3 5;
      requests = write 2 10 5 ∷ [];
      entries = fetch_entry 0 3 ∷ fetch_entry 2 3 ∷ CompleteByBroadcast ∷ [];
      number = 0;
      place = 0;
      cost = 7;
      blocks = 0 ∷ 3 ∷ 0 ∷ 0 ∷ 0 ∷ 3 ∷ [];
      held = 0 ∷ 1 ∷ 0 ∷ 0 ∷ 0 ∷ 1 ∷ [];
      marks = 0 ∷ 0 ∷ 0 ∷ 0 ∷ 0 ∷ 0 ∷ [];
    })
    -- and with three
    ∷ quote (record {
      setup = board 3 2 3 5;
      requests = write 1 10 5 ∷ [];
      entries = fetch_entry 0 3 ∷ fetch_entry 1 3 ∷ fetch_entry 2 3 ∷ CompleteByBroadcast ∷ [];
      number = 0;
      place = 0;
      cost = 10;
      blocks = 0 ∷ 3 ∷ 0 ∷ 3 ∷ 0 ∷ 3 ∷ [];
      held = 0 ∷ 1 ∷ 0 ∷ 1 ∷ 0 ∷ 1 ∷ [];
      marks = 0 ∷ 0 ∷ 0 ∷ 0 ∷ 0 ∷ 0 ∷ [];
    })
    -- a write is shared by holders of its block alone, not of its line
    ∷ quote (record {
      setup = board 3 2 3 5;
      requests = write 1 10 5 ∷ [];
      entries = fetch_entry 0 1 ∷ fetch_entry 1 3 ∷ fetch_entry 2 1 ∷ Complete ∷ [];
      number = 0;
      place = 0;
      cost = 9;
      blocks = 0 ∷ 1 ∷ 0 ∷ 3 ∷ 0 ∷ 1 ∷ [];
      held = 0 ∷ 1 ∷ 0 ∷ 1 ∷ 0 ∷ 1 ∷ [];
      marks = 0 ∷ 0 ∷ 0 ∷ 1 ∷ 0 ∷ 0 ∷ [];
    })
    -- a fetch clears this block's mark at any processor, and no other mark of the line
    ∷ quote (record {
      setup = board 3 2 3 5;
      requests = write 2 10 5 ∷ write 1 4 5 ∷ [];
      entries = fetch_entry 2 3 ∷ Complete ∷ fetch_entry 1 1 ∷ Complete ∷ fetch_entry 0 3 ∷ [];
      number = 0;
      place = 0;
      cost = 9;
      blocks = 0 ∷ 3 ∷ 0 ∷ 1 ∷ 0 ∷ 3 ∷ [];
      held = 0 ∷ 1 ∷ 0 ∷ 1 ∷ 0 ∷ 1 ∷ [];
      marks = 0 ∷ 0 ∷ 0 ∷ 1 ∷ 0 ∷ 0 ∷ [];
    })
    -- a write-back clears that mark alone, and costs g
    ∷ quote (record {
      setup = board 3 2 3 5;
      requests = write 0 10 5 ∷ write 0 6 5 ∷ write 1 4 5 ∷ [];
      entries = fetch_entry 0 3 ∷ Complete ∷ fetch_entry 0 2 ∷ Complete ∷ fetch_entry 1 1 ∷ Complete ∷ write_back_entry 0 3 ∷ [];
      number = 0;
      place = 0;
      cost = 12;
      blocks = 2 ∷ 3 ∷ 0 ∷ 1 ∷ 0 ∷ 0 ∷ [];
      held = 1 ∷ 1 ∷ 0 ∷ 1 ∷ 0 ∷ 0 ∷ [];
      marks = 1 ∷ 0 ∷ 0 ∷ 1 ∷ 0 ∷ 0 ∷ [];
    })
    -- a drop empties that line alone
    ∷ quote (record {
      setup = board 3 2 3 5;
      requests = [];
      entries = fetch_entry 0 3 ∷ fetch_entry 0 2 ∷ fetch_entry 1 1 ∷ drop_entry 0 3 ∷ [];
      number = 0;
      place = 0;
      cost = 9;
      blocks = 2 ∷ 0 ∷ 0 ∷ 1 ∷ 0 ∷ 0 ∷ [];
      held = 1 ∷ 0 ∷ 0 ∷ 1 ∷ 0 ∷ 0 ∷ [];
      marks = 0 ∷ 0 ∷ 0 ∷ 0 ∷ 0 ∷ 0 ∷ [];
    })
    -- 23: the line holds another block
    ∷ refused_at small [] (fetch_entry 1 3 ∷ fetch_entry 1 1 ∷ []) 23 1
    -- 24: a write-back where the line holds another block, a marked one
    ∷ refused_at small (write 1 10 5 ∷ []) (fetch_entry 1 3 ∷ Complete ∷ write_back_entry 1 1 ∷ []) 24 2
    -- 24: a write-back where the line holds another block, an unmarked one
    ∷ refused_at small [] (fetch_entry 1 3 ∷ write_back_entry 1 1 ∷ []) 24 1
    -- 24: a write-back where the line is empty
    ∷ refused_at small [] (write_back_entry 1 1 ∷ []) 24 0
    -- 24: a drop where the line is empty
    ∷ refused_at small [] (drop_entry 1 0 ∷ []) 24 0
    -- 24 before 25: a drop of another block of a marked line
    ∷ refused_at small (write 1 10 5 ∷ []) (fetch_entry 1 3 ∷ Complete ∷ drop_entry 1 1 ∷ []) 24 2
    -- 27: the line holds another block
    ∷ refused_at small (read 1 4 ∷ []) (fetch_entry 1 3 ∷ Complete ∷ []) 27 1
    -- 27: by broadcast too
    ∷ refused_at small (write 1 4 5 ∷ []) (fetch_entry 1 3 ∷ CompleteByBroadcast ∷ []) 27 1
    -- 27: an empty line is no copy of block 0
    ∷ refused_at small (read 1 1 ∷ []) (Complete ∷ []) 27 0
    -- 3 at a write-back, and before 8
    ∷ refused_at small [] (fetch_entry 1 3 ∷ write_back_entry 2 5 ∷ []) 3 1
    -- 3 at a drop
    ∷ refused_at small [] (fetch_entry 1 3 ∷ drop_entry 2 3 ∷ []) 3 1
    -- 8 at a write-back
    ∷ refused_at small [] (fetch_entry 1 3 ∷ write_back_entry 1 5 ∷ []) 8 1
    -- 8 before 23
    ∷ refused_at small [] (fetch_entry 1 3 ∷ fetch_entry 1 5 ∷ []) 8 1
    -- 26 before 28: a completion too many refuses at its place
    ∷ refused_at small [] (Complete ∷ []) 26 0
    -- 9: a read of a held block
    ∷ refused_at small (read 1 10 ∷ []) (fetch_entry 1 3 ∷ CompleteByBroadcast ∷ []) 9 1
    -- 4 at a completion
    ∷ refused_at small (write 1 15 5 ∷ []) (fetch_entry 1 3 ∷ Complete ∷ []) 4 1
    -- 1: N 8, L 64, p 16 and M 256 are taken
    ∷ checked (board 8 64 16 256) 512 512 512 0 0 0
    -- 1: each number one too high, or 0
    ∷ checked (board 9 1 1 1) 9 9 9 0 0 1
    ∷ checked (board 1 65 1 1) 65 65 65 0 0 1
    ∷ checked (board 1 1 17 1) 1 1 1 0 0 1
    ∷ checked (board 1 1 1 257) 1 1 1 0 0 1
    ∷ checked (board 0 1 1 1) 0 0 0 0 0 1
    ∷ checked (board 1 0 1 1) 0 0 0 0 0 1
    ∷ checked (board 1 1 0 1) 1 1 1 0 0 1
    ∷ checked (board 1 1 1 0) 1 1 1 0 0 1
    -- 5 at its limits
    ∷ checked small 4 4 4 4000000 1000000 0
    ∷ checked small 4 4 4 4000001 1000000 5
    ∷ checked small 4 4 4 4000000 1000001 5
    -- 2 before 5, 1 before 2
    ∷ checked small 4 4 5 4000001 0 2
    ∷ checked small 4 3 4 0 1000001 2
    ∷ checked (board 9 2 2 5) 4 4 5 4000001 0 1
    -- 2: each table too short or too long
    ∷ checked small 3 4 4 0 0 2
    ∷ checked small 5 4 4 0 0 2
    ∷ checked small 4 3 4 0 0 2
    ∷ checked small 4 5 4 0 0 2
    ∷ checked small 4 4 3 0 0 2
    ∷ checked small 4 4 5 0 0 2
    -- ---- document 02, P1
    -- P1: document 003's pipelined bus: four fetches, a write-back and an update
    ∷ session (record {
      setup = pipelined;
      account = account 0 0 0 0;
      before = [];
      requests = write 0 37 6 ∷ read 1 37 ∷ write 1 38 7 ∷ read 0 5 ∷ write 0 4 3 ∷ read 0 37 ∷ [];
      values = 6 ∷ 6 ∷ 7 ∷ 0 ∷ 3 ∷ 6 ∷ [];
      answer = answered 6 0 0;
      cost = cost 20 4 1;
      left = account 6 20 4 1;
      changes = true;
      lines = copy 1 9 5 0 (0 ∷ 6 ∷ 7 ∷ 0 ∷ []) ∷ copy 9 9 5 0 (0 ∷ 6 ∷ 7 ∷ 0 ∷ []) ∷ [];
      memory = cell 4 3 ∷ cell 37 6 ∷ cell 38 7 ∷ [];
    })
    -- a miss that writes back costs f and g, p being below both
    ∷ session (record {
      setup = dear_fetch;
      account = account 0 0 0 0;
      before = write 0 2 7 ∷ [];
      requests = read 0 6 ∷ [];
      values = 0 ∷ [];
      answer = answered 1 0 0;
      cost = cost 5 3 0;
      left = account 2 10 3 0;
      changes = true;
      lines = copy 1 3 5 0 (0 ∷ 0 ∷ []) ∷ [];
      memory = cell 2 7 ∷ [];
    })
    -- a miss that writes back, p being above both
    ∷ session (record {
      setup = cheap_fetch;
      account = account 0 0 0 0;
      before = write 0 4 7 ∷ [];
      requests = read 0 12 ∷ [];
      values = 0 ∷ [];
      answer = answered 1 0 0;
      cost = cost 3 2 0;
      left = account 2 6 2 0;
      changes = true;
      lines = copy 1 3 3 0 (0 ∷ 0 ∷ 0 ∷ 0 ∷ []) ∷ [];
      memory = cell 4 7 ∷ [];
    })
    -- the old owner is left unmarked, its counter stays f; the new copy's is f, and no write-back is charged
    ∷ session (record {
      setup = dear_fetch;
      account = account 0 0 0 0;
      before = write 0 2 7 ∷ [];
      requests = read 1 2 ∷ [];
      values = 7 ∷ [];
      answer = answered 1 0 0;
      cost = cost 5 0 0;
      left = account 2 10 0 0;
      changes = true;
      lines = copy 1 1 5 0 (7 ∷ 0 ∷ []) ∷ copy 3 1 5 0 (7 ∷ 0 ∷ []) ∷ [];
      memory = cell 2 7 ∷ [];
    })
    -- after f − 1 writes, more than p, the payer still holds the block
    ∷ session (record {
      setup = dear_fetch;
      account = account 0 0 0 0;
      before = read 0 2 ∷ read 1 2 ∷ [];
      requests = write 1 3 4 ∷ write 1 3 5 ∷ write 1 2 6 ∷ write 1 3 7 ∷ [];
      values = 4 ∷ 5 ∷ 6 ∷ 7 ∷ [];
      answer = answered 4 0 0;
      cost = cost 0 0 4;
      left = account 6 10 0 4;
      changes = true;
      lines = copy 1 1 1 0 (6 ∷ 7 ∷ []) ∷ copy 3 1 5 0 (6 ∷ 7 ∷ []) ∷ [];
      memory = cell 2 6 ∷ cell 3 7 ∷ [];
    })
    -- the write f empties its line
    ∷ session (record {
      setup = dear_fetch;
      account = account 0 0 0 0;
      before = read 0 2 ∷ read 1 2 ∷ write 1 3 4 ∷ write 1 3 5 ∷ write 1 2 6 ∷ write 1 3 7 ∷ [];
      requests = write 1 2 8 ∷ [];
      values = 8 ∷ [];
      answer = answered 1 0 0;
      cost = cost 0 0 1;
      left = account 7 10 0 5;
      changes = true;
      lines = copy 3 1 5 0 (8 ∷ 7 ∷ []) ∷ [];
      memory = cell 2 8 ∷ cell 3 7 ∷ [];
    })
    -- with f below p it holds the block after f − 1 writes
    ∷ session (record {
      setup = cheap_fetch;
      account = account 0 0 0 0;
      before = read 0 4 ∷ read 1 4 ∷ [];
      requests = write 1 5 4 ∷ write 1 6 5 ∷ [];
      values = 4 ∷ 5 ∷ [];
      answer = answered 2 0 0;
      cost = cost 0 0 2;
      left = account 4 6 0 2;
      changes = true;
      lines = copy 1 1 1 0 (0 ∷ 4 ∷ 5 ∷ 0 ∷ []) ∷ copy 3 1 3 0 (0 ∷ 4 ∷ 5 ∷ 0 ∷ []) ∷ [];
      memory = cell 5 4 ∷ cell 6 5 ∷ [];
    })
    -- and the write f, before p writes, empties its line
    ∷ session (record {
      setup = cheap_fetch;
      account = account 0 0 0 0;
      before = read 0 4 ∷ read 1 4 ∷ write 1 5 4 ∷ write 1 6 5 ∷ [];
      requests = write 1 7 6 ∷ [];
      values = 6 ∷ [];
      answer = answered 1 0 0;
      cost = cost 0 0 1;
      left = account 5 6 0 3;
      changes = true;
      lines = copy 3 1 3 0 (0 ∷ 4 ∷ 5 ∷ 6 ∷ []) ∷ [];
      memory = cell 5 4 ∷ cell 6 5 ∷ cell 7 6 ∷ [];
    })
    -- f 1: the first write empties the payer's line
    ∷ session (record {
      setup = priced_board 2 2 2 5 1 1;
      account = account 0 0 0 0;
      before = read 0 2 ∷ read 1 2 ∷ [];
      requests = write 1 3 4 ∷ [];
      values = 4 ∷ [];
      answer = answered 1 0 0;
      cost = cost 0 0 1;
      left = account 3 2 0 1;
      changes = true;
      lines = copy 3 1 1 0 (0 ∷ 4 ∷ []) ∷ [];
      memory = cell 3 4 ∷ [];
    })
    -- a shared write refills the writer's counter to f
    ∷ session (record {
      setup = dear_fetch;
      account = account 0 0 0 0;
      before = read 0 2 ∷ read 1 2 ∷ write 1 3 4 ∷ write 1 3 5 ∷ write 1 2 6 ∷ [];
      requests = write 0 2 9 ∷ [];
      values = 9 ∷ [];
      answer = answered 1 0 0;
      cost = cost 0 0 1;
      left = account 6 10 0 4;
      changes = true;
      lines = copy 1 1 5 0 (9 ∷ 5 ∷ []) ∷ copy 3 1 4 0 (9 ∷ 5 ∷ []) ∷ [];
      memory = cell 2 9 ∷ cell 3 5 ∷ [];
    })
    -- with f below p too
    ∷ session (record {
      setup = cheap_fetch;
      account = account 0 0 0 0;
      before = read 0 4 ∷ read 1 4 ∷ write 1 5 4 ∷ write 1 6 5 ∷ [];
      requests = write 0 4 9 ∷ [];
      values = 9 ∷ [];
      answer = answered 1 0 0;
      cost = cost 0 0 1;
      left = account 5 6 0 3;
      changes = true;
      lines = copy 1 1 3 0 (9 ∷ 4 ∷ 5 ∷ 0 ∷ []) ∷ copy 3 1 2 0 (9 ∷ 4 ∷ 5 ∷ 0 ∷ []) ∷ [];
      memory = cell 4 9 ∷ cell 5 4 ∷ cell 6 5 ∷ [];
    })
    -- and so does a lone write
    ∷ session (record {
      setup = dear_fetch;
      account = account 0 0 0 0;
      before = read 0 2 ∷ read 1 2 ∷ write 1 3 4 ∷ write 1 3 5 ∷ read 1 6 ∷ [];
      requests = write 0 2 9 ∷ [];
      values = 9 ∷ [];
      answer = answered 1 0 0;
      cost = cost 0 0 0;
      left = account 6 15 0 2;
      changes = true;
      lines = copy 1 1 5 1 (9 ∷ 5 ∷ []) ∷ copy 3 3 5 0 (0 ∷ 0 ∷ []) ∷ [];
      memory = cell 3 5 ∷ [];
    })
    -- an account at f × requests and g × L × requests is possible
    ∷ session (record {
      setup = dear_fetch;
      account = account 2 10 12 2;
      before = [];
      requests = read 1 2 ∷ [];
      values = 0 ∷ [];
      answer = answered 1 0 0;
      cost = cost 5 0 0;
      left = account 3 15 12 2;
      changes = true;
      lines = copy 3 1 5 0 (0 ∷ 0 ∷ []) ∷ [];
      memory = [];
    })
    -- 21: fetch cycles over f × requests, p below f
    ∷ session (record {
      setup = dear_fetch;
      account = account 2 11 12 2;
      before = [];
      requests = read 1 2 ∷ [];
      values = 9 ∷ [];
      answer = answered 0 21 0;
      cost = cost 0 0 0;
      left = account 2 11 12 2;
      changes = false;
      lines = [];
      memory = [];
    })
    -- 21: write-back cycles over g × L × requests, but not over f × L × requests
    ∷ session (record {
      setup = dear_fetch;
      account = account 2 10 13 2;
      before = [];
      requests = read 1 2 ∷ [];
      values = 9 ∷ [];
      answer = answered 0 21 0;
      cost = cost 0 0 0;
      left = account 2 10 13 2;
      changes = false;
      lines = [];
      memory = [];
    })
    -- at these limits with f below p
    ∷ session (record {
      setup = cheap_fetch;
      account = account 2 6 8 2;
      before = [];
      requests = read 1 4 ∷ [];
      values = 0 ∷ [];
      answer = answered 1 0 0;
      cost = cost 3 0 0;
      left = account 3 9 8 2;
      changes = true;
      lines = copy 3 1 3 0 (0 ∷ 0 ∷ 0 ∷ 0 ∷ []) ∷ [];
      memory = [];
    })
    -- 21: fetch cycles over f × requests, but not over p × requests
    ∷ session (record {
      setup = cheap_fetch;
      account = account 2 7 8 2;
      before = [];
      requests = read 1 4 ∷ [];
      values = 9 ∷ [];
      answer = answered 0 21 0;
      cost = cost 0 0 0;
      left = account 2 7 8 2;
      changes = false;
      lines = [];
      memory = [];
    })
    -- 21: write-back cycles over g × L × requests, but not over p × L × requests
    ∷ session (record {
      setup = cheap_fetch;
      account = account 2 6 9 2;
      before = [];
      requests = read 1 4 ∷ [];
      values = 9 ∷ [];
      answer = answered 0 21 0;
      cost = cost 0 0 0;
      left = account 2 6 9 2;
      changes = false;
      lines = [];
      memory = [];
    })
    -- the products are not cut to 32 bits: 32 × 2^27 is 2^32, and by two lines 2^33
    ∷ session (record {
      setup = priced_board 2 2 2 5 32 32;
      account = account 134217728 4294967295 4294967295 0;
      before = [];
      requests = read 1 2 ∷ [];
      values = 9 ∷ [];
      answer = answered 0 22 0;
      cost = cost 0 0 0;
      left = account 134217728 4294967295 4294967295 0;
      changes = false;
      lines = [];
      memory = [];
    })
    -- 21: one over 31 × 2 × 2^26
    ∷ session (record {
      setup = priced_board 2 2 2 5 32 31;
      account = account 67108864 2147483648 4160749569 0;
      before = [];
      requests = read 1 2 ∷ [];
      values = 9 ∷ [];
      answer = answered 0 21 0;
      cost = cost 0 0 0;
      left = account 67108864 2147483648 4160749569 0;
      changes = false;
      lines = [];
      memory = [];
    })
    -- a round of f writes and a read: 2f + 2f, here 20
    ∷ session (record {
      setup = dear_fetch;
      account = account 0 0 0 0;
      before = [];
      requests = read 0 2 ∷ read 1 2 ∷ write 0 2 4 ∷ write 0 2 5 ∷ write 0 2 6 ∷ write 0 2 7 ∷ write 0 2 8 ∷ read 1 2 ∷ [];
      values = 0 ∷ 0 ∷ 4 ∷ 5 ∷ 6 ∷ 7 ∷ 8 ∷ 8 ∷ [];
      answer = answered 8 0 0;
      cost = cost 15 0 5;
      left = account 8 15 0 5;
      changes = true;
      lines = copy 1 1 5 0 (8 ∷ 0 ∷ []) ∷ copy 3 1 5 0 (8 ∷ 0 ∷ []) ∷ [];
      memory = cell 2 8 ∷ [];
    })
    -- and 12
    ∷ session (record {
      setup = cheap_fetch;
      account = account 0 0 0 0;
      before = [];
      requests = read 0 4 ∷ read 1 4 ∷ write 0 4 4 ∷ write 0 4 5 ∷ write 0 4 6 ∷ read 1 4 ∷ [];
      values = 0 ∷ 0 ∷ 4 ∷ 5 ∷ 6 ∷ 6 ∷ [];
      answer = answered 6 0 0;
      cost = cost 9 0 3;
      left = account 6 9 0 3;
      changes = true;
      lines = copy 1 1 3 0 (6 ∷ 0 ∷ 0 ∷ 0 ∷ []) ∷ copy 3 1 3 0 (6 ∷ 0 ∷ 0 ∷ 0 ∷ []) ∷ [];
      memory = cell 4 6 ∷ [];
    })
    -- counters over p and up to f are sound, and so is a marked block with counter f
    ∷ tabled dear_fetch (tables (4 ∷ 3 ∷ 4 ∷ 0 ∷ []) (5 ∷ 5 ∷ 3 ∷ 0 ∷ []) (0 ∷ 1 ∷ 0 ∷ 0 ∷ []) (8 ∷ 9 ∷ 5 ∷ 6 ∷ 8 ∷ 9 ∷ 0 ∷ 0 ∷ []) (0 ∷ 0 ∷ 0 ∷ 0 ∷ 0 ∷ 0 ∷ 7 ∷ 7 ∷ 8 ∷ 9 ∷ [])) 0
    -- 20: a counter over f, p below f
    ∷ tabled dear_fetch (tables (4 ∷ 3 ∷ 4 ∷ 0 ∷ []) (6 ∷ 5 ∷ 3 ∷ 0 ∷ []) (0 ∷ 1 ∷ 0 ∷ 0 ∷ []) (8 ∷ 9 ∷ 5 ∷ 6 ∷ 8 ∷ 9 ∷ 0 ∷ 0 ∷ []) (0 ∷ 0 ∷ 0 ∷ 0 ∷ 0 ∷ 0 ∷ 7 ∷ 7 ∷ 8 ∷ 9 ∷ [])) 20
    -- 20: a marked block with counter p, below f
    ∷ tabled dear_fetch (tables (4 ∷ 3 ∷ 4 ∷ 0 ∷ []) (5 ∷ 2 ∷ 3 ∷ 0 ∷ []) (0 ∷ 1 ∷ 0 ∷ 0 ∷ []) (8 ∷ 9 ∷ 5 ∷ 6 ∷ 8 ∷ 9 ∷ 0 ∷ 0 ∷ []) (0 ∷ 0 ∷ 0 ∷ 0 ∷ 0 ∷ 0 ∷ 7 ∷ 7 ∷ 8 ∷ 9 ∷ [])) 20
    -- 20: a marked block with counter f − 1
    ∷ tabled dear_fetch (tables (4 ∷ 3 ∷ 4 ∷ 0 ∷ []) (5 ∷ 4 ∷ 3 ∷ 0 ∷ []) (0 ∷ 1 ∷ 0 ∷ 0 ∷ []) (8 ∷ 9 ∷ 5 ∷ 6 ∷ 8 ∷ 9 ∷ 0 ∷ 0 ∷ []) (0 ∷ 0 ∷ 0 ∷ 0 ∷ 0 ∷ 0 ∷ 7 ∷ 7 ∷ 8 ∷ 9 ∷ [])) 20
    -- with f below p
    ∷ tabled cheap_fetch (tables (4 ∷ 3 ∷ 4 ∷ 0 ∷ []) (3 ∷ 3 ∷ 1 ∷ 0 ∷ []) (0 ∷ 1 ∷ 0 ∷ 0 ∷ []) (1 ∷ 2 ∷ 3 ∷ 4 ∷ 5 ∷ 6 ∷ 5 ∷ 6 ∷ 1 ∷ 2 ∷ 3 ∷ 4 ∷ 0 ∷ 0 ∷ 0 ∷ 0 ∷ []) (0 ∷ 0 ∷ 0 ∷ 0 ∷ 0 ∷ 0 ∷ 0 ∷ 0 ∷ 0 ∷ 0 ∷ 0 ∷ 0 ∷ 7 ∷ 7 ∷ 7 ∷ 7 ∷ 1 ∷ 2 ∷ 3 ∷ 4 ∷ [])) 0
    -- 20: a counter of p, over f
    ∷ tabled cheap_fetch (tables (4 ∷ 3 ∷ 4 ∷ 0 ∷ []) (4 ∷ 3 ∷ 1 ∷ 0 ∷ []) (0 ∷ 1 ∷ 0 ∷ 0 ∷ []) (1 ∷ 2 ∷ 3 ∷ 4 ∷ 5 ∷ 6 ∷ 5 ∷ 6 ∷ 1 ∷ 2 ∷ 3 ∷ 4 ∷ 0 ∷ 0 ∷ 0 ∷ 0 ∷ []) (0 ∷ 0 ∷ 0 ∷ 0 ∷ 0 ∷ 0 ∷ 0 ∷ 0 ∷ 0 ∷ 0 ∷ 0 ∷ 0 ∷ 7 ∷ 7 ∷ 7 ∷ 7 ∷ 1 ∷ 2 ∷ 3 ∷ 4 ∷ [])) 20
    -- 20: a marked block with counter p, over f
    ∷ tabled cheap_fetch (tables (4 ∷ 3 ∷ 4 ∷ 0 ∷ []) (3 ∷ 4 ∷ 1 ∷ 0 ∷ []) (0 ∷ 1 ∷ 0 ∷ 0 ∷ []) (1 ∷ 2 ∷ 3 ∷ 4 ∷ 5 ∷ 6 ∷ 5 ∷ 6 ∷ 1 ∷ 2 ∷ 3 ∷ 4 ∷ 0 ∷ 0 ∷ 0 ∷ 0 ∷ []) (0 ∷ 0 ∷ 0 ∷ 0 ∷ 0 ∷ 0 ∷ 0 ∷ 0 ∷ 0 ∷ 0 ∷ 0 ∷ 0 ∷ 7 ∷ 7 ∷ 7 ∷ 7 ∷ 1 ∷ 2 ∷ 3 ∷ 4 ∷ [])) 20
    -- f 32 and g 32 are taken
    ∷ lent (record {
      setup = priced_board 2 2 2 5 32 32;
      account = account 3 0 0 0;
      values = 9 ∷ [];
      run_refusal = 0;
      start_refusal = 0;
      tables = tables (4 ∷ 3 ∷ 4 ∷ 0 ∷ []) (1 ∷ 32 ∷ 32 ∷ 0 ∷ []) (0 ∷ 1 ∷ 0 ∷ 0 ∷ []) (8 ∷ 9 ∷ 5 ∷ 6 ∷ 8 ∷ 9 ∷ 0 ∷ 0 ∷ []) (0 ∷ 0 ∷ 0 ∷ 0 ∷ 0 ∷ 0 ∷ 7 ∷ 7 ∷ 8 ∷ 9 ∷ []);
      processor = 0;
      block = 3;
      seen = 5 ∷ 6 ∷ [];
    })
    -- f 32 and g 1
    ∷ lent (record {
      setup = priced_board 2 2 2 5 32 1;
      account = account 3 0 0 0;
      values = 9 ∷ [];
      run_refusal = 0;
      start_refusal = 0;
      tables = tables (4 ∷ 3 ∷ 4 ∷ 0 ∷ []) (1 ∷ 32 ∷ 32 ∷ 0 ∷ []) (0 ∷ 1 ∷ 0 ∷ 0 ∷ []) (8 ∷ 9 ∷ 5 ∷ 6 ∷ 8 ∷ 9 ∷ 0 ∷ 0 ∷ []) (0 ∷ 0 ∷ 0 ∷ 0 ∷ 0 ∷ 0 ∷ 7 ∷ 7 ∷ 8 ∷ 9 ∷ []);
      processor = 0;
      block = 3;
      seen = 5 ∷ 6 ∷ [];
    })
    -- f 1 and g 1
    ∷ lent (record {
      setup = priced_board 2 2 2 5 1 1;
      account = account 3 0 0 0;
      values = 9 ∷ [];
      run_refusal = 0;
      start_refusal = 0;
      tables = tables (4 ∷ 3 ∷ 4 ∷ 0 ∷ []) (1 ∷ 1 ∷ 1 ∷ 0 ∷ []) (0 ∷ 1 ∷ 0 ∷ 0 ∷ []) (8 ∷ 9 ∷ 5 ∷ 6 ∷ 8 ∷ 9 ∷ 0 ∷ 0 ∷ []) (0 ∷ 0 ∷ 0 ∷ 0 ∷ 0 ∷ 0 ∷ 7 ∷ 7 ∷ 8 ∷ 9 ∷ []);
      processor = 0;
      block = 3;
      seen = 5 ∷ 6 ∷ [];
    })
    -- 10: f 33; nothing changes, and the look is empty
    ∷ setup_refused (priced_board 2 2 2 5 33 2) 10
    -- 10: f 0
    ∷ setup_refused (priced_board 2 2 2 5 0 0) 10
    -- 10: g 0
    ∷ setup_refused (priced_board 2 2 2 5 2 0) 10
    -- 10: g over f, both from 1 to 32
    ∷ setup_refused (priced_board 2 2 2 5 2 3) 10
    -- 10: f and g too large
    ∷ setup_refused (priced_board 2 2 2 5 4294967295 4294967295) 10
    -- 1 before 10
    ∷ setup_refused (priced_board 2 2 2 257 33 2) 1
    -- 10 before 2
    ∷ lent (record {
      setup = priced_board 2 2 2 5 2 3;
      account = account 0 1 0 0;
      values = [];
      run_refusal = 10;
      start_refusal = 10;
      tables = tables (4 ∷ 3 ∷ 4 ∷ []) (1 ∷ 2 ∷ 2 ∷ 0 ∷ []) (0 ∷ 1 ∷ 0 ∷ 0 ∷ []) (8 ∷ 9 ∷ 5 ∷ 6 ∷ 8 ∷ 9 ∷ 0 ∷ 0 ∷ []) (0 ∷ 0 ∷ 0 ∷ 0 ∷ 0 ∷ 0 ∷ 7 ∷ 7 ∷ 8 ∷ 9 ∷ []);
      processor = 0;
      block = 3;
      seen = [];
    })
    -- 10 before 21
    ∷ lent (record {
      setup = priced_board 2 2 2 5 33 2;
      account = account 0 1 0 0;
      values = 9 ∷ [];
      run_refusal = 10;
      start_refusal = 10;
      tables = tables (4 ∷ 3 ∷ 4 ∷ 0 ∷ []) (1 ∷ 2 ∷ 2 ∷ 0 ∷ []) (0 ∷ 1 ∷ 0 ∷ 0 ∷ []) (8 ∷ 9 ∷ 5 ∷ 6 ∷ 8 ∷ 9 ∷ 0 ∷ 0 ∷ []) (0 ∷ 0 ∷ 0 ∷ 0 ∷ 0 ∷ 0 ∷ 7 ∷ 7 ∷ 8 ∷ 9 ∷ []);
      processor = 0;
      block = 3;
      seen = [];
    })
    -- a rival pays f for a fetch, g for a write-back and 1 for an update, p being below f and g
    ∷ quote (record {
      setup = dear_fetch;
      requests = write 1 6 5 ∷ write 1 6 4 ∷ [];
      entries = fetch_entry 1 3 ∷ Complete ∷ fetch_entry 0 3 ∷ Complete ∷ write_back_entry 1 3 ∷ [];
      number = 0;
      place = 0;
      cost = 14;
      blocks = 0 ∷ 3 ∷ 0 ∷ 3 ∷ [];
      held = 0 ∷ 1 ∷ 0 ∷ 1 ∷ [];
      marks = 0 ∷ 0 ∷ 0 ∷ 0 ∷ [];
    })
    -- a rival pays f, g and 1, p being above f and g
    ∷ quote (record {
      setup = cheap_fetch;
      requests = write 1 12 5 ∷ write 1 12 4 ∷ [];
      entries = fetch_entry 1 3 ∷ Complete ∷ fetch_entry 0 3 ∷ Complete ∷ write_back_entry 1 3 ∷ [];
      number = 0;
      place = 0;
      cost = 9;
      blocks = 0 ∷ 3 ∷ 0 ∷ 3 ∷ [];
      held = 0 ∷ 1 ∷ 0 ∷ 1 ∷ [];
      marks = 0 ∷ 0 ∷ 0 ∷ 0 ∷ [];
    })
    -- on the pipelined bus a fetch, a write-back and an update by broadcast cost 10
    ∷ quote (record {
      setup = priced_board 2 2 4 5 5 4;
      requests = write 1 12 5 ∷ write 1 12 4 ∷ [];
      entries = fetch_entry 1 3 ∷ Complete ∷ write_back_entry 1 3 ∷ CompleteByBroadcast ∷ [];
      number = 0;
      place = 0;
      cost = 10;
      blocks = 0 ∷ 0 ∷ 0 ∷ 3 ∷ [];
      held = 0 ∷ 0 ∷ 0 ∷ 1 ∷ [];
      marks = 0 ∷ 0 ∷ 0 ∷ 0 ∷ [];
    })
    -- a round of f writes and a read: 2f + f, here 15
    ∷ quote (record {
      setup = dear_fetch;
      requests = read 0 2 ∷ read 1 2 ∷ write 0 2 4 ∷ write 0 2 5 ∷ write 0 2 6 ∷ write 0 2 7 ∷ write 0 2 8 ∷ read 1 2 ∷ [];
      entries = fetch_entry 0 1 ∷ fetch_entry 1 1 ∷ Complete ∷ Complete ∷ drop_entry 1 1 ∷ Complete ∷ Complete ∷ Complete ∷ Complete ∷ Complete ∷ fetch_entry 1 1 ∷ Complete ∷ [];
      number = 0;
      place = 0;
      cost = 15;
      blocks = 0 ∷ 1 ∷ 0 ∷ 1 ∷ [];
      held = 0 ∷ 1 ∷ 0 ∷ 1 ∷ [];
      marks = 0 ∷ 0 ∷ 0 ∷ 0 ∷ [];
    })
    -- and 9
    ∷ quote (record {
      setup = cheap_fetch;
      requests = read 0 4 ∷ read 1 4 ∷ write 0 4 4 ∷ write 0 4 5 ∷ write 0 4 6 ∷ read 1 4 ∷ [];
      entries = fetch_entry 0 1 ∷ fetch_entry 1 1 ∷ Complete ∷ Complete ∷ drop_entry 1 1 ∷ Complete ∷ Complete ∷ Complete ∷ fetch_entry 1 1 ∷ Complete ∷ [];
      number = 0;
      place = 0;
      cost = 9;
      blocks = 0 ∷ 1 ∷ 0 ∷ 1 ∷ [];
      held = 0 ∷ 1 ∷ 0 ∷ 1 ∷ [];
      marks = 0 ∷ 0 ∷ 0 ∷ 0 ∷ [];
    })
    -- 10: tables untouched
    ∷ quote (record {
      setup = priced_board 2 2 3 5 3 4;
      requests = write 1 10 5 ∷ [];
      entries = fetch_entry 1 3 ∷ [];
      number = 10;
      place = 0;
      cost = 0;
      blocks = 7 ∷ 7 ∷ 7 ∷ 7 ∷ [];
      held = 7 ∷ 7 ∷ 7 ∷ 7 ∷ [];
      marks = 7 ∷ 7 ∷ 7 ∷ 7 ∷ [];
    })
    -- 10 to the pricer: the limits, and each price beyond them
    ∷ checked (priced_board 2 2 2 5 32 32) 4 4 4 0 0 0
    ∷ checked (priced_board 2 2 2 5 32 1) 4 4 4 0 0 0
    ∷ checked (priced_board 2 2 2 5 1 1) 4 4 4 0 0 0
    ∷ checked (priced_board 2 2 2 5 33 1) 4 4 4 0 0 10
    ∷ checked (priced_board 2 2 2 5 0 0) 4 4 4 0 0 10
    ∷ checked (priced_board 2 2 2 5 0 1) 4 4 4 0 0 10
    ∷ checked (priced_board 2 2 2 5 5 0) 4 4 4 0 0 10
    ∷ checked (priced_board 2 2 2 5 5 6) 4 4 4 0 0 10
    -- 1 before 10, 10 before 2, 10 before 5
    ∷ checked (priced_board 9 2 2 5 33 1) 18 18 18 0 0 1
    ∷ checked (priced_board 2 2 2 5 5 6) 4 3 4 0 0 10
    ∷ checked (priced_board 2 2 2 5 33 1) 4 4 4 4000001 0 10
    -- ---- document 02, P2
    -- Marsaglia's seed, which is no draw
    ∷ seed_draws 2463534242 (723471715 ∷ 2497366906 ∷ 2064144800 ∷ 2008045182 ∷ 3532304609 ∷ 374114282 ∷ 1350636274 ∷ 691148861 ∷ 746858951 ∷ 2653896249 ∷ 1156348781 ∷ 3149294349 ∷ 2888432806 ∷ 3826506360 ∷ 1959669526 ∷ 2495235968 ∷ 1427053829 ∷ 1666395154 ∷ [])
    -- the least seed
    ∷ seed_draws 1 (270369 ∷ 67634689 ∷ 2647435461 ∷ 307599695 ∷ 2398689233 ∷ 745495504 ∷ [])
    -- the greatest
    ∷ seed_draws 4294967295 (253983 ∷ 4228382207 ∷ 1958451267 ∷ 4056713434 ∷ 2049502865 ∷ 2560970988 ∷ [])
    -- the top bit alone: every shift left loses it
    ∷ seed_draws 2147483648 (2148024320 ∷ 2299036804 ∷ 2861646152 ∷ [])
    -- three draws a request: processor, variable, and a read if even, else a write of the third
    ∷ generator usual 2463534242 0 (read 3 122 ∷ read 2 225 ∷ write 2 61 746858951 ∷ write 1 109 3149294349 ∷ read 2 120 ∷ read 0 5 ∷ [])
    -- a longer list begins with the shorter one
    ∷ generator usual 2463534242 0 (read 3 122 ∷ read 2 225 ∷ write 2 61 746858951 ∷ write 1 109 3149294349 ∷ read 2 120 ∷ read 0 5 ∷ read 2 167 ∷ read 2 159 ∷ [])
    -- other lines and prices, M and p with the same product: the same list
    ∷ generator (priced_board 4 1 16 16 32 1) 2463534242 0 (read 3 122 ∷ read 2 225 ∷ write 2 61 746858951 ∷ write 1 109 3149294349 ∷ read 2 120 ∷ read 0 5 ∷ [])
    -- N 8, M × p 4096
    ∷ generator (board 8 64 16 256) 1 0 (write 1 1537 2647435461 ∷ read 7 2001 ∷ write 2 3250 2005365029 ∷ write 4 715 1495045943 ∷ [])
    -- N 1, M × p 1
    ∷ generator (board 1 1 1 1) 4294967295 0 (write 0 0 1958451267 ∷ read 0 0 ∷ read 0 0 ∷ read 0 0 ∷ [])
    -- N 3, M × p 15
    ∷ generator (priced_board 3 2 3 5 5 4) 2147483648 0 (read 2 4 ∷ read 1 10 ∷ write 1 12 1840891463 ∷ write 2 7 2262211835 ∷ [])
    -- an empty list
    ∷ generator usual 2463534242 0 []
    -- 11: seed zero; the list is untouched
    ∷ generator usual 0 11 (unwritten ∷ unwritten ∷ [])
    -- 11 on an empty list
    ∷ generator usual 0 11 []
    -- 1; the list is untouched
    ∷ generator (board 9 8 4 64) 7 1 (unwritten ∷ unwritten ∷ [])
    -- 10; the list is untouched
    ∷ generator (priced_board 4 8 4 64 33 4) 7 10 (unwritten ∷ unwritten ∷ [])
    -- 1 before 11
    ∷ generator (board 4 8 4 257) 0 1 (unwritten ∷ unwritten ∷ [])
    -- 10 before 11
    ∷ generator (priced_board 4 8 4 64 4 5) 0 10 (unwritten ∷ unwritten ∷ [])
    -- 5: the last length let through, and the first refused
    ∷ generator_checked usual 1 1000000 0
    ∷ generator_checked usual 1 1000001 5
    -- the greatest seed is let through
    ∷ generator_checked usual 4294967295 1000000 0
    -- 1, 10 and 11 before 5
    ∷ generator_checked (board 4 0 4 64) 1 1000001 1
    ∷ generator_checked (priced_board 4 8 4 64 4 0) 1 1000001 10
    ∷ generator_checked usual 0 1000001 11
    -- fresh tables and a fresh account take a generated list to the end
    ∷ taken usual 2463534242 8
    ∷ taken (priced_board 3 2 3 5 5 4) 2147483648 12
    ∷ taken (board 1 1 1 1) 4294967295 4
    -- ---- document 02, P4
    -- two rounds of f writes and a read: the fetch cycles are the schedule's fetch plus update cycles, 2f + 2f; update and write-back cycles are 2f below it
    ∷ split (record {
      setup = cheap_fetch;
      requests = read 0 4 ∷ read 1 4 ∷ write 0 4 4 ∷ write 0 4 5 ∷ write 0 4 6 ∷ read 1 4 ∷ write 0 4 7 ∷ write 0 4 8 ∷ write 0 4 9 ∷ read 1 4 ∷ [];
      entries = fetch_entry 0 1 ∷ Complete ∷ fetch_entry 1 1 ∷ Complete ∷ drop_entry 1 1 ∷ Complete ∷ Complete ∷ Complete ∷ fetch_entry 1 1 ∷ Complete ∷ drop_entry 1 1 ∷ Complete ∷ Complete ∷ Complete ∷ fetch_entry 1 1 ∷ Complete ∷ [];
      spends = cost 12 0 6;
      pays = cost 12 0 0;
      sum = 12;
    })
    -- a schedule that keeps both copies, for three rounds: without its updates it would pay less than the fetch cycles, and less than the update cycles
    ∷ split (record {
      setup = cheap_fetch;
      requests = read 0 4 ∷ read 1 4 ∷ write 0 4 4 ∷ write 0 4 5 ∷ write 0 4 6 ∷ read 1 4 ∷ write 0 4 7 ∷ write 0 4 8 ∷ write 0 4 9 ∷ read 1 4 ∷ write 0 4 7 ∷ write 0 4 8 ∷ write 0 4 9 ∷ read 1 4 ∷ [];
      entries = fetch_entry 0 1 ∷ fetch_entry 1 1 ∷ replicate 14 Complete;
      spends = cost 15 0 9;
      pays = cost 6 0 9;
      sum = 15;
    })
    -- without the last read: update and write-back cycles are f below the schedule's fetch plus update cycles
    ∷ split (record {
      setup = cheap_fetch;
      requests = read 0 4 ∷ read 1 4 ∷ write 0 4 4 ∷ write 0 4 5 ∷ write 0 4 6 ∷ read 1 4 ∷ write 0 4 7 ∷ write 0 4 8 ∷ write 0 4 9 ∷ [];
      entries = fetch_entry 0 1 ∷ Complete ∷ fetch_entry 1 1 ∷ Complete ∷ drop_entry 1 1 ∷ Complete ∷ Complete ∷ Complete ∷ fetch_entry 1 1 ∷ Complete ∷ drop_entry 1 1 ∷ Complete ∷ Complete ∷ Complete ∷ [];
      spends = cost 9 0 6;
      pays = cost 9 0 0;
      sum = 9;
    })
    -- writes to two blocks of one line in turn: the schedule's write-backs are not in the sum; fetch and write-back cycles together are above it
    ∷ split (record {
      setup = dear_fetch;
      requests = write 0 2 4 ∷ write 0 6 5 ∷ write 0 2 6 ∷ [];
      entries = fetch_entry 0 1 ∷ Complete ∷ write_back_entry 0 1 ∷ drop_entry 0 1 ∷ fetch_entry 0 3 ∷ Complete ∷ write_back_entry 0 3 ∷ drop_entry 0 3 ∷ fetch_entry 0 1 ∷ Complete ∷ [];
      spends = cost 15 6 0;
      pays = cost 15 6 0;
      sum = 15;
    })
    -- the same with g equal to f: write-back cycles are f below the sum
    ∷ split (record {
      setup = priced_board 1 1 2 3 4 4;
      requests = write 0 0 4 ∷ write 0 2 5 ∷ write 0 0 6 ∷ [];
      entries = fetch_entry 0 0 ∷ Complete ∷ write_back_entry 0 0 ∷ drop_entry 0 0 ∷ fetch_entry 0 1 ∷ Complete ∷ write_back_entry 0 1 ∷ drop_entry 0 1 ∷ fetch_entry 0 0 ∷ Complete ∷ [];
      spends = cost 12 8 0;
      pays = cost 12 8 0;
      sum = 12;
    })
    -- the engine spends cycles of all three kinds
    ∷ split (record {
      setup = dear_fetch;
      requests = write 1 2 4 ∷ read 0 6 ∷ write 1 6 5 ∷ write 1 6 6 ∷ write 1 6 7 ∷ [];
      entries = fetch_entry 1 1 ∷ Complete ∷ fetch_entry 0 3 ∷ Complete ∷ write_back_entry 1 1 ∷ drop_entry 1 1 ∷ drop_entry 0 3 ∷ fetch_entry 1 3 ∷ Complete ∷ Complete ∷ Complete ∷ [];
      spends = cost 15 3 3;
      pays = cost 15 3 0;
      sum = 15;
    })
    -- so does a schedule
    ∷ split (record {
      setup = dear_fetch;
      requests = write 1 6 5 ∷ write 1 6 4 ∷ [];
      entries = fetch_entry 1 3 ∷ Complete ∷ fetch_entry 0 3 ∷ Complete ∷ write_back_entry 1 3 ∷ [];
      spends = cost 5 0 0;
      pays = cost 10 3 1;
      sum = 11;
    })
    -- completions by broadcast are updates, where the block has one holder too
    ∷ split (record {
      setup = dear_fetch;
      requests = write 1 6 5 ∷ write 1 6 4 ∷ [];
      entries = fetch_entry 1 3 ∷ CompleteByBroadcast ∷ CompleteByBroadcast ∷ [];
      spends = cost 5 0 0;
      pays = cost 5 0 2;
      sum = 7;
    })
    -- no request, no cycle; a schedule may pay all the same
    ∷ split (record {
      setup = dear_fetch;
      requests = [];
      entries = fetch_entry 1 3 ∷ write_back_entry 1 3 ∷ [];
      spends = cost 0 0 0;
      pays = cost 5 3 0;
      sum = 5;
    })
    -- ---- document 02, P5
    -- the writer's own counter, 2, is the smallest of all: of the others, with 4 and 4, the lowest pays
    ∷ session (record {
      setup = usual;
      account = account 0 0 0 0;
      before = read 0 39 ∷ read 1 39 ∷ read 2 39 ∷ write 0 38 6 ∷ write 0 37 5 ∷ [];
      requests = write 1 36 3 ∷ [];
      values = 3 ∷ [];
      answer = answered 1 0 0;
      cost = cost 0 0 1;
      left = account 6 12 0 3;
      changes = true;
      lines = copy 1 9 3 0 (3 ∷ 5 ∷ 6 ∷ 0 ∷ []) ∷ copy 9 9 4 0 (3 ∷ 5 ∷ 6 ∷ 0 ∷ []) ∷ copy 17 9 4 0 (3 ∷ 5 ∷ 6 ∷ 0 ∷ []) ∷ [];
      memory = cell 36 3 ∷ cell 37 5 ∷ cell 38 6 ∷ [];
    })
    -- three others, and the highest processor has the smallest counter: 4, 4 and 2
    ∷ session (record {
      setup = usual;
      account = account 0 0 0 0;
      before = read 0 39 ∷ read 3 39 ∷ write 0 38 6 ∷ write 0 37 5 ∷ read 1 39 ∷ read 2 39 ∷ [];
      requests = write 1 36 3 ∷ [];
      values = 3 ∷ [];
      answer = answered 1 0 0;
      cost = cost 0 0 1;
      left = account 7 16 0 3;
      changes = true;
      lines = copy 1 9 4 0 (3 ∷ 5 ∷ 6 ∷ 0 ∷ []) ∷ copy 9 9 4 0 (3 ∷ 5 ∷ 6 ∷ 0 ∷ []) ∷ copy 17 9 4 0 (3 ∷ 5 ∷ 6 ∷ 0 ∷ []) ∷ copy 25 9 1 0 (3 ∷ 5 ∷ 6 ∷ 0 ∷ []) ∷ [];
      memory = cell 36 3 ∷ cell 37 5 ∷ cell 38 6 ∷ [];
    })
    -- other tables than fresh ones, three others with 4, 2 and 2: of equal ones the lowest pays
    ∷ payment (4 ∷ 2 ∷ 2 ∷ 3 ∷ []) 3 (4 ∷ 1 ∷ 2 ∷ 4 ∷ [])
    -- with 3, 3 and 3, and 1 the writer's own
    ∷ payment (3 ∷ 3 ∷ 1 ∷ 3 ∷ []) 2 (2 ∷ 3 ∷ 4 ∷ 3 ∷ [])
    -- two others with 2 and 2, above the writer
    ∷ payment (4 ∷ 0 ∷ 2 ∷ 2 ∷ []) 0 (4 ∷ 0 ∷ 1 ∷ 2 ∷ [])
    -- three others with 3, 2 and 4: neither the lowest nor the highest processor pays
    ∷ payment (3 ∷ 2 ∷ 4 ∷ 4 ∷ []) 3 (3 ∷ 1 ∷ 4 ∷ 4 ∷ [])
    -- three others with 3, 2 and 1: the highest pays, and its line becomes empty
    ∷ payment (3 ∷ 4 ∷ 2 ∷ 1 ∷ []) 1 (3 ∷ 4 ∷ 2 ∷ 0 ∷ [])
    -- the writer's own counter, 1, is the smallest of all: of the others, with 3 and 2, the weakest pays
    ∷ payment (1 ∷ 3 ∷ 2 ∷ []) 0 (4 ∷ 3 ∷ 1 ∷ [])
    -- a counter of 1 in the same line is block 1's, not block 9's, of which others have 3 and 2
    ∷ session_from (copy 1 1 1 0 (0 ∷ 0 ∷ 7 ∷ 0 ∷ []) ∷ copy 9 9 3 0 (0 ∷ 5 ∷ 0 ∷ 0 ∷ []) ∷ copy 17 9 4 0 (0 ∷ 5 ∷ 0 ∷ 0 ∷ []) ∷ copy 25 9 2 0 (0 ∷ 5 ∷ 0 ∷ 0 ∷ []) ∷ []) (cell 6 7 ∷ cell 37 5 ∷ []) (record {
      setup = usual;
      account = account 0 0 0 0;
      before = [];
      requests = write 2 38 6 ∷ [];
      values = 6 ∷ [];
      answer = answered 1 0 0;
      cost = cost 0 0 1;
      left = account 1 0 0 1;
      changes = true;
      lines = copy 1 1 1 0 (0 ∷ 0 ∷ 7 ∷ 0 ∷ []) ∷ copy 9 9 3 0 (0 ∷ 5 ∷ 6 ∷ 0 ∷ []) ∷ copy 17 9 4 0 (0 ∷ 5 ∷ 6 ∷ 0 ∷ []) ∷ copy 25 9 1 0 (0 ∷ 5 ∷ 6 ∷ 0 ∷ []) ∷ [];
      memory = cell 6 7 ∷ cell 37 5 ∷ cell 38 6 ∷ [];
    })
    -- eight holders: the writer has 1, and of the others the highest processor has the smallest counter
    ∷ session_from (copy 0 1 8 0 (3 ∷ []) ∷ copy 1 1 7 0 (3 ∷ []) ∷ copy 2 1 6 0 (3 ∷ []) ∷ copy 3 1 5 0 (3 ∷ []) ∷ copy 4 1 4 0 (3 ∷ []) ∷ copy 5 1 3 0 (3 ∷ []) ∷ copy 6 1 1 0 (3 ∷ []) ∷ copy 7 1 2 0 (3 ∷ []) ∷ []) (cell 1 3 ∷ []) (record {
      setup = priced_board 8 1 1 2 8 1;
      account = account 0 0 0 0;
      before = [];
      requests = write 6 1 4 ∷ [];
      values = 4 ∷ [];
      answer = answered 1 0 0;
      cost = cost 0 0 1;
      left = account 1 0 0 1;
      changes = true;
      lines = copy 0 1 8 0 (4 ∷ []) ∷ copy 1 1 7 0 (4 ∷ []) ∷ copy 2 1 6 0 (4 ∷ []) ∷ copy 3 1 5 0 (4 ∷ []) ∷ copy 4 1 4 0 (4 ∷ []) ∷ copy 5 1 3 0 (4 ∷ []) ∷ copy 6 1 8 0 (4 ∷ []) ∷ copy 7 1 1 0 (4 ∷ []) ∷ [];
      memory = cell 1 4 ∷ [];
    })
    -- each write charges whoever is then the weakest: two writes by 3, then one by 1
    ∷ session_from (copy 1 9 4 0 (0 ∷ 5 ∷ 0 ∷ 0 ∷ []) ∷ copy 9 9 3 0 (0 ∷ 5 ∷ 0 ∷ 0 ∷ []) ∷ copy 17 9 2 0 (0 ∷ 5 ∷ 0 ∷ 0 ∷ []) ∷ copy 25 9 4 0 (0 ∷ 5 ∷ 0 ∷ 0 ∷ []) ∷ []) (cell 37 5 ∷ []) (record {
      setup = usual;
      account = account 0 0 0 0;
      before = [];
      requests = write 3 38 6 ∷ write 3 38 7 ∷ write 1 38 8 ∷ [];
      values = 6 ∷ 7 ∷ 8 ∷ [];
      answer = answered 3 0 0;
      cost = cost 0 0 3;
      left = account 3 0 0 3;
      changes = true;
      lines = copy 1 9 3 0 (0 ∷ 5 ∷ 8 ∷ 0 ∷ []) ∷ copy 9 9 4 0 (0 ∷ 5 ∷ 8 ∷ 0 ∷ []) ∷ copy 25 9 4 0 (0 ∷ 5 ∷ 8 ∷ 0 ∷ []) ∷ [];
      memory = cell 37 5 ∷ cell 38 8 ∷ [];
    })
    -- ---- document 02, P6
    -- two marked blocks and an unmarked one, in lines 0, 7 and 2, are cleared: g for each marked one, whose words memory takes; another's copy stays
    ∷ session (record {
      setup = usual;
      account = account 0 0 0 0;
      before = write 0 3 7 ∷ write 0 61 5 ∷ write 1 10 6 ∷ read 0 10 ∷ [];
      requests = clear 0 ∷ [];
      values = 0 ∷ [];
      answer = answered 1 0 0;
      cost = cost 0 8 0;
      left = account 5 16 8 0;
      changes = true;
      lines = copy 10 2 4 0 (0 ∷ 0 ∷ 6 ∷ 0 ∷ []) ∷ [];
      memory = cell 3 7 ∷ cell 61 5 ∷ cell 10 6 ∷ [];
    })
    -- an empty cache is cleared: nothing changes, and another's marked block stays
    ∷ session (record {
      setup = usual;
      account = account 0 0 0 0;
      before = write 1 39 7 ∷ [];
      requests = clear 0 ∷ [];
      values = 0 ∷ [];
      answer = answered 1 0 0;
      cost = cost 0 0 0;
      left = account 2 4 0 0;
      changes = false;
      lines = copy 9 9 4 1 (0 ∷ 0 ∷ 0 ∷ 7 ∷ []) ∷ [];
      memory = [];
    })
    -- a shared block is cleared from 0; then 1 writes alone, and marks
    ∷ session (record {
      setup = usual;
      account = account 0 0 0 0;
      before = read 0 39 ∷ read 1 39 ∷ [];
      requests = clear 0 ∷ write 1 37 7 ∷ [];
      values = 0 ∷ 7 ∷ [];
      answer = answered 2 0 0;
      cost = cost 0 0 0;
      left = account 4 8 0 0;
      changes = true;
      lines = copy 9 9 4 1 (0 ∷ 7 ∷ 0 ∷ 0 ∷ []) ∷ [];
      memory = [];
    })
    -- the last value is read again after a clear, by the same processor and by another
    ∷ session (record {
      setup = usual;
      account = account 0 0 0 0;
      before = write 0 37 7 ∷ [];
      requests = clear 0 ∷ read 0 37 ∷ read 2 37 ∷ [];
      values = 0 ∷ 7 ∷ 7 ∷ [];
      answer = answered 3 0 0;
      cost = cost 8 4 0;
      left = account 4 12 4 0;
      changes = true;
      lines = copy 1 9 4 0 (0 ∷ 7 ∷ 0 ∷ 0 ∷ []) ∷ copy 17 9 4 0 (0 ∷ 7 ∷ 0 ∷ 0 ∷ []) ∷ [];
      memory = cell 37 7 ∷ [];
    })
    -- a second clear finds nothing
    ∷ session (record {
      setup = usual;
      account = account 0 0 0 0;
      before = write 3 37 7 ∷ clear 3 ∷ [];
      requests = clear 3 ∷ [];
      values = 0 ∷ [];
      answer = answered 1 0 0;
      cost = cost 0 0 0;
      left = account 3 4 4 0;
      changes = false;
      lines = [];
      memory = cell 37 7 ∷ [];
    })
    -- every line is written back, from an account at its limits; g is not f, and the marked block of the same line elsewhere stays
    ∷ session (record {
      setup = dear_fetch;
      account = account 1 5 6 1;
      before = write 1 8 6 ∷ write 1 3 5 ∷ write 0 5 4 ∷ [];
      requests = clear 1 ∷ [];
      values = 0 ∷ [];
      answer = answered 1 0 0;
      cost = cost 0 6 0;
      left = account 5 20 12 1;
      changes = true;
      lines = copy 0 2 5 1 (0 ∷ 4 ∷ []) ∷ [];
      memory = cell 8 6 ∷ cell 3 5 ∷ [];
    })
    -- a line's own counter plays no part: a copy that has paid is emptied like a full one
    ∷ session (record {
      setup = usual;
      account = account 0 0 0 0;
      before = read 0 39 ∷ read 1 39 ∷ write 1 37 7 ∷ [];
      requests = clear 0 ∷ [];
      values = 0 ∷ [];
      answer = answered 1 0 0;
      cost = cost 0 0 0;
      left = account 4 8 0 1;
      changes = true;
      lines = copy 9 9 4 0 (0 ∷ 7 ∷ 0 ∷ 0 ∷ []) ∷ [];
      memory = cell 37 7 ∷ [];
    })
    -- more lines than blocks
    ∷ session (record {
      setup = board 2 7 2 3;
      account = account 0 0 0 0;
      before = write 1 5 6 ∷ write 1 1 4 ∷ [];
      requests = clear 1 ∷ [];
      values = 0 ∷ [];
      answer = answered 1 0 0;
      cost = cost 0 4 0;
      left = account 3 4 4 0;
      changes = true;
      lines = [];
      memory = cell 5 6 ∷ cell 1 4 ∷ [];
    })
    -- 3: processor not below N, and it stops the run; the last one below N was taken
    ∷ session (record {
      setup = usual;
      account = account 0 0 0 0;
      before = write 3 37 7 ∷ [];
      requests = clear 3 ∷ clear 4 ∷ read 0 0 ∷ [];
      values = 0 ∷ 9 ∷ 9 ∷ [];
      answer = answered 1 3 1;
      cost = cost 0 4 0;
      left = account 2 4 4 0;
      changes = true;
      lines = [];
      memory = cell 37 7 ∷ [];
    })
    -- 3 before 22
    ∷ session (record {
      setup = usual;
      account = account 1000000 0 0 0;
      before = [];
      requests = clear 4 ∷ [];
      values = 9 ∷ [];
      answer = answered 0 3 0;
      cost = cost 0 0 0;
      left = account 1000000 0 0 0;
      changes = false;
      lines = [];
      memory = [];
    })
    -- at 999,999 a clear is taken; then 22
    ∷ session (record {
      setup = usual;
      account = account 999998 0 0 0;
      before = write 3 37 7 ∷ [];
      requests = clear 2 ∷ clear 3 ∷ [];
      values = 0 ∷ 9 ∷ [];
      answer = answered 1 22 1;
      cost = cost 0 0 0;
      left = account 1000000 4 0 0;
      changes = false;
      lines = copy 25 9 4 1 (0 ∷ 7 ∷ 0 ∷ 0 ∷ []) ∷ [];
      memory = [];
    })
    -- the most write-back cycles that an account can have: 64 lines at the highest price for each of 1,000,000 requests; 22 meets a clear, and 21 does not
    ∷ session (record {
      setup = priced_board 1 64 1 1 32 32;
      account = account 1000000 32000000 2048000000 1000000;
      before = [];
      requests = clear 0 ∷ [];
      values = 9 ∷ [];
      answer = answered 0 22 0;
      cost = cost 0 0 0;
      left = account 1000000 32000000 2048000000 1000000;
      changes = false;
      lines = [];
      memory = [];
    })
    -- 21: one write-back cycle more
    ∷ session (record {
      setup = priced_board 1 64 1 1 32 32;
      account = account 1000000 0 2048000001 0;
      before = [];
      requests = clear 0 ∷ [];
      values = 9 ∷ [];
      answer = answered 0 21 0;
      cost = cost 0 0 0;
      left = account 1000000 0 2048000001 0;
      changes = false;
      lines = [];
      memory = [];
    })
    -- a rival completes a clear of an empty cache for nothing: 27 cannot apply
    ∷ quote (record {
      setup = small;
      requests = clear 0 ∷ [];
      entries = Complete ∷ [];
      number = 0;
      place = 0;
      cost = 0;
      blocks = 0 ∷ 0 ∷ 0 ∷ 0 ∷ [];
      held = 0 ∷ 0 ∷ 0 ∷ 0 ∷ [];
      marks = 0 ∷ 0 ∷ 0 ∷ 0 ∷ [];
    })
    -- after a write-back and a drop: f and g, and 0 for the clear
    ∷ quote (record {
      setup = dear_fetch;
      requests = write 1 6 5 ∷ clear 1 ∷ [];
      entries = fetch_entry 1 3 ∷ Complete ∷ write_back_entry 1 3 ∷ drop_entry 1 3 ∷ Complete ∷ [];
      number = 0;
      place = 0;
      cost = 8;
      blocks = 0 ∷ 0 ∷ 0 ∷ 0 ∷ [];
      held = 0 ∷ 0 ∷ 0 ∷ 0 ∷ [];
      marks = 0 ∷ 0 ∷ 0 ∷ 0 ∷ [];
    })
    -- another's cache may hold blocks, and keeps its mark
    ∷ quote (record {
      setup = small;
      requests = write 1 10 5 ∷ clear 0 ∷ [];
      entries = fetch_entry 1 3 ∷ Complete ∷ Complete ∷ [];
      number = 0;
      place = 0;
      cost = 3;
      blocks = 0 ∷ 0 ∷ 0 ∷ 3 ∷ [];
      held = 0 ∷ 0 ∷ 0 ∷ 1 ∷ [];
      marks = 0 ∷ 0 ∷ 0 ∷ 1 ∷ [];
    })
    -- a cleared cache may be filled again at once
    ∷ quote (record {
      setup = small;
      requests = clear 1 ∷ read 1 10 ∷ [];
      entries = Complete ∷ fetch_entry 1 3 ∷ Complete ∷ [];
      number = 0;
      place = 0;
      cost = 3;
      blocks = 0 ∷ 0 ∷ 0 ∷ 3 ∷ [];
      held = 0 ∷ 0 ∷ 0 ∷ 1 ∷ [];
      marks = 0 ∷ 0 ∷ 0 ∷ 0 ∷ [];
    })
    -- 29: the last line holds a block
    ∷ refused_at small (clear 1 ∷ []) (fetch_entry 1 3 ∷ Complete ∷ []) 29 1
    -- 29: line 0 does, and it is block 0
    ∷ refused_at small (clear 1 ∷ []) (fetch_entry 1 0 ∷ Complete ∷ []) 29 1
    -- 29: a marked block, written back but not dropped
    ∷ refused_at small (write 0 10 5 ∷ clear 0 ∷ []) (fetch_entry 0 3 ∷ Complete ∷ write_back_entry 0 3 ∷ Complete ∷ []) 29 3
    -- 29: one of two blocks is dropped
    ∷ refused_at small (clear 0 ∷ []) (fetch_entry 0 2 ∷ fetch_entry 0 3 ∷ drop_entry 0 3 ∷ Complete ∷ drop_entry 0 2 ∷ []) 29 3
    -- 29 before 28
    ∷ refused_at small (clear 1 ∷ clear 1 ∷ []) (fetch_entry 1 3 ∷ Complete ∷ []) 29 1
    -- 9: a clear of an empty cache by broadcast
    ∷ refused_at small (clear 1 ∷ []) (CompleteByBroadcast ∷ []) 9 0
    -- 9 before 29
    ∷ refused_at small (clear 1 ∷ []) (fetch_entry 1 3 ∷ CompleteByBroadcast ∷ []) 9 1
    -- 3 before 9
    ∷ refused_at small (clear 2 ∷ []) (CompleteByBroadcast ∷ []) 3 0
    -- 3 at a clear completed plainly
    ∷ refused_at small (clear 2 ∷ []) (Complete ∷ []) 3 0
    -- 26 after a clear
    ∷ refused_at small (clear 0 ∷ []) (Complete ∷ Complete ∷ []) 26 1
    -- 28: a clear is left
    ∷ refused_at small (clear 0 ∷ []) [] 28 0
    -- a marked block cleared, g equal to f: write-back cycles are all of the schedule's fetch plus update cycles
    ∷ split (record {
      setup = priced_board 1 1 2 3 4 4;
      requests = write 0 0 4 ∷ clear 0 ∷ write 0 2 5 ∷ clear 0 ∷ [];
      entries = fetch_entry 0 0 ∷ Complete ∷ write_back_entry 0 0 ∷ drop_entry 0 0 ∷ Complete ∷ fetch_entry 0 1 ∷ Complete ∷ write_back_entry 0 1 ∷ drop_entry 0 1 ∷ Complete ∷ [];
      spends = cost 8 8 0;
      pays = cost 8 8 0;
      sum = 8;
    })
    -- a schedule that leaves no mark has nothing to write back
    ∷ split (record {
      setup = dear_fetch;
      requests = write 0 2 4 ∷ clear 0 ∷ [];
      entries = fetch_entry 0 1 ∷ CompleteByBroadcast ∷ drop_entry 0 1 ∷ Complete ∷ [];
      spends = cost 5 3 0;
      pays = cost 5 0 1;
      sum = 6;
    })
    -- ---- document 02, P7
    -- true masks: block 1 is processor 0's, block 3 that of 1 and 2, block 4 is 2's
    ∷ masks_lent (0 ∷ 1 ∷ 0 ∷ 6 ∷ 4 ∷ []) fresh_account 0 0
    -- 20: a bit is missing; a look is lent no masks, and starting finds none false
    ∷ masks_lent (0 ∷ 1 ∷ 0 ∷ 2 ∷ 4 ∷ []) fresh_account 20 0
    -- 20: every bit of a held block is missing
    ∷ masks_lent (0 ∷ 0 ∷ 0 ∷ 6 ∷ 4 ∷ []) fresh_account 20 0
    -- 20: a bit of a processor that holds another block of the line
    ∷ masks_lent (0 ∷ 1 ∷ 0 ∷ 7 ∷ 4 ∷ []) fresh_account 20 0
    -- 20: a bit of a processor whose line is empty
    ∷ masks_lent (0 ∷ 1 ∷ 0 ∷ 6 ∷ 6 ∷ []) fresh_account 20 0
    -- 20: a bit at N
    ∷ masks_lent (0 ∷ 1 ∷ 0 ∷ 14 ∷ 4 ∷ []) fresh_account 20 0
    -- 20: the last bit of the last byte
    ∷ masks_lent (0 ∷ 1 ∷ 0 ∷ 6 ∷ 132 ∷ []) fresh_account 20 0
    -- 20: a bit for a block that nobody holds
    ∷ masks_lent (0 ∷ 1 ∷ 4 ∷ 6 ∷ 4 ∷ []) fresh_account 20 0
    -- 20: a bit for block 0, whose number empty lines show
    ∷ masks_lent (1 ∷ 1 ∷ 0 ∷ 6 ∷ 4 ∷ []) fresh_account 20 0
    -- 20: the masks of two blocks in each other's place
    ∷ masks_lent (0 ∷ 1 ∷ 0 ∷ 4 ∷ 6 ∷ []) fresh_account 20 0
    -- 2: a mask too few
    ∷ masks_lent (0 ∷ 1 ∷ 0 ∷ 6 ∷ []) fresh_account 2 2
    -- 2: a mask too many
    ∷ masks_lent (0 ∷ 1 ∷ 0 ∷ 6 ∷ 4 ∷ 0 ∷ []) fresh_account 2 2
    -- 20, by a false mask, before 21
    ∷ masks_lent (0 ∷ 1 ∷ 0 ∷ 4 ∷ 4 ∷ []) (account 1 6 0 0) 20 0
    -- 21 with true masks
    ∷ masks_lent (0 ∷ 1 ∷ 0 ∷ 6 ∷ 4 ∷ []) (account 1 6 0 0) 21 0
    -- 2, by the masks, before 20 by a counter over f
    ∷ lent_masks (record {
      setup = three_caches;
      account = fresh_account;
      values = 9 ∷ [];
      run_refusal = 2;
      start_refusal = 2;
      tables = holding three_caches (copy 3 3 6 0 (5 ∷ 6 ∷ []) ∷ []) (cell 6 5 ∷ cell 7 6 ∷ []);
      processor = 1;
      block = 3;
      seen = 5 ∷ 6 ∷ [];
    }) (0 ∷ 0 ∷ 0 ∷ 2 ∷ 0 ∷ 0 ∷ [])
    -- 10 before 2 by the masks
    ∷ lent_masks (record {
      setup = priced_board 3 2 2 5 33 3;
      account = fresh_account;
      values = 9 ∷ [];
      run_refusal = 10;
      start_refusal = 10;
      tables = holding three_caches held_lines held_memory;
      processor = 1;
      block = 3;
      seen = [];
    }) (0 ∷ 1 ∷ 0 ∷ 6 ∷ [])
    -- starting on old contents and false masks: every mask is 0
    ∷ begun three_caches (masked (holding three_caches held_lines held_memory) (255 ∷ 1 ∷ 4 ∷ 7 ∷ 128 ∷ []))
    (masked (tables (0 ∷ 0 ∷ 0 ∷ 0 ∷ 0 ∷ 0 ∷ []) (0 ∷ 0 ∷ 0 ∷ 0 ∷ 0 ∷ 0 ∷ []) (0 ∷ 0 ∷ 0 ∷ 0 ∷ 0 ∷ 0 ∷ []) (0 ∷ 0 ∷ 0 ∷ 0 ∷ 0 ∷ 0 ∷ 0 ∷ 0 ∷ 0 ∷ 0 ∷ 0 ∷ 0 ∷ []) (0 ∷ 0 ∷ 0 ∷ 0 ∷ 0 ∷ 0 ∷ 0 ∷ 0 ∷ 0 ∷ 0 ∷ [])) (0 ∷ 0 ∷ 0 ∷ 0 ∷ 0 ∷ []))
    -- a miss: the bit of the new holder comes, the old owner's stays; a request that is refused after it changes no mask
    ∷ session_masks held_lines held_memory (0 ∷ 1 ∷ 0 ∷ 6 ∷ 4 ∷ []) (record {
      setup = three_caches;
      account = account 0 0 0 0;
      before = [];
      requests = read 1 9 ∷ clear 3 ∷ [];
      values = 2 ∷ 9 ∷ [];
      answer = answered 1 3 1;
      cost = cost 5 0 0;
      left = account 1 5 0 0;
      changes = true;
      lines = copy 1 1 3 0 (7 ∷ 8 ∷ []) ∷ copy 2 4 5 0 (9 ∷ 2 ∷ []) ∷ copy 3 3 2 0 (5 ∷ 6 ∷ []) ∷ copy 4 4 5 0 (9 ∷ 2 ∷ []) ∷ copy 5 3 4 0 (5 ∷ 6 ∷ []) ∷ [];
      memory = cell 2 7 ∷ cell 3 8 ∷ cell 6 5 ∷ cell 7 6 ∷ cell 8 9 ∷ cell 9 2 ∷ [];
    }) (0 ∷ 1 ∷ 0 ∷ 6 ∷ 6 ∷ [])
    -- a block in the way leaves, an unmarked one and a marked one: its bit goes, and the new block's comes
    ∷ session_masks held_lines held_memory (0 ∷ 1 ∷ 0 ∷ 6 ∷ 4 ∷ []) (record {
      setup = three_caches;
      account = account 0 0 0 0;
      before = [];
      requests = read 2 2 ∷ read 2 5 ∷ [];
      values = 7 ∷ 0 ∷ [];
      answer = answered 2 0 0;
      cost = cost 10 3 0;
      left = account 2 10 3 0;
      changes = true;
      lines = copy 1 1 3 0 (7 ∷ 8 ∷ []) ∷ copy 3 3 2 0 (5 ∷ 6 ∷ []) ∷ copy 4 2 5 0 (0 ∷ 0 ∷ []) ∷ copy 5 1 5 0 (7 ∷ 8 ∷ []) ∷ [];
      memory = cell 2 7 ∷ cell 3 8 ∷ cell 6 5 ∷ cell 7 6 ∷ cell 8 9 ∷ cell 9 2 ∷ [];
    }) (0 ∷ 5 ∷ 4 ∷ 2 ∷ 0 ∷ [])
    -- a broadcast that empties no line changes no mask
    ∷ session_masks held_lines held_memory (0 ∷ 1 ∷ 0 ∷ 6 ∷ 4 ∷ []) (record {
      setup = three_caches;
      account = account 0 0 0 0;
      before = [];
      requests = write 2 6 9 ∷ [];
      values = 9 ∷ [];
      answer = answered 1 0 0;
      cost = cost 0 0 1;
      left = account 1 0 0 1;
      changes = true;
      lines = copy 1 1 3 0 (7 ∷ 8 ∷ []) ∷ copy 3 3 1 0 (9 ∷ 6 ∷ []) ∷ copy 4 4 5 1 (9 ∷ 2 ∷ []) ∷ copy 5 3 5 0 (9 ∷ 6 ∷ []) ∷ [];
      memory = cell 2 7 ∷ cell 3 8 ∷ cell 6 9 ∷ cell 7 6 ∷ cell 8 1 ∷ cell 9 1 ∷ [];
    }) (0 ∷ 1 ∷ 0 ∷ 6 ∷ 4 ∷ [])
    -- the next one empties the payer's line, and its bit goes
    ∷ session_masks held_lines held_memory (0 ∷ 1 ∷ 0 ∷ 6 ∷ 4 ∷ []) (record {
      setup = three_caches;
      account = account 0 0 0 0;
      before = [];
      requests = write 2 6 9 ∷ write 2 7 3 ∷ [];
      values = 9 ∷ 3 ∷ [];
      answer = answered 2 0 0;
      cost = cost 0 0 2;
      left = account 2 0 0 2;
      changes = true;
      lines = copy 1 1 3 0 (7 ∷ 8 ∷ []) ∷ copy 4 4 5 1 (9 ∷ 2 ∷ []) ∷ copy 5 3 5 0 (9 ∷ 3 ∷ []) ∷ [];
      memory = cell 2 7 ∷ cell 3 8 ∷ cell 6 9 ∷ cell 7 3 ∷ cell 8 1 ∷ cell 9 1 ∷ [];
    }) (0 ∷ 1 ∷ 0 ∷ 4 ∷ 4 ∷ [])
    -- a clear: its bits go from every mask, and no other's
    ∷ session_masks held_lines held_memory (0 ∷ 1 ∷ 0 ∷ 6 ∷ 4 ∷ []) (record {
      setup = three_caches;
      account = account 0 0 0 0;
      before = [];
      requests = clear 2 ∷ [];
      values = 0 ∷ [];
      answer = answered 1 0 0;
      cost = cost 0 3 0;
      left = account 1 0 3 0;
      changes = true;
      lines = copy 1 1 3 0 (7 ∷ 8 ∷ []) ∷ copy 3 3 2 0 (5 ∷ 6 ∷ []) ∷ [];
      memory = cell 2 7 ∷ cell 3 8 ∷ cell 6 5 ∷ cell 7 6 ∷ cell 8 9 ∷ cell 9 2 ∷ [];
    }) (0 ∷ 1 ∷ 0 ∷ 2 ∷ 0 ∷ [])
    -- from fresh tables and masks
    ∷ session_masks [] [] (0 ∷ 0 ∷ 0 ∷ 0 ∷ 0 ∷ []) (record {
      setup = three_caches;
      account = account 0 0 0 0;
      before = [];
      requests = read 1 7 ∷ write 2 6 9 ∷ [];
      values = 0 ∷ 9 ∷ [];
      answer = answered 2 0 0;
      cost = cost 10 0 1;
      left = account 2 10 0 1;
      changes = true;
      lines = copy 3 3 4 0 (9 ∷ 0 ∷ []) ∷ copy 5 3 5 0 (9 ∷ 0 ∷ []) ∷ [];
      memory = cell 6 9 ∷ [];
    }) (0 ∷ 0 ∷ 0 ∷ 6 ∷ 0 ∷ [])
    -- N 8: all eight bits; the last one goes as its line becomes empty, and comes for another block
    ∷ session_masks (copy 1 3 3 0 (4 ∷ []) ∷ copy 3 3 3 0 (4 ∷ []) ∷ copy 5 3 3 0 (4 ∷ []) ∷ copy 7 3 3 0 (4 ∷ []) ∷ copy 9 3 3 0 (4 ∷ []) ∷ copy 11 3 3 0 (4 ∷ []) ∷ copy 13 3 2 0 (4 ∷ []) ∷ copy 15 3 1 0 (4 ∷ []) ∷ []) (cell 3 4 ∷ []) (0 ∷ 0 ∷ 0 ∷ 255 ∷ 0 ∷ []) (record {
      setup = priced_board 8 2 1 5 3 2;
      account = account 0 0 0 0;
      before = [];
      requests = write 5 3 6 ∷ read 7 1 ∷ [];
      values = 6 ∷ 0 ∷ [];
      answer = answered 2 0 0;
      cost = cost 3 0 1;
      left = account 2 3 0 1;
      changes = true;
      lines = copy 1 3 3 0 (6 ∷ []) ∷ copy 3 3 3 0 (6 ∷ []) ∷ copy 5 3 3 0 (6 ∷ []) ∷ copy 7 3 3 0 (6 ∷ []) ∷ copy 9 3 3 0 (6 ∷ []) ∷ copy 11 3 3 0 (6 ∷ []) ∷ copy 13 3 2 0 (6 ∷ []) ∷ copy 15 1 3 0 (0 ∷ []) ∷ [];
      memory = cell 3 6 ∷ [];
    }) (0 ∷ 128 ∷ 0 ∷ 127 ∷ 0 ∷ [])
    ∷ []
