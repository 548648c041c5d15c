-- The positions of document 02, P8, as numbers: "marks, copies and requests served"; and what each entry does there.
use Rattle.std.specs.Prelude.{ℕ, zero, suc, ◌+◌, ◌-◌, ◌*◌, ◌/◌, ◌%◌, Bool, true, not, ◌&&◌, cond, List, [], ◌∷◌, length, ltb, eqb}
use Rattle.protocol_types.specs.Lists.{at, first, all}
use Rattle.protocol_types.specs.Board.{slots, slot, block_of, line_of, fetch_price, write_back_price}
use Rattle.protocol.specs.Rival.{Rival, rival, keeps}
use Rattle.protocol_types.specs.declared.Setup.{Setup}
use Rattle.protocol_types.specs.declared.Block.{Block}
use Rattle.protocol_types.specs.declared.Request.{Request}
use Rattle.protocol_types.specs.declared.Operation.{Operation}
use Rattle.protocol_types.specs.declared.Operation.TheVariants.{Read, Write, Clear}
use Rattle.protocol_types.specs.declared.Entry.{Entry}
use Rattle.protocol_types.specs.declared.Entry.TheVariants.{Fetch, WriteBack, Drop, Complete, CompleteByBroadcast}
use Rattle.best_search.specs.Search.{Graph}

-- ---- a block's state: 0 no copy, 1 + i a copy in processor i alone, 3 copies in both, 4 + i marked in processor i

abbrev pub block_no : ℕ → Block
block_no b = record { 0 = b }

unfoldable pub marks : Setup → Rival → ℕ → Block → Bool
marks s r i b = eqb (at r.marks (slot s i b)) 1

unfoldable pub state_of : Bool → Bool → Bool → Bool → ℕ
state_of here marked-here there marked-there = cond here (cond there 3 (cond marked-here 4 1)) (cond there (cond marked-there 5 2) 0)

unfoldable pub block_state : Setup → Rival → Block → ℕ
block_state s r b = state_of (keeps s r 0 b) (marks s r 0 b) (keeps s r 1 b) (marks s r 1 b)

-- a block in this state has a copy in processor i
unfoldable pub has : ℕ → ℕ → Bool
has i d = cond (eqb d (1 + i)) true (cond (eqb d 3) true (eqb d (4 + i)))

-- ---- the number of a position: a digit for each block, and the requests served

-- these copies after n requests
unfoldable pub number : Setup → Rival → ℕ → ℕ
number s r n =
    block_state s r (block_no 0) + 6 * block_state s r (block_no 1) + 36 * block_state s r (block_no 2) + 216 * block_state s r (block_no 3) + 1296 * n

unfoldable pub weight : ℕ → ℕ
weight b = cond (eqb b 0) 1 (cond (eqb b 1) 6 (cond (eqb b 2) 36 216))

unfoldable pub digit : ℕ → ℕ → ℕ
digit u b = u / weight b % 6

unfoldable pub served_of : ℕ → ℕ
served_of u = u / 1296

-- position u with d for the digit of block b
unfoldable pub with_digit : ℕ → ℕ → ℕ → ℕ
with_digit u b d = u - digit u b * weight b + d * weight b

-- block c stands in line l of processor i
abbrev pub stands_in : Setup → ℕ → ℕ → ℕ → ℕ → Bool
stands_in s u i l c = eqb (line_of s (block_no c)) l && has i (digit u c)

-- the block in line l of processor i; the number of blocks if that line is empty
unfoldable pub in_line : Setup → ℕ → ℕ → ℕ → ℕ
in_line s u i l = first s.blocks (stands_in s u i l)

-- no block has a copy in processor i
unfoldable pub holds_none : ℕ → ℕ → Bool
holds_none u i = all 4 (λ b. not (has i (digit u b)))

-- ---- a request as a number: 4 times its block, 2 for a write, and its processor; a clear is 16 and its processor

abbrev pub asked_by : Setup → ℕ → Operation → ℕ
asked_by s i (Read v) = 4 * (block_of s v).0 + i
asked_by s i (Write v x) = 4 * (block_of s v).0 + 2 + i
asked_by s i Clear = 16 + i

unfoldable pub asked : Setup → Request → ℕ
asked s q = asked_by s q.processor q.operation

abbrev pub asked_all : Setup → List Request → List ℕ
asked_all s [] = []
asked_all s (q ∷ qs) = asked s q ∷ asked_all s qs

-- ---- a fetch, a write-back or a drop by processor i of block b, whose digit is d

unfoldable pub move_legal : Setup → ℕ → ℕ → ℕ → Bool → Bool
move_legal s u i b dropped =
    ltb b s.blocks && cond dropped (has i (digit u b) && not (eqb (digit u b) (4 + i))) (cond (has i (digit u b)) true (not (ltb (in_line s u i (line_of s (block_no b))) s.blocks)))

unfoldable pub fetched_state : ℕ → ℕ → ℕ
fetched_state i d = cond (eqb d 0) (1 + i) 3

unfoldable pub written_back_state : ℕ → ℕ → ℕ
written_back_state i d = cond (eqb d (4 + i)) (1 + i) d

unfoldable pub dropped_state : ℕ → ℕ → ℕ
dropped_state i d = cond (eqb d 3) (2 - i) 0

unfoldable pub moved_state : ℕ → ℕ → Bool → ℕ
moved_state i d dropped = cond dropped (dropped_state i d) (cond (has i d) (written_back_state i d) (fetched_state i d))

unfoldable pub move_price : Setup → ℕ → ℕ → Bool → ℕ
move_price s i d dropped = cond dropped 0 (cond (has i d) (write_back_price s) (fetch_price s))

-- ---- the completion of request a

-- a read or a write needs the block, and only a write is completed by broadcast; a clear needs an empty cache
unfoldable pub completion_legal : ℕ → ℕ → Bool → Bool
completion_legal u a by_broadcast =
    cond (ltb a 16)
    (has (a % 2) (digit u (a / 4)) && cond by_broadcast (eqb (a / 2 % 2) 1) true)
    (not by_broadcast && holds_none u (a % 2))

unfoldable pub completed_state : ℕ → ℕ → ℕ
completed_state a d = cond (eqb (a / 2 % 2) 1 && not (eqb d 3)) (4 + a % 2) d

unfoldable pub completed : ℕ → ℕ → Bool → ℕ
completed u a by_broadcast =
    cond (ltb a 16 && not by_broadcast) (with_digit u (a / 4) (completed_state a (digit u (a / 4))) + 1296) (u + 1296)

unfoldable pub completion_price : ℕ → ℕ → Bool → ℕ
completion_price u a by_broadcast =
    cond (ltb a 16 && eqb (a / 2 % 2) 1 && cond by_broadcast true (eqb (digit u (a / 4)) 3)) 1 0

-- ---- the entries of a position by numbers below 18: 8 times the processor, 2 times the block, and 1 for a drop; 16 and 17 complete

abbrev pub moving_processor : ℕ → ℕ
moving_processor k = k / 8

abbrev pub moved_block : ℕ → ℕ
moved_block k = k / 2 % 4

abbrev pub is_drop : ℕ → Bool
is_drop k = eqb (k % 2) 1

unfoldable pub entry_of : ℕ → ℕ → Entry
entry_of u k =
    cond (ltb k 16)
    (cond (is_drop k) (Drop (moving_processor k) (block_no (moved_block k)))
    (cond (has (moving_processor k) (digit u (moved_block k))) (WriteBack (moving_processor k) (block_no (moved_block k))) (Fetch (moving_processor k) (block_no (moved_block k)))))
    (cond (eqb k 16) Complete CompleteByBroadcast)

-- an entry as a number that tells all: 18 more for a write-back
unfoldable pub entry_number : ℕ → ℕ → ℕ
entry_number u k = cond (ltb k 16) (cond (is_drop k) k (cond (has (moving_processor k) (digit u (moved_block k))) (k + 18) k)) k

unfoldable pub entry_from : ℕ → Entry
entry_from n =
    cond (ltb n 16) (cond (is_drop n) (Drop (moving_processor n) (block_no (moved_block n))) (Fetch (moving_processor n) (block_no (moved_block n))))
    (cond (eqb n 16) Complete (cond (eqb n 17) CompleteByBroadcast (WriteBack (moving_processor (n - 18)) (block_no (moved_block (n - 18))))))

-- the number that tells an entry
abbrev pub number_of : Entry → ℕ
number_of (Fetch i b) = 8 * i + 2 * b.0
number_of (WriteBack i b) = 8 * i + 2 * b.0 + 18
number_of (Drop i b) = 8 * i + 2 * b.0 + 1
number_of Complete = 16
number_of CompleteByBroadcast = 17

abbrev pub numbers_of : List Entry → List ℕ
numbers_of [] = []
numbers_of (e ∷ es) = number_of e ∷ numbers_of es

abbrev pub entries_from : List ℕ → List Entry
entries_from [] = []
entries_from (n ∷ ns) = entry_from n ∷ entries_from ns

unfoldable pub legal_at : Setup → List ℕ → ℕ → ℕ → Bool
legal_at s asks u k =
    cond (ltb k 16) (move_legal s u (moving_processor k) (moved_block k) (is_drop k))
    (ltb (served_of u) (length asks) && completion_legal u (at asks (served_of u)) (eqb k 17))

unfoldable pub next_at : List ℕ → ℕ → ℕ → ℕ
next_at asks u k =
    cond (ltb k 16) (with_digit u (moved_block k) (moved_state (moving_processor k) (digit u (moved_block k)) (is_drop k)))
    (completed u (at asks (served_of u)) (eqb k 17))

unfoldable pub price_at : Setup → List ℕ → ℕ → ℕ → ℕ
price_at s asks u k =
    cond (ltb k 16) (move_price s (moving_processor k) (digit u (moved_block k)) (is_drop k))
    (completion_price u (at asks (served_of u)) (eqb k 17))

-- 25 layers, one for each number of requests served, of 6 × 6 × 6 × 6 positions
unfoldable pub board : Setup → List ℕ → Graph
board s asks = record {
  layers = 25;
  width = 1296;
  codes = 18;
  legal = legal_at s asks;
  next = next_at asks;
  price = price_at s asks;
  final = λ u. eqb (served_of u) (length asks);
}

-- ---- the copies that a number stands for

-- φ j, φ (j + 1), ... : n of them
abbrev pub table : ℕ → ℕ → (ℕ → ℕ) → List ℕ
table zero j φ = []
table (suc n) j φ = φ j ∷ table n (suc j) φ

-- the block in slot k; the number of blocks if it is empty
abbrev pub block_at : Setup → ℕ → ℕ → ℕ
block_at s u k = in_line s u (k / s.lines) (k % s.lines)

unfoldable pub filled_at : Setup → ℕ → ℕ → Bool
filled_at s u k = ltb (block_at s u k) s.blocks

unfoldable pub rival_of : Setup → ℕ → Rival
rival_of s u =
    rival (table (slots s) 0 (λ k. cond (filled_at s u k) (block_at s u k) 0)) (table (slots s) 0 (λ k. cond (filled_at s u k) 1 0))
    (table (slots s) 0 (λ k. cond (filled_at s u k) (cond (eqb (digit u (block_at s u k)) (4 + k / s.lines)) 1 0) 0))
