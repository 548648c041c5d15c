-- A rival's schedule, entry by entry (document 01, "Rival schedules"; clears: document 02, P6).
use Rattle.std.specs.Prelude.{ℕ, zero, suc, ◌≡◌, Bool, true, false, not, ◌&&◌, cond, List, [], ◌∷◌, length, set, ltb, eqb}
use Rattle.protocol_types.specs.Lists.{at, zeros, tail, other, all}
use Rattle.protocol_types.specs.Refusals.{no_refusal, unless, no_such_processor, no_such_block, broadcast_without_write, line_in_use, block_not_held, drop_of_marked, no_request_left, completion_not_held, requests_left, cache_not_empty}
use Rattle.protocol_types.specs.Board.{slots, line_slot, slot, block_of, fetch_price, write_back_price}
use Rattle.protocol_types.specs.Conditions.{named_refusal}
use Rattle.protocol.specs.Accounts.{nothing, plus}
use Rattle.protocol_types.specs.declared.Setup.{Setup}
use Rattle.protocol_types.specs.declared.Block.{Block}
use Rattle.protocol_types.specs.declared.Request.{Request}
use Rattle.protocol_types.specs.declared.Operation.{Operation}
use Rattle.protocol_types.specs.declared.Operation.TheVariants.{Read, Write, Clear}
use Rattle.protocol_types.specs.declared.Bill.{Bill}
use Rattle.protocol_types.specs.declared.Entry.{Entry}
use Rattle.protocol_types.specs.declared.Entry.TheVariants.{Fetch, WriteBack, Drop, Complete, CompleteByBroadcast}

-- ---- the rival's copies, slot by slot

-- block numbers, held marks and dirty marks
pub record Rival : Type 0 where
  pub blocks : List ℕ
  pub held : List ℕ
  pub marks : List ℕ

-- the rival of these three lists
abbrev pub rival : List ℕ → List ℕ → List ℕ → Rival
rival b h m = record { blocks = b; held = h; marks = m }

-- 2: an entry for each slot
unfoldable pub rival_sized : Setup → Rival → Bool
rival_sized s r = eqb (length r.blocks) (slots s) && eqb (length r.held) (slots s) && eqb (length r.marks) (slots s)

-- the same, as facts
pub record RivalSized (s : Setup) (r : Rival) : Type 0 where
  pub blocks : length r.blocks ≡ slots s
  pub held : length r.held ≡ slots s
  pub marks : length r.marks ≡ slots s

-- empty caches: "no line holds a block and nothing is marked"
unfoldable pub no_copies : Setup → Rival
no_copies s = rival (zeros (slots s)) (zeros (slots s)) (zeros (slots s))

-- slot k has a copy of block b
unfoldable pub keeps_at : Rival → ℕ → Block → Bool
keeps_at r k b = eqb (at r.held k) 1 && eqb (at r.blocks k) b.0

-- processor i has one
unfoldable pub keeps : Setup → Rival → ℕ → Block → Bool
keeps s r i b = keeps_at r (slot s i b) b

-- a processor other than i has one
unfoldable pub shared : Setup → Rival → ℕ → Block → Bool
shared s r i b = ltb (other s.processors i (λ j. keeps s r j b)) s.processors

-- no line of processor i's cache holds a block
unfoldable pub empty_cache : Setup → Rival → ℕ → Bool
empty_cache s r i = all s.lines (λ l. eqb (at r.held (line_slot s i l)) 0)

-- the marks, with b's cleared at the first n processors
abbrev pub unmarked : Setup → Rival → Block → ℕ → List ℕ
unmarked s r b zero = r.marks
unmarked s r b (suc n) = cond (keeps s r n b) (set (unmarked s r b n) (slot s n b) 0) (unmarked s r b n)

-- ---- what an entry does to the copies

-- a fetch clears B's mark elsewhere, and the new copy is unmarked
unfoldable pub rival_fetched : Setup → Rival → ℕ → Block → Rival
rival_fetched s r i b =
    rival (set r.blocks (slot s i b) b.0) (set r.held (slot s i b) 1) (set (unmarked s r b s.processors) (slot s i b) 0)

-- a write-back clears the mark
unfoldable pub rival_written_back : Setup → Rival → ℕ → Block → Rival
rival_written_back s r i b = rival r.blocks r.held (set r.marks (slot s i b) 0)

-- a drop leaves an empty line, all 0
unfoldable pub rival_dropped : Setup → Rival → ℕ → Block → Rival
rival_dropped s r i b = rival (set r.blocks (slot s i b) 0) (set r.held (slot s i b) 0) (set r.marks (slot s i b) 0)

-- the marks when processor i's operation is completed: a write marks the block where it has one holder
abbrev pub completed_marks : Setup → Rival → ℕ → Operation → List ℕ
completed_marks s r i (Read v) = r.marks
completed_marks s r i (Write v x) = cond (shared s r i (block_of s v)) r.marks (set r.marks (slot s i (block_of s v)) 1)
completed_marks s r i Clear = r.marks

unfoldable pub rival_completed : Setup → Rival → Request → Rival
rival_completed s r q = rival r.blocks r.held (completed_marks s r q.processor q.operation)

-- completing ends the next request
abbrev pub completed_next : Setup → Rival → List Request → Rival
completed_next s r [] = r
completed_next s r (q ∷ qs) = rival_completed s r q

-- by broadcast "a marked block stays marked, an unmarked one unmarked"
abbrev pub played : Setup → Rival → List Request → Entry → Rival
played s r qs (Fetch i b) = rival_fetched s r i b
played s r qs (WriteBack i b) = rival_written_back s r i b
played s r qs (Drop i b) = rival_dropped s r i b
played s r qs Complete = completed_next s r qs
played s r qs CompleteByBroadcast = r

-- the requests left after an entry
abbrev pub left : List Request → Entry → List Request
left qs (Fetch i b) = qs
left qs (WriteBack i b) = qs
left qs (Drop i b) = qs
left qs Complete = tail qs
left qs CompleteByBroadcast = tail qs

-- ---- what an entry costs

-- a read or a clear 0; a write 0 where the block has one holder, else 1; by broadcast 1
abbrev pub completion_by : Setup → Rival → ℕ → Operation → Bool → ℕ
completion_by s r i (Read v) by_broadcast = 0
completion_by s r i (Write v x) by_broadcast = cond by_broadcast 1 (cond (shared s r i (block_of s v)) 1 0)
completion_by s r i Clear by_broadcast = 0

unfoldable pub completion_cycles : Setup → Rival → Request → Bool → ℕ
completion_cycles s r q by_broadcast = completion_by s r q.processor q.operation by_broadcast

abbrev pub completion_next : Setup → Rival → List Request → Bool → ℕ
completion_next s r [] by_broadcast = 0
completion_next s r (q ∷ qs) by_broadcast = completion_cycles s r q by_broadcast

-- a fetch f, a write-back g, a drop 0
abbrev pub cost : Setup → Rival → List Request → Entry → Bill
cost s r qs (Fetch i b) = record { fetch = fetch_price s; write_back = 0; update = 0 }
cost s r qs (WriteBack i b) = record { fetch = 0; write_back = write_back_price s; update = 0 }
cost s r qs (Drop i b) = nothing
cost s r qs Complete = record { fetch = 0; write_back = 0; update = completion_next s r qs false }
cost s r qs CompleteByBroadcast = record { fetch = 0; write_back = 0; update = completion_next s r qs true }

-- ---- the conditions, in the document's order of checks

-- at each fetch, drop or write-back 3, 8, then n
unfoldable pub move_refusal : Setup → ℕ → Block → ℕ → ℕ
move_refusal s i b n =
    unless (ltb i s.processors) no_such_processor
    (unless (ltb b.0 s.blocks) no_such_block n)

-- 9, then 27, or at a clear 29: it "needs that cache empty"
abbrev pub ready_refusal : Setup → Rival → ℕ → Operation → Bool → ℕ
ready_refusal s r i (Read v) by_broadcast =
    unless (not by_broadcast) broadcast_without_write
    (unless (keeps s r i (block_of s v)) completion_not_held no_refusal)
ready_refusal s r i (Write v x) by_broadcast = unless (keeps s r i (block_of s v)) completion_not_held no_refusal
ready_refusal s r i Clear by_broadcast =
    unless (not by_broadcast) broadcast_without_write
    (unless (empty_cache s r i) cache_not_empty no_refusal)

-- at each completion of a request 3, 4, then these
unfoldable pub completion_refusal : Setup → Rival → Request → Bool → ℕ
completion_refusal s r q by_broadcast =
    unless (ltb q.processor s.processors) no_such_processor
    (named_refusal s q.operation
    (ready_refusal s r q.processor q.operation by_broadcast))

-- 26 first
abbrev pub refusal_next : Setup → Rival → List Request → Bool → ℕ
refusal_next s r [] by_broadcast = no_request_left
refusal_next s r (q ∷ qs) by_broadcast = completion_refusal s r q by_broadcast

-- then 23 at a fetch, 24 at a write-back, 24 and 25 at a drop
abbrev pub refusal : Setup → Rival → List Request → Entry → ℕ
refusal s r qs (Fetch i b) = move_refusal s i b (unless (eqb (at r.held (slot s i b)) 0) line_in_use no_refusal)
refusal s r qs (WriteBack i b) = move_refusal s i b (unless (keeps s r i b) block_not_held no_refusal)
refusal s r qs (Drop i b) =
    move_refusal s i b
    (unless (keeps s r i b) block_not_held
    (unless (eqb (at r.marks (slot s i b)) 0) drop_of_marked no_refusal))
refusal s r qs Complete = refusal_next s r qs false
refusal s r qs CompleteByBroadcast = refusal_next s r qs true

-- at the end 28
abbrev pub end_refusal : List Request → ℕ
end_refusal [] = no_refusal
end_refusal (q ∷ qs) = requests_left

-- ---- a schedule, played entry by entry

-- it meets none of the conditions
abbrev pub Legal : Setup → Rival → List Request → List Entry → Type 0
Legal s r qs [] = end_refusal qs ≡ no_refusal
Legal s r qs (e ∷ es) = (refusal s r qs e ≡ no_refusal) × Legal s (played s r qs e) (left qs e) es

-- the sum of its entries' costs
abbrev pub costs : Setup → Rival → List Request → List Entry → Bill
costs s r qs [] = nothing
costs s r qs (e ∷ es) = plus (cost s r qs e) (costs s (played s r qs e) (left qs e) es)

-- the rival's last copies
abbrev pub last_copies : Setup → Rival → List Request → List Entry → Rival
last_copies s r qs [] = r
last_copies s r qs (e ∷ es) = last_copies s (played s r qs e) (left qs e) es
