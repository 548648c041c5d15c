-- Laws of one request: what it can cost.
use Prim.Native.Nat.{ℕ, zero, suc, ◌*◌, ◌≤◌}
use native.Mathlib.Omega.{arith}
use native.Mathlib.Nat.{le_refl, mul-le-mul, mul-suc}
use Rattle.protocol_types.specs.Board.{Fits, line_slot, slot, block_of, fetch_price, write_back_price, most_write_back, most_write_back_limit}
use Rattle.protocol.specs.Tables.{Tables, holds, sharing, marked}
use Rattle.protocol.specs.Rules.{save_cycles, fetch_cycles, write_back_cycles, obtained, update_cycles, cleared, clear_cycles}
use Rattle.protocol.specs.Accounts.{Spent}
use Rattle.protocol.specs.Requests.{bill_by, bill}
use Rattle.protocol_types.specs.declared.Setup.{Setup}
use Rattle.protocol_types.specs.declared.Block.{Block}
use Rattle.protocol_types.specs.declared.Request.{Request}
use Rattle.protocol_types.specs.declared.Operation.{Operation}
use Rattle.protocol_types.specs.declared.Operation.TheVariants.{Read, Write, Clear}
use Rattle.protocol_types.proofs.Laws.{choice}

-- ---- the bill

one-write-back : (s : Setup) → Fits s → write_back_price s ≤ most_write_back s
unfolding most_write_back
one-write-back s ok = omega (arith, mul-le-mul (le_refl (write_back_price s)) ok.some-line)

save-le : (s : Setup) (t : Tables) (k : ℕ) → save_cycles s t k ≤ write_back_price s
unfolding save_cycles
save-le s t k = choice (λ z. z ≤ write_back_price s) (marked t k) (λ e. omega arith) (λ e. omega arith)

fetch-le : (s : Setup) (t : Tables) (i : ℕ) (b : Block) → fetch_cycles s t i b ≤ fetch_price s
unfolding fetch_cycles
fetch-le s t i b = choice (λ z. z ≤ fetch_price s) (holds s t i b) (λ e. omega arith) (λ e. omega arith)

back-le : (s : Setup) (t : Tables) (i : ℕ) (b : Block) → write_back_cycles s t i b ≤ write_back_price s
unfolding write_back_cycles
back-le s t i b = choice (λ z. z ≤ write_back_price s) (holds s t i b) (λ e. omega arith) (λ e. save-le s t (slot s i b))

update-le : (s : Setup) (t : Tables) (i : ℕ) (b : Block) → update_cycles s t i b ≤ 1
unfolding update_cycles
update-le s t i b = choice (λ z. z ≤ 1) (sharing s t i b) (λ e. omega arith) (λ e. omega arith)

clear-le : (s : Setup) (t : Tables) (i n : ℕ) → clear_cycles s t i n ≤ write_back_price s * n
clear-le s t i zero = omega arith
clear-le s t i (suc n) = omega (arith, clear-le s t i n, save-le s (cleared s t i n) (line_slot s i n), mul-suc (write_back_price s) n)

-- so far, of l lines of a clear: at most 64 lines at the highest price
pub few-clear : (s : Setup) → Fits s → (t : Tables) (i l : ℕ) → l ≤ s.lines → clear_cycles s t i l ≤ most_write_back_limit
unfolding most_write_back
few-clear s ok t i l h = omega (arith, clear-le s t i l, mul-le-mul (le_refl (write_back_price s)) h, ok.few-write-back)

-- a clear writes back no more than every line of a cache
clear-back-le : (s : Setup) (t : Tables) (i : ℕ) → clear_cycles s t i s.lines ≤ most_write_back s
unfolding most_write_back
clear-back-le s t i = clear-le s t i s.lines

bill-by-spent : (s : Setup) → Fits s → (t : Tables) (i : ℕ) (o : Operation) → Spent s 1 (bill_by s t i o)
bill-by-spent s ok t i (Read v) =
    let b : Block = block_of s v in
    record { fetch = omega (arith, fetch-le s t i b); write-back = omega (arith, back-le s t i b, one-write-back s ok); update = omega arith }
bill-by-spent s ok t i (Write v x) =
    let b : Block = block_of s v in
    record { fetch = omega (arith, fetch-le s t i b); write-back = omega (arith, back-le s t i b, one-write-back s ok); update = update-le s (obtained s t i b) i b }
bill-by-spent s ok t i Clear = record { fetch = omega arith; write-back = omega (arith, clear-back-le s t i); update = omega arith }

pub bill-spent : (s : Setup) → Fits s → (t : Tables) (q : Request) → Spent s 1 (bill s t q)
unfolding bill
bill-spent s ok t q = bill-by-spent s ok t q.processor q.operation
