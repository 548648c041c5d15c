-- A load that two labs can repeat: the requests that a seed gives (document 02, P2).
use Rattle.std.specs.Prelude.{ℕ, zero, suc, ◌*◌, ◌/◌, ◌%◌, ◌^◌, Bool, not, cond, List, [], ◌∷◌, length, leb, eqb}
use Rattle.std.specs.Int.Bits.{bit_xor}
use Rattle.protocol_types.specs.Refusals.{no_refusal, unless, first_of, too_many, seed_zero}
use Rattle.protocol_types.specs.Board.{setup_refusal, variables}
use Rattle.protocol_types.specs.declared.Setup.{Setup}
use Rattle.protocol_types.specs.declared.Variable.{Variable}
use Rattle.protocol_types.specs.declared.Request.{Request}
use Rattle.protocol_types.specs.declared.Operation.TheVariants.{Read, Write}

-- ---- "32-bit numbers by Marsaglia's xorshift": numbers below 2^32

-- x << k: what leaves at the top is lost
abbrev pub shift_left : ℕ → ℕ → ℕ
shift_left k x = x * 2 ^ k % 2 ^ 32

-- x >> k
abbrev pub shift_right : ℕ → ℕ → ℕ
shift_right k x = x / 2 ^ k

-- x xor (x << k)
unfoldable pub xor_left : ℕ → ℕ → ℕ
xor_left k x = bit_xor x (shift_left k x)

-- x xor (x >> k)
unfoldable pub xor_right : ℕ → ℕ → ℕ
xor_right k x = bit_xor x (shift_right k x)

-- the draw after x: "shifts left 13, right 17, left 5"
unfoldable pub xorshift : ℕ → ℕ
xorshift x = xor_left 5 (xor_right 17 (xor_left 13 x))

-- the first n draws of a seed: "The seed itself is no draw."
abbrev pub draws : ℕ → ℕ → List ℕ
draws seed zero = []
draws seed (suc n) = xorshift seed ∷ draws (xorshift seed) n

-- ---- "Each request uses three successive draws"

abbrev pub even : ℕ → Bool
even x = eqb (x % 2) 0

-- "the first mod N is the processor, the second mod M × p the variable, and the third is a read if even, else a write of that draw"
unfoldable pub request_drawn : Setup → ℕ → ℕ → ℕ → Request
request_drawn s first second third =
    let v : Variable = record { 0 = second % variables s } in
    record { processor = first % s.processors; operation = cond (even third) (Read v) (Write v third) }

-- three at a time
abbrev pub requests_drawn : Setup → List ℕ → List Request
requests_drawn s [] = []
requests_drawn s (a ∷ []) = []
requests_drawn s (a ∷ b ∷ []) = []
requests_drawn s (a ∷ b ∷ c ∷ ds) = request_drawn s a b c ∷ requests_drawn s ds

-- the n requests of a seed
unfoldable pub workload : Setup → ℕ → ℕ → List Request
workload s seed n = requests_drawn s (draws seed (n * 3))

-- ---- the same, one request at a time: the law workload-suc (proofs/Generator) says so

-- the last of the three draws after x
abbrev pub third_draw : ℕ → ℕ
third_draw x = xorshift (xorshift (xorshift x))

-- their request
unfoldable pub request_after : Setup → ℕ → Request
request_after s x = request_drawn s (xorshift x) (xorshift (xorshift x)) (third_draw x)

-- ---- the generator checks 1, 10, 11, 5, in this order; 2 cannot be met, since the lent list's length is the count

-- "a list over 1,000,000"
abbrev pub generate_limit : ℕ
generate_limit = 1000000

-- a list of n requests
unfoldable pub generate_refusal : Setup → ℕ → ℕ → ℕ
generate_refusal s seed n =
    first_of (setup_refusal s)
    (unless (not (eqb seed 0)) seed_zero
    (unless (leb n generate_limit) too_many no_refusal))

-- the lent list after it: "A refusal leaves the list untouched"
unfoldable pub generated : Setup → ℕ → List Request → List Request
generated s seed lent = cond (eqb (generate_refusal s seed (length lent)) no_refusal) (workload s seed (length lent)) lent
