-- The numbers that name requests and a schedule's entries, as host_decoding reads them. That they name the same again is proved in proofs/Numbers.antt, named-back and entries-named-back.
use Rattle.std.specs.Prelude.{ℕ, List, [], ◌∷◌, ◌++◌}
use Rattle.protocol_types.specs.declared.Request.{Request}
use Rattle.protocol_types.specs.declared.Operation.{Operation}
use Rattle.protocol_types.specs.declared.Operation.TheVariants.{Read, Write, Clear}
use Rattle.protocol_types.specs.declared.Entry.{Entry}
use Rattle.protocol_types.specs.declared.Entry.TheVariants.{Fetch, WriteBack, Drop, Complete, CompleteByBroadcast}

-- the numbers of each, one after another
abbrev pub in_turn : {A : Type 0} → (A → List ℕ) → List A → List ℕ
in_turn numbers [] = []
in_turn numbers (x ∷ xs) = numbers x ++ in_turn numbers xs

-- ---- requests

-- 0 reads, 1 writes, 2 clears
abbrev pub operation_number : Operation → ℕ
operation_number (Read v) = 0
operation_number (Write v x) = 1
operation_number Clear = 2

-- the variable that it names; a clear names none and has 0
abbrev pub variable_number : Operation → ℕ
variable_number (Read v) = v.0
variable_number (Write v x) = v.0
variable_number Clear = 0

-- the value that it writes; only a write has one, and the others have 0
abbrev pub value_number : Operation → ℕ
value_number (Read v) = 0
value_number (Write v x) = x
value_number Clear = 0

-- processor, operation, variable, value
abbrev pub request_numbers : Request → List ℕ
request_numbers q = q.processor ∷ operation_number q.operation ∷ variable_number q.operation ∷ value_number q.operation ∷ []

-- request after request
abbrev pub list_numbers : List Request → List ℕ
list_numbers [] = []
list_numbers (q ∷ qs) = request_numbers q ++ list_numbers qs

-- ---- a schedule's entries

-- 0 fetches, 1 writes back, 2 drops, 3 completes, 4 completes by broadcast
abbrev pub kind_number : Entry → ℕ
kind_number (Fetch i b) = 0
kind_number (WriteBack i b) = 1
kind_number (Drop i b) = 2
kind_number Complete = 3
kind_number CompleteByBroadcast = 4

-- the processor that it names; a completion names none and has 0
abbrev pub processor_number : Entry → ℕ
processor_number (Fetch i b) = i
processor_number (WriteBack i b) = i
processor_number (Drop i b) = i
processor_number Complete = 0
processor_number CompleteByBroadcast = 0

-- the block that it names; a completion names none and has 0
abbrev pub block_number : Entry → ℕ
block_number (Fetch i b) = b.0
block_number (WriteBack i b) = b.0
block_number (Drop i b) = b.0
block_number Complete = 0
block_number CompleteByBroadcast = 0

-- kind, processor, block
abbrev pub entry_numbers : Entry → List ℕ
entry_numbers e = kind_number e ∷ processor_number e ∷ block_number e ∷ []

-- entry after entry
abbrev pub schedule_numbers : List Entry → List ℕ
schedule_numbers = in_turn entry_numbers
