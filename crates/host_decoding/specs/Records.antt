-- The requests and the schedule's entries that lists of numbers name, for hosts that know no other types. Every number names something: only a list's length can be wrong.
use Rattle.std.specs.Prelude.{ℕ, ◌+◌, ◌*◌, ◌%◌, Bool, ◌&&◌, cond, List, [], ◌∷◌, length, eqb}
use Rattle.protocol_types.specs.Lists.{at}
use Rattle.protocol_types.specs.Refusals.{first_of, wrong_length}
use Rattle.protocol_types.specs.Board.{setup_refusal}
use Rattle.protocol_types.specs.declared.Setup.{Setup}
use Rattle.protocol_types.specs.declared.Operation.{Operation}
use Rattle.protocol_types.specs.declared.Operation.TheVariants.{Read, Write, Clear}
use Rattle.protocol_types.specs.declared.Request.{Request}
use Rattle.protocol_types.specs.declared.Entry.{Entry}
use Rattle.protocol_types.specs.declared.Entry.TheVariants.{Fetch, WriteBack, Drop, Complete, CompleteByBroadcast}

-- ---- records

-- a request is four numbers: processor, operation, variable, value
abbrev pub request_width : ℕ
request_width = 4

-- a schedule's entry is three: kind, processor, block
abbrev pub entry_width : ℕ
entry_width = 3

-- the numbers are a whole number of records of k numbers each
unfoldable pub whole : ℕ → List ℕ → Bool
whole k ns = eqb (length ns % k) 0

-- both lists of a price: the requests' numbers ns and the entries' numbers ms
abbrev pub both_whole : List ℕ → List ℕ → Bool
both_whole ns ms = whole request_width ns && whole entry_width ms

-- what refuses a list that is not whole: the setup's refusal, or else 2
unfoldable pub partial_refusal : Setup → ℕ
partial_refusal s = first_of (setup_refusal s) wrong_length

-- ---- requests

-- operation o, variable v, value x: 1 writes; 2 clears, where v and x play no part; any other number reads
unfoldable pub operation_of : ℕ → ℕ → ℕ → Operation
operation_of o v x =
    cond (eqb o 1) (Write (record { 0 = v }) x)
    (cond (eqb o 2) Clear (Read (record { 0 = v })))

-- processor i and its operation
unfoldable pub request_of : ℕ → ℕ → ℕ → ℕ → Request
request_of i o v x = record { processor = i; operation = operation_of o v x }

-- the request of the four numbers from number 4 k on
abbrev pub request_at : List ℕ → ℕ → Request
request_at ns k =
    request_of (at ns (k * request_width)) (at ns (k * request_width + 1)) (at ns (k * request_width + 2)) (at ns (k * request_width + 3))

-- four numbers at a time; fewer than four at the end name no request, and the host entries refuse such a list by 2
abbrev pub requests_of : List ℕ → List Request
requests_of [] = []
requests_of (i ∷ []) = []
requests_of (i ∷ o ∷ []) = []
requests_of (i ∷ o ∷ v ∷ []) = []
requests_of (i ∷ o ∷ v ∷ x ∷ ns) = request_of i o v x ∷ requests_of ns

-- ---- a schedule's entries

-- kind k, processor i, block b: 0 fetch, 1 write back, 2 drop, 3 complete, any other number completes by broadcast
unfoldable pub entry_of : ℕ → ℕ → ℕ → Entry
entry_of k i b =
    cond (eqb k 0) (Fetch i (record { 0 = b }))
    (cond (eqb k 1) (WriteBack i (record { 0 = b }))
    (cond (eqb k 2) (Drop i (record { 0 = b })) (cond (eqb k 3) Complete CompleteByBroadcast)))

-- the entry of the three numbers from number 3 k on
abbrev pub entry_at : List ℕ → ℕ → Entry
entry_at ns k = entry_of (at ns (k * entry_width)) (at ns (k * entry_width + 1)) (at ns (k * entry_width + 2))

-- three numbers at a time; fewer than three at the end name no entry, and the host entries refuse such a list by 2
abbrev pub entries_of : List ℕ → List Entry
entries_of [] = []
entries_of (k ∷ []) = []
entries_of (k ∷ i ∷ []) = []
entries_of (k ∷ i ∷ b ∷ ns) = entry_of k i b ∷ entries_of ns
