-- The refusal numbers (document 01, "Refused for what came in" and "Refused for how things stand").
use Rattle.std.specs.Prelude.{ℕ, Bool, cond, eqb, Result, Ok, Err}
use Rattle.protocol_types.specs.declared.Refusal.{Refusal}
use Rattle.protocol_types.specs.declared.Refusal.TheVariants.{SetupOutOfRange, WrongLength, NoSuchProcessor, NoSuchVariable, TooMany, MalformedLine, UnknownLabel, NoSuchBlock, BroadcastWithoutWrite, PriceOutOfRange, SeedZero, NotSearchable, UnsoundTables, ImpossibleAccount, AccountFull, LineInUse, BlockNotHeld, DropOfMarked, NoRequestLeft, CompletionNotHeld, RequestsLeft, CacheNotEmpty}

-- where no condition is met, nothing is refused
abbrev pub no_refusal : ℕ
no_refusal = 0

-- ---- "The first condition met in these orders gives the number"

-- refused by n unless the test passes; then the conditions after it
abbrev pub unless : Bool → ℕ → ℕ → ℕ
unless passes n after = cond passes after n

-- the number of the conditions before, or, where they refuse nothing, that of those after
abbrev pub first_of : ℕ → ℕ → ℕ
first_of before after = cond (eqb before no_refusal) after before

-- ---- the numbers

-- 1: a setup number out of range: N, L, p or M
abbrev pub setup_out_of_range : ℕ
setup_out_of_range = 1

-- 2: a lent buffer's length isn't the one the setup, or the list, requires
abbrev pub wrong_length : ℕ
wrong_length = 2

-- 3: processor not below N
abbrev pub no_such_processor : ℕ
no_such_processor = 3

-- 4: variable not below M × p
abbrev pub no_such_variable : ℕ
no_such_variable = 4

-- 5: to the pricer: over 1,000,000 requests or 4,000,000 entries; to the generator: a list over 1,000,000 (document 02, P2)
abbrev pub too_many : ℕ
too_many = 5

-- 6: trace line malformed
abbrev pub malformed_line : ℕ
malformed_line = 6

-- 7: trace label a digit above 2 other than 4 (document 02, P6)
abbrev pub unknown_label : ℕ
unknown_label = 7

-- 8: entry's block not below M
abbrev pub no_such_block : ℕ
no_such_block = 8

-- 9: a read or a clear (document 02, P6) completed by broadcast
abbrev pub broadcast_without_write : ℕ
broadcast_without_write = 9

-- 10: fetch price or write-back price out of range (document 02, P1)
abbrev pub price_out_of_range : ℕ
price_out_of_range = 10

-- 11: seed zero (document 02, P2)
abbrev pub seed_zero : ℕ
seed_zero = 11

-- 12: N not 2, M over 4 or over 24 requests (document 02, P8)
abbrev pub not_searchable : ℕ
not_searchable = 12

-- 20: tables not sound
abbrev pub unsound_tables : ℕ
unsound_tables = 20

-- 21: account impossible
abbrev pub impossible_account : ℕ
impossible_account = 21

-- 22: account already at 1,000,000 requests or more
abbrev pub account_full : ℕ
account_full = 22

-- 23: fetch into a line that isn't empty
abbrev pub line_in_use : ℕ
line_in_use = 23

-- 24: block not held (drop, write back)
abbrev pub block_not_held : ℕ
block_not_held = 24

-- 25: drop of a marked block
abbrev pub drop_of_marked : ℕ
drop_of_marked = 25

-- 26: completion with no request left
abbrev pub no_request_left : ℕ
no_request_left = 26

-- 27: completion of a read or a write, block not held
abbrev pub completion_not_held : ℕ
completion_not_held = 27

-- 28: schedule ends with requests left
abbrev pub requests_left : ℕ
requests_left = 28

-- 29: completing a clear while that cache holds a block (document 02, P6)
abbrev pub cache_not_empty : ℕ
cache_not_empty = 29

-- ---- of the refusals that the code names

abbrev pub number : Refusal → ℕ
number SetupOutOfRange = setup_out_of_range
number WrongLength = wrong_length
number NoSuchProcessor = no_such_processor
number NoSuchVariable = no_such_variable
number TooMany = too_many
number MalformedLine = malformed_line
number UnknownLabel = unknown_label
number NoSuchBlock = no_such_block
number BroadcastWithoutWrite = broadcast_without_write
number PriceOutOfRange = price_out_of_range
number SeedZero = seed_zero
number NotSearchable = not_searchable
number UnsoundTables = unsound_tables
number ImpossibleAccount = impossible_account
number AccountFull = account_full
number LineInUse = line_in_use
number BlockNotHeld = block_not_held
number DropOfMarked = drop_of_marked
number NoRequestLeft = no_request_left
number CompletionNotHeld = completion_not_held
number RequestsLeft = requests_left
number CacheNotEmpty = cache_not_empty

-- of what a check answers, or, where it refuses nothing, of the conditions after it
abbrev pub refusal_before : {A : Type 0} → Result A Refusal → ℕ → ℕ
refusal_before (Ok x) after = after
refusal_before (Err r) after = number r

-- of what a check answers; 0 where it refuses nothing
abbrev pub refusal_number : {A : Type 0} → Result A Refusal → ℕ
refusal_number r = refusal_before r no_refusal
