-- An account as plain numbers, and the run and the price where requests and entries are numbers, for hosts that know no other types.
use Rattle.std.specs.Prelude.{ℕ, cond, List}
use Rattle.protocol.specs.Masks.{Masked}
use Rattle.protocol.specs.Engines.{Outcome, ended_by, run}
use Rattle.protocol.specs.Runs.{masked_engine}
use Rattle.protocol.specs.Rival.{Rival}
use Rattle.protocol.specs.Pricer.{price, price_tables, PriceNumbers, numbered, price_numbers}
use Rattle.protocol_types.specs.declared.Setup.{Setup}
use Rattle.protocol_types.specs.declared.Account.{Account}
use Rattle.protocol_types.specs.Answers.{PriceAnswer}
use Rattle.protocol_types.specs.Answers.{Refused}
use Rattle.host_decoding.specs.Records.{request_width, whole, both_whole, partial_refusal, requests_of, entries_of}

-- requests taken, then fetch, write-back and update cycles
abbrev pub account_of : ℕ → ℕ → ℕ → ℕ → Account
account_of n f w u = record { requests = n; fetch = f; write_back = w; update = u }

-- ---- a run of the requests that the numbers ns name

-- a list that is not whole is refused before its first request: none is taken, and nothing changes
unfoldable pub run_numbers : Setup → Masked → Account → List ℕ → List ℕ → Outcome Masked
run_numbers s x a ns vs =
    cond (whole request_width ns) (run (masked_engine s) x a (requests_of ns) vs) (ended_by (partial_refusal s) x a vs)

-- ---- the price, for the requests that the numbers ns name, of the schedule that the numbers ms name

-- lists of which one is not whole are refused before the first entry
unfoldable pub price_of_numbers : Setup → Rival → List ℕ → List ℕ → PriceAnswer
price_of_numbers s lent ns ms =
    cond (both_whole ns ms) (price s lent (requests_of ns) (entries_of ms)) (Refused (partial_refusal s) 0)

-- its number, place and cost
unfoldable pub price_in_numbers : Setup → Rival → List ℕ → List ℕ → PriceNumbers
price_in_numbers s lent ns ms =
    cond (both_whole ns ms) (price_numbers s lent (requests_of ns) (entries_of ms)) (numbered (partial_refusal s) 0 0)

-- the lent tables after it: "A refusal by 1, 2 … changes no buffer", nor does 10
unfoldable pub price_tables_of_numbers : Setup → Rival → List ℕ → List ℕ → Rival
price_tables_of_numbers s lent ns ms = cond (both_whole ns ms) (price_tables s lent (requests_of ns) (entries_of ms)) lent
