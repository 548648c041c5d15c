-- The best schedule found so far where requests and entries are numbers, for hosts that know no other types. What is claimed of it: host_claims/specs/Claims.
use Rattle.std.specs.Prelude.{ℕ, ◌*◌, Bool, cond, List, ◌++◌, length, drop, eqb}
use Rattle.protocol_types.specs.Refusals.{no_refusal}
use Rattle.protocol_types.specs.declared.Setup.{Setup}
use Rattle.protocol_types.specs.SearchAnswers.{BestAnswer}
use Rattle.protocol_types.specs.SearchAnswers.{Found, Refused}
use Rattle.best_positions.specs.Best.{SearchTables, search_sized, best_refusal, schedule, best_answer}
use Rattle.host_decoding.specs.Records.{entry_width, both_whole, requests_of, entries_of}
use Rattle.host_encoding.specs.Numbers.{schedule_numbers}
use Rattle.host_best.specs.declared.BestNumbers.{BestNumbers}

-- how many entries the numbers ms have room for; none where ms, or the requests' numbers ns, are not whole, so that 2 refuses them in its place among the checks
unfoldable pub entries_lent : List ℕ → List ℕ → ℕ
entries_lent ns ms = cond (both_whole ns ms) (length (entries_of ms)) 0

-- 2: the search tables, whole lists, and numbers of 32,400 entries
abbrev pub numbers_sized : SearchTables → List ℕ → List ℕ → Bool
numbers_sized x ns ms = search_sized x (entries_lent ns ms)

-- 1, 10, 12, 2, 3 or 4, in this order
unfoldable pub best_numbers_refusal : Setup → SearchTables → List ℕ → List ℕ → ℕ
best_numbers_refusal s x ns ms = best_refusal s (requests_of ns) (numbers_sized x ns ms)

-- the answer with at most m steps
unfoldable pub best_of_numbers : Setup → SearchTables → List ℕ → List ℕ → ℕ → BestAnswer
best_of_numbers s x ns ms m = best_answer s (requests_of ns) m (numbers_sized x ns ms)

-- the lent numbers after it: those of the schedule, and behind them what was there; "no refusal changes a buffer"
unfoldable pub best_numbers : Setup → SearchTables → List ℕ → List ℕ → ℕ → List ℕ
best_numbers s x ns ms m =
    cond (eqb (best_numbers_refusal s x ns ms) no_refusal)
    (schedule_numbers (schedule s (requests_of ns) m) ++ drop (length (schedule s (requests_of ns) m) * entry_width) ms)
    ms

-- ---- the document's numbers of an answer, where it is an enum

abbrev pub numbered : ℕ → ℕ → ℕ → ℕ → ℕ → ℕ → ℕ → BestNumbers
numbered r k n c u l e = record { refusal = r; place = k; length = n; cost = c; steps = u; least = l; excess = e }

-- 1 where it is called least; a refusal gives nothing but its number and its place
abbrev pub in_numbers : BestAnswer → BestNumbers
in_numbers (Found b) = numbered no_refusal 0 b.length b.cost b.steps (cond b.least 1 0) b.excess
in_numbers (Refused n k) = numbered n k 0 0 0 0 0
