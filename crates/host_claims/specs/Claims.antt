-- What is claimed of the entries over numbers.
use Rattle.std.specs.Prelude.{ℕ, ◌*◌, ◌≤◌, ◌≡◌, true, List, length, take, drop}
use Rattle.protocol_types.specs.Refusals.{no_refusal}
use Rattle.protocol_types.specs.Board.{variables}
use Rattle.protocol.specs.Masks.{fresh_masked}
use Rattle.protocol.specs.Accounts.{fresh_account, cycles}
use Rattle.protocol.specs.Engines.{answered}
use Rattle.protocol.specs.Generator.{workload}
use Rattle.protocol.specs.Rival.{Rival, rival_sized, no_copies, Legal, costs}
use Rattle.protocol_types.specs.declared.Setup.{Setup}
use Rattle.protocol_types.specs.Answers.{Accepted}
use Rattle.protocol_types.specs.SearchAnswers.{Found}
use Rattle.best_positions.specs.Best.{SearchTables, best_schedule}
use Rattle.host_decoding.specs.Records.{entry_width, requests_of, entries_of}
use Rattle.host_numbers.specs.Numbers.{run_numbers, price_of_numbers}
use Rattle.generator.specs.Numbers.{generate_numbers_refusal, generated_numbers}
use Rattle.host_best.specs.Numbers.{best_of_numbers, best_numbers}

-- numbers that 1, 10, 2, 11 and 5 let through, as the generator leaves them: what `Repeatable` (competitive/specs/Claims) says of requests
pub record NumbersRepeatable (s : Setup) (seed : ℕ) (ns : List ℕ) : Type 0 where
  -- they name the requests of the seed
  pub named : requests_of (generated_numbers s seed ns) ≡ workload s seed (length (requests_of ns))
  -- a run over numbers takes them to the end, from fresh tables and masks and a fresh account
  pub taken : (vs : List ℕ) → length vs ≡ length (requests_of ns)
      → (run_numbers s (fresh_masked s) fresh_account (generated_numbers s seed ns) vs).answer ≡ answered (length (requests_of ns)) no_refusal 0
  -- number by number they depend on N, on M × p, on the seed and on the count alone
  pub alike : (t : Setup) (other : List ℕ) → generate_numbers_refusal t seed other ≡ no_refusal
      → t.processors ≡ s.processors → variables t ≡ variables s → length other ≡ length ns → generated_numbers t seed other ≡ generated_numbers s seed ns
  -- a longer list begins with them
  pub begins : (longer : List ℕ) → generate_numbers_refusal s seed longer ≡ no_refusal → length ns ≤ length longer
      → take (length ns) (generated_numbers s seed longer) ≡ generated_numbers s seed ns

-- the numbers at the front that the search writes
abbrev pub written : Setup → SearchTables → List ℕ → List ℕ → ℕ → List ℕ
written s x ns ms m = take ((best_schedule s (requests_of ns) m).length * entry_width) (best_numbers s x ns ms m)

-- numbers that 1, 10, 12, 2, 3 and 4 let through, as the search leaves them. What else holds of the schedule: `BestSoFar` (best_positions/specs/Best)
pub record NumbersBest (s : Setup) (x : SearchTables) (ns ms : List ℕ) (m : ℕ) : Type 0 where
  pub answer : best_of_numbers s x ns ms m ≡ Found (best_schedule s (requests_of ns) m)
  -- they name a schedule that is legal from empty caches, as long as is said and at the cost that is said
  pub count : length (entries_of (written s x ns ms m)) ≡ (best_schedule s (requests_of ns) m).length
  pub legal : Legal s (no_copies s) (requests_of ns) (entries_of (written s x ns ms m))
  pub cost : (best_schedule s (requests_of ns) m).cost ≡ cycles (costs s (no_copies s) (requests_of ns) (entries_of (written s x ns ms m)))
  -- the price over numbers accepts them at that cost, for tables of the right lengths
  pub priced : (lent : Rival) → rival_sized s lent ≡ true → price_of_numbers s lent ns (written s x ns ms m) ≡ Accepted (best_schedule s (requests_of ns) m).cost
  -- the numbers behind them stay
  pub behind : drop ((best_schedule s (requests_of ns) m).length * entry_width) (best_numbers s x ns ms m) ≡ drop ((best_schedule s (requests_of ns) m).length * entry_width) ms
