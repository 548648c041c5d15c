-- The tests that the searches make, and what they find.
use Rattle.std.specs.Prelude.{ℕ, ◌-◌, Bool, true, ◌&&◌}
use Rattle.protocol_types.specs.Lists.{first_from, another, other, smaller, argmin_below}
use Rattle.protocol_types.specs.Board.{slot}
use Rattle.protocol.specs.Tables.{Tables, holds, line_counter, marked}
use Rattle.protocol_types.specs.declared.Setup.{Setup}
use Rattle.protocol_types.specs.declared.Block.{Block}

-- processor j is another one than i and holds block b
unfoldable pub other_holds : Setup → Tables → ℕ → Block → ℕ → Bool
other_holds s t i b = another i (λ j. holds s t j b)

-- the first such: what protocol's `sharing` looks for
unfoldable pub other_holder : Setup → Tables → ℕ → Block → ℕ
other_holder s t i b = other s.processors i (λ j. holds s t j b)

-- of such processors below m the one with the smallest counter, the lowest among equals; the number of processors if there is none. Of all it is protocol's
-- `payer`
unfoldable pub weakest_below : Setup → Tables → ℕ → Block → ℕ → ℕ
weakest_below s t i b m = argmin_below s.processors (other_holds s t i b) (line_counter s t b) m

-- its step from j, where it is k, to j + 1, where j is such a processor: j if k is none or has a larger counter; else k
unfoldable pub weaker : Setup → Tables → Block → ℕ → ℕ → ℕ
weaker s t b k j = smaller s.processors (λ _. true) (line_counter s t b) k j

-- processor j has block b marked
unfoldable pub owns : Setup → Tables → Block → ℕ → Bool
owns s t b j = holds s t j b && marked t (slot s j b)

-- the first such from j on; the number of processors if there is none. From 0 on it is protocol's `owner`
unfoldable pub owner_from : Setup → Tables → Block → ℕ → ℕ
owner_from s t b j = first_from (s.processors - j) j (owns s t b)
