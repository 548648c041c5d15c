-- A look as a part of the lent words, by its offset and its length. That the two name what a look shows is proved in proofs/Looks.antt, looked-part.
use Rattle.std.specs.Prelude.{ℕ, cond, List, length, eqb}
use Rattle.protocol_types.specs.Board.{slot, word_index}
use Rattle.protocol.specs.Runs.{looked}
use Rattle.protocol_types.specs.declared.Setup.{Setup}
use Rattle.protocol_types.specs.declared.Block.{Block}

unfoldable pub look_length : Setup → List ℕ → List ℕ → List ℕ → ℕ → Block → ℕ
look_length s blocks counters words i b = length (looked s blocks counters words i b)

-- an empty part has offset 0
unfoldable pub look_offset : Setup → List ℕ → List ℕ → List ℕ → ℕ → Block → ℕ
look_offset s blocks counters words i b = cond (eqb (look_length s blocks counters words i b) 0) 0 (word_index s (slot s i b) 0)
