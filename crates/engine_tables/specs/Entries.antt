-- The tests of condition 2 and of a look on lengths.
use Rattle.std.specs.Prelude.{ℕ, ◌*◌, Bool, ◌&&◌, List, length, ltb, eqb}
use Rattle.protocol_types.specs.Refusals.{no_refusal}
use Rattle.protocol_types.specs.Board.{setup_refusal, slots, variables}
use Rattle.protocol.specs.Tables.{directory, holds}
use Rattle.protocol_types.specs.declared.Setup.{Setup}
use Rattle.protocol_types.specs.declared.Block.{Block}

-- protocol's sized_masked, on the lengths of the tables and the masks
unfoldable pub lengths_fit : Setup → ℕ → ℕ → ℕ → ℕ → ℕ → ℕ → Bool
lengths_fit s b c m w g h =
    eqb b (slots s) && eqb c (slots s) && eqb m (slots s) && eqb w (slots s * s.words) && eqb g (variables s) && eqb h s.blocks

-- the condition of protocol's looked, where there are n words
unfoldable pub seen : Setup → List ℕ → List ℕ → ℕ → ℕ → Block → Bool
seen s blocks counters n i b =
    eqb (setup_refusal s) no_refusal
    && (eqb (length blocks) (slots s) && eqb (length counters) (slots s) && eqb n (slots s * s.words))
    && ltb i s.processors && ltb b.0 s.blocks && holds s (directory blocks counters) i b
