-- The masks of holders where one processor gains or loses its copy of a block.
use Rattle.std.specs.Prelude.{ℕ, ◌%◌, ◌<◌, ◌≡◌, cond, List, set, eqb}
use Rattle.protocol_types.specs.Lists.{at}
use Rattle.protocol_types.specs.Board.{slots, slot, line_of}
use Rattle.bits.specs.Bits.{with_bit, without_bit}
use Rattle.protocol.specs.Tables.{Tables, counter, block}
use Rattle.protocol_types.specs.declared.Setup.{Setup}
use Rattle.protocol_types.specs.declared.Block.{Block}

-- processor i has a copy of block b from now on, has none any more
abbrev pub gained : List ℕ → Block → ℕ → List ℕ
gained h b i = set h b.0 (with_bit (at h b.0) i)

abbrev pub lost : List ℕ → Block → ℕ → List ℕ
lost h b i = set h b.0 (without_bit (at h b.0) i)

-- of the block in slot k, unless that line is empty
unfoldable pub lost_at : Tables → List ℕ → ℕ → ℕ → List ℕ
lost_at t h i k = cond (eqb (counter t k) 0) h (lost h (block t k) i)

-- every held block stands in its proper line, so that the mask of the block in a slot speaks of that slot
abbrev pub Proper : Setup → Tables → Type 0
Proper s t = (k : ℕ) → k < slots s → 0 < counter t k → k % s.lines ≡ line_of s (block t k)

-- if slot k of processor i holds a block, it is that block's slot
abbrev pub StandsAt : Setup → Tables → ℕ → ℕ → Type 0
StandsAt s t i k = 0 < counter t k → slot s i (block t k) ≡ k
