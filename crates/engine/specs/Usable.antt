-- What the lent tables must be for a request to be served, the bill of getting a block, and reads and writes as one operation on a variable.
use Rattle.std.specs.Prelude.{ℕ, ◌<◌, ◌≡◌, Option, Some, None}
use Rattle.protocol.specs.Tables.{Tables, Sized, block}
use Rattle.protocol.specs.Masks.{Masked, masks_of}
use Rattle.protocol.specs.Rules.{fetch_cycles, write_back_cycles}
use Rattle.engine_masks.specs.Copies.{Proper}
use Rattle.protocol_types.specs.declared.Setup.{Setup}
use Rattle.protocol_types.specs.declared.Block.{Block}
use Rattle.protocol_types.specs.declared.Bill.{Bill}
use Rattle.protocol_types.specs.declared.Operation.{Operation}
use Rattle.protocol_types.specs.declared.Operation.TheVariants.{Read, Write}
use Rattle.protocol_types.specs.declared.Variable.{Variable}

-- tables of the right lengths, which name no block outside main memory and hold each in its proper line
pub record Usable (s : Setup) (t : Tables) : Type 0 where
  pub lengths : Sized s t
  pub named : (k : ℕ) → (block t k).0 < s.blocks
  pub proper : Proper s t

-- and their true masks
pub record UsableMasked (s : Setup) (x : Masked) : Type 0 where
  pub tables : Usable s x.tables
  pub masks : x.masks ≡ masks_of s x.tables

-- the cycles until processor i holds block b
unfoldable pub obtain_bill : Setup → Tables → ℕ → Block → Bill
obtain_bill s t i b = record { fetch = fetch_cycles s t i b; write_back = write_back_cycles s t i b; update = 0 }

-- a read of a variable, or, where there is a value to store, a write of it
abbrev pub operation_by : Variable → Option ℕ → Operation
operation_by v None = Read v
operation_by v (Some x) = Write v x
