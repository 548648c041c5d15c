-- The lent tables as contracts speak of them: what five buffers hold, and a sixth for the masks of holders. A contract names the moment: as they came in (`.old`, or `.now` of a buffer that is only read) and as they are left (`.new`).
use Rattle.std.specs.Prelude.{ℕ, ◌*◌, ◌≡◌, List, length}
use Rattle.protocol_types.specs.Board.{slots, variables}
use Rattle.protocol.specs.Tables.{Tables, tables}
use Rattle.protocol.specs.Masks.{Masked, masked, masks_of}
use Rattle.protocol_types.specs.declared.Setup.{Setup}

-- the tables of five lent buffers. A table that is not lent is any list: whatever it holds, it stays
abbrev pub lent : List ℕ → List ℕ → List ℕ → List ℕ → List ℕ → Tables
lent b c m w g = tables b c m w g

-- ---- with the masks of holders (document 02, P7), h of a sixth buffer

abbrev pub lent_masked : List ℕ → List ℕ → List ℕ → List ℕ → List ℕ → List ℕ → Masked
lent_masked b c m w g h = masked (lent b c m w g) h

-- the lent masks are those of tables t
abbrev pub TrueMasks : Setup → Tables → List ℕ → Type 0
TrueMasks s t h = h ≡ masks_of s t

-- ---- functions that are lent only some of the tables

-- the lengths of `Sized`, of one lent table: a number for each slot, for each word of each slot, and for each variable
abbrev pub PerSlot : Setup → List ℕ → Type 0
PerSlot s l = length l ≡ slots s

abbrev pub PerSlotWord : Setup → List ℕ → Type 0
PerSlotWord s l = length l ≡ slots s * s.words

abbrev pub PerVariable : Setup → List ℕ → Type 0
PerVariable s l = length l ≡ variables s
