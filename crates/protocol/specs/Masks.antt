-- The masks of holders, one byte a block (document 02, P7). The rules know nothing of them: they are read off the tables.
use Rattle.std.specs.Prelude.{ℕ, Bool, ◌&&◌, List, length, eqb}
use Rattle.protocol_types.specs.Lists.{at, zeros, listed, all}
use Rattle.protocol_types.specs.Bits.{mask_of}
use Rattle.protocol.specs.Tables.{Tables, sized, fresh, holds}
use Rattle.protocol.specs.Soundness.{sound}
use Rattle.protocol_types.specs.declared.Setup.{Setup}
use Rattle.protocol_types.specs.declared.Block.{Block}

-- ---- true masks

-- the mask of block b: "bit i set exactly if processor i holds it"
unfoldable pub holders : Setup → Tables → Block → ℕ
holders s t b = mask_of s.processors (λ i. holds s t i b)

-- of the block with number b
abbrev pub holders_at : Setup → Tables → ℕ → ℕ
holders_at s t b = holders s t (record { 0 = b })

-- "one byte a block"
unfoldable pub masks_of : Setup → Tables → List ℕ
masks_of s t = listed s.blocks (holders_at s t)

-- ---- the tables with the masks that are lent beside them, true or not

pub record Masked : Type 0 where
  pub tables : Tables
  pub masks : List ℕ

abbrev pub masked : Tables → List ℕ → Masked
masked t h = record { tables = t; masks = h }

-- the tables with their true masks
abbrev pub with_masks : Setup → Tables → Masked
with_masks s t = masked t (masks_of s t)

-- fresh tables and masks: "Starting fills all tables with 0"
unfoldable pub fresh_masked : Setup → Masked
fresh_masked s = masked (fresh s) (zeros s.blocks)

-- 2: the lengths of the tables, and a byte for each block
unfoldable pub sized_masked : Setup → Masked → Bool
sized_masked s x = sized s x.tables && eqb (length x.masks) s.blocks

-- each block's mask is the true one
unfoldable pub true_masks : Setup → Masked → Bool
true_masks s x = all s.blocks (λ b. eqb (at x.masks b) (holders_at s x.tables b))

-- 20: "Tables with a false mask are unsound"
unfoldable pub sound_masked : Setup → Masked → Bool
sound_masked s x = sound s x.tables && true_masks s x
