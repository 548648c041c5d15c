-- The scan as a test of each processor, which is a test of each of its lines, and of each block's mask; by the definitions.
-- Assumes nothing.
use Prim.Native.Nat.{ℕ}
use mathlib.Core.Path.{◌≡◌, refl}
use mathlib.Core.Bool.{Bool}
use lib.Dec.{eqb}
use Rattle.protocol_types.specs.Lists.{at, all}
use Rattle.protocol_types.specs.Board.{line_slot}
use Rattle.protocol.specs.Tables.{Tables}
use Rattle.protocol.specs.Soundness.{sound_line, sound}
use Rattle.protocol.specs.Masks.{Masked, holders_at, true_masks}
use Rattle.protocol_types.specs.declared.Setup.{Setup}

-- ---- the tests of line l of processor i, of processor i, and of block b's mask

abbrev pub line_test : Setup → Tables → ℕ → ℕ → Bool
line_test s t i l = sound_line s t i l (line_slot s i l)

abbrev pub cache_test : Setup → Tables → ℕ → Bool
cache_test s t i = all s.lines (line_test s t i)

pub sound-is : (s : Setup) (t : Tables) → sound s t ≡ all s.processors (cache_test s t)
unfolding sound
sound-is s t = refl

abbrev pub mask_test : Setup → Masked → ℕ → Bool
mask_test s x b = eqb (at x.masks b) (holders_at s x.tables b)

pub true-masks-is : (s : Setup) (x : Masked) → true_masks s x ≡ all s.blocks (mask_test s x)
unfolding true_masks
true-masks-is s x = refl
