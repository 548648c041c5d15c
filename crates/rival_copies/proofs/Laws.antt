-- The search for another copy, and the processor that an entry names.
use Prim.Native.Nat.{ℕ, ◌<◌}
use mathlib.Core.Path.{◌≡◌, refl}
use lib.Dec.{ltb}
use Rattle.protocol_types.specs.Lists.{first, other}
use Rattle.protocol.specs.Rival.{Rival, shared, move_refusal}
use Rattle.protocol_types.specs.declared.Setup.{Setup}
use Rattle.protocol_types.specs.declared.Block.{Block}
use Rattle.protocol.proofs.Rival.{move-legal}
use Rattle.rival_copies.specs.Copies.{another_keeps}

-- another one has a copy if the search for one ends below the number of processors
pub shared-is : (s : Setup) (r : Rival) (i : ℕ) (b : Block) → ltb (first s.processors (another_keeps s r i b)) s.processors ≡ shared s r i b
unfolding shared other another_keeps
shared-is s r i b = refl

-- an entry that is not refused names a processor
pub names_processor : (s : Setup) (i : ℕ) (b : Block) (x : ℕ) → move_refusal s i b x ≡ 0 → i < s.processors
names_processor s i b x e = (move-legal s i b x e).processor
