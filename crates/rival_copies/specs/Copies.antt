-- A rival's copies in lent tables.
use Rattle.std.specs.Prelude.{ℕ, Bool, true, false, not, ◌&&◌, cond, List, set, eqb}
use Rattle.protocol_types.specs.Board.{slot}
use Rattle.protocol.specs.Rival.{Rival, rival, keeps, shared}
use Rattle.protocol_types.specs.declared.Setup.{Setup}
use Rattle.protocol_types.specs.declared.Block.{Block}
use Rattle.protocol_types.specs.declared.Entry.{Entry}
use Rattle.protocol_types.specs.declared.Entry.TheVariants.{Complete, CompleteByBroadcast}

-- ---- the rival of three lent buffers

-- a contract names the moment: as they came in (`.old`, or `.now` of a buffer that is only read) and as they are left (`.new`)
abbrev pub rival_lent : List ℕ → List ℕ → List ℕ → Rival
rival_lent b h m = rival b h m

-- the copies that came in, with marks m
abbrev pub rival_marked : List ℕ → List ℕ → List ℕ → Rival
rival_marked b h m = rival b h m

-- ---- steps of what an entry does

-- processor j is another one than i and has a copy of block b
unfoldable pub another_keeps : Setup → Rival → ℕ → Block → ℕ → Bool
another_keeps s r i b j = not (eqb j i) && keeps s r j b

-- these marks, with b's cleared at processor j
abbrev pub copy_unmarked : Setup → Rival → Block → ℕ → List ℕ → List ℕ
copy_unmarked s r b j marks = cond (keeps s r j b) (set marks (slot s j b) 0) marks

-- b is marked at processor i where it has one holder
abbrev pub lone_marked : Setup → Rival → ℕ → Block → List ℕ
lone_marked s r i b = cond (shared s r i b) r.marks (set r.marks (slot s i b) 1)

-- the completion of this kind
abbrev pub completion : Bool → Entry
completion true = CompleteByBroadcast
completion false = Complete
