-- A look's offset and length name the part that it shows, and where it shows one, its place fits: by what the test of a look tells, and the rows of the words.
-- Assumes nothing.
use Prim.Native.Nat.{ℕ, zero, suc, ◌*◌, ◌≤◌, ◌<◌}
use mathlib.Core.Path.{◌≡◌, refl, ap}
use mathlib.Core.Bool.{Bool, true, false, cond}
use mathlib.Core.List.{List, [], ◌∷◌}
use native.Mathlib.Omega.{arith}
use lib.ListN.{length, take, drop}
use lib.Dec.{eqb}
use borrow.Author.Tests.{eqb-true, eq-eqb, ne_eqb}
use Rattle.protocol_types.specs.Lists.{part}
use Rattle.protocol_types.specs.Board.{slot, slots, word_index}
use Rattle.protocol.specs.Runs.{looked}
use Rattle.protocol_types.specs.declared.Setup.{Setup}
use Rattle.protocol_types.specs.declared.Block.{Block}
use Rattle.protocol_types.proofs.Board.{few-line-words}
use Rattle.protocol_types.proofs.Rows.{row-end}
use Rattle.engine_tables.specs.Entries.{seen}
use Rattle.engine_tables.proofs.Tests.{Shown, shown}
use Rattle.host_looks.specs.Looks.{look_length, look_offset}

-- as many of a list as its first n are
first-ones : (n : ℕ) (l : List ℕ) → take n l ≡ take (length (take n l)) l
first-ones zero l = refl
first-ones (suc n) [] = refl
first-ones (suc n) (x ∷ l) = ap (λ (k : List ℕ). x ∷ k) (first-ones n l)

none : (l : List ℕ) → length l ≡ 0 → l ≡ []
none [] h = refl
none (x ∷ l) h = absurd (omega arith)

-- a part from index o on, or none, by its own length
part-shown : (b : Bool) (words : List ℕ) (o n : ℕ) → (e : Bool) → eqb (length (cond b (part words o n) [])) 0 ≡ e
    → cond b (part words o n) [] ≡ part words (cond e 0 o) (length (cond b (part words o n) []))
part-shown true words o n true h = let z = none (part words o n) (eqb-true (length (part words o n)) 0 h) in rw z refl
part-shown true words o n false h = first-ones n (drop o words)
part-shown false words o n true h = refl
part-shown false words o n false h = refl

pub looked-part : (s : Setup) (blocks counters words : List ℕ) (i : ℕ) (b : Block)
    → looked s blocks counters words i b ≡ part words (look_offset s blocks counters words i b) (look_length s blocks counters words i b)
unfolding looked look_offset look_length seen
looked-part s blocks counters words i b = part-shown (seen s blocks counters (length words) i b) words (word_index s (slot s i b) 0) s.words _ refl

pub offset-none : (s : Setup) (blocks counters words : List ℕ) (i : ℕ) (b : Block) → look_length s blocks counters words i b ≡ 0 → 0 ≡ look_offset s blocks counters words i b
unfolding look_offset
offset-none s blocks counters words i b e = rw (eq-eqb _ _ e)

-- a part that is not empty is shown
some : (y : Bool) (l : List ℕ) → (length (cond y l []) ≡ 0 → ⊥) → y ≡ true
some true l h = refl
some false l h = absurd (h refl)

module _ (s : Setup) (blocks counters words : List ℕ) (i : ℕ) (b : Block) (any : look_length s blocks counters words i b ≡ 0 → ⊥) where
  is_seen : seen s blocks counters (length words) i b ≡ true
  unfolding look_length looked seen
  is_seen = some (seen s blocks counters (length words) i b) (part words (word_index s (slot s i b) 0) s.words) any

  pub shows : Shown s (length words) i
  shows = shown s blocks counters (length words) i b is_seen

  pub place-fits : (k : ℕ) → k < slots s → k * s.words ≤ 8192
  unfolding word_index
  place-fits k h = omega (arith, row-end s k (slots s) h, few-line-words s shows.fits)

  pub offset-some : (k : ℕ) → k ≡ slot s i b → k * s.words ≡ look_offset s blocks counters words i b
  unfolding look_offset word_index
  offset-some k e = rw (ne_eqb _ _ any) (omega (arith, ap (λ (j : ℕ). j * s.words) e))
