-- Stores of whole rows: a slot's words, and a block's words in main memory.
use Prim.Native.Nat.{ℕ, zero, suc, ◌+◌, ◌*◌, ◌≤◌, ◌<◌}
use mathlib.Core.Path.{◌≡◌, refl, ap, ◌∙◌}
use mathlib.Core.Logic.{◌≢◌}
use mathlib.Core.List.{List, [], ◌∷◌}
use native.Mathlib.Omega.{arith}
use native.Mathlib.Nat.{suc-mul, mul-le-mul_right, add-zero}
use lib.ListN.{length, set, drop, length-set, length-take, length-drop}
use lib.Seq.{sets, get_or-take, get_or-drop}
use Rattle.protocol_types.specs.Lists.{at, part}
use Rattle.protocol_types.specs.Board.{word_index}
use Rattle.protocol_types.specs.declared.Setup.{Setup}
use Rattle.protocol_types.proofs.Laws.{Under, under, over, under?, at_set_same, at_set_other}

-- ---- stores from i on

pub at-sets-before : (vs l : List ℕ) (i m : ℕ) → m < i → at (sets l i vs) m ≡ at l m
at-sets-before [] l i m h = refl
at-sets-before (v ∷ vs) l i m h = at-sets-before vs (set l i v) (suc i) m (omega arith) ∙ at_set_other l i v m (omega arith)

pub at-sets-after : (vs l : List ℕ) (i m : ℕ) → i + length vs ≤ m → at (sets l i vs) m ≡ at l m
at-sets-after [] l i m h = refl
at-sets-after (v ∷ vs) l i m h = at-sets-after vs (set l i v) (suc i) m (omega arith) ∙ at_set_other l i v m (omega arith)

pub at-sets-in : (vs l : List ℕ) (i o : ℕ) → o < length vs → i + length vs ≤ length l → at (sets l i vs) (i + o) ≡ at vs o
at-sets-in [] l i o h f = absurd (omega arith)
at-sets-in (v ∷ vs) l i zero h f =
    ap (at (sets (set l i v) (suc i) vs)) (add-zero i) ∙ at-sets-before vs (set l i v) (suc i) i (omega arith) ∙ at_set_same l i v (omega arith)
at-sets-in (v ∷ vs) l i (suc o) h f =
    ap (at (sets (set l i v) (suc i) vs)) (omega arith) ∙ at-sets-in vs (set l i v) (suc i) o (omega arith) (omega (arith, length-set l i v))

-- ---- a row, of a table of any length

module _ (s : Setup) (l : List ℕ) where
  pub row-le : (k : ℕ) → length (part l (word_index s k 0) s.words) ≤ s.words
  row-le k = omega (arith, length-take s.words (drop (word_index s k 0) l))

  pub at_row : (k o : ℕ) → o < s.words → at (part l (word_index s k 0) s.words) o ≡ at l (word_index s k o)
  unfolding word_index
  at_row k o h = get_or-take s.words (drop (word_index s k 0) l) o 0 h ∙ get_or-drop (word_index s k 0) l o 0 ∙ ap (at l) (omega arith)

  -- a row stored at k leaves the other rows
  pub at-sets-other : (k m : ℕ) (vs : List ℕ) (o : ℕ) → m ≢ k → length vs ≤ s.words → o < s.words
      → at (sets l (word_index s k 0) vs) (word_index s m o) ≡ at l (word_index s m o)
  unfolding word_index
  at-sets-other k m vs o d e u = go (under? m k)
    where
      go : Under m k → at (sets l (word_index s k 0) vs) (word_index s m o) ≡ at l (word_index s m o)
      go (under h q) =
          at-sets-before vs l (word_index s k 0) (word_index s m o)
          (omega (arith, suc-mul m s.words, mul-le-mul_right {m = suc m} {n = k} s.words h))
      go (over h q) =
          let g : suc k ≤ m = omega arith in
          at-sets-after vs l (word_index s k 0) (word_index s m o)
          (omega (arith, suc-mul k s.words, mul-le-mul_right {m = suc k} {n = m} s.words g))

-- ---- a row, of a table of n rows

-- row k of n rows of p ends within the table
pub ends-within : (k n p : ℕ) → k < n → k * p + p ≤ n * p
ends-within k n p h = omega (arith, suc-mul k p, mul-le-mul_right {m = suc k} {n = n} p h)

pub row-end : (s : Setup) (k n : ℕ) → k < n → word_index s k 0 + s.words ≤ n * s.words
unfolding word_index
row-end s k n h = omega (arith, ends-within k n s.words h)

module _ (s : Setup) (l : List ℕ) (n : ℕ) (size : length l ≡ n * s.words) where
  pub length-row : (k : ℕ) → k < n → length (part l (word_index s k 0) s.words) ≡ s.words
  length-row k h = omega (arith, length-take s.words (drop (word_index s k 0) l), length-drop (word_index s k 0) l, size, row-end s k n h)

  pub at-sets-row : (k : ℕ) (vs : List ℕ) (o : ℕ) → k < n → length vs ≡ s.words → o < s.words
      → at (sets l (word_index s k 0) vs) (word_index s k o) ≡ at vs o
  unfolding word_index
  at-sets-row k vs o h e u =
      ap (at (sets l (word_index s k 0) vs)) (omega arith) ∙ at-sets-in vs l (word_index s k 0) o (omega arith) (omega (arith, size, row-end s k n h))
