-- Laws of lists for a loop that overwrites the words from the front, for what a part of the words leaves in the whole, and of the tests of a part.
-- Assumes nothing.
use mathlib.Core.Path.{◌≡◌, refl, sym, ap, subst, ◌∙◌}
use mathlib.Core.Bool.{Bool, true, false, ◌&&◌}
use mathlib.Core.List.{List, [], ◌∷◌, ◌++◌, append_assoc, append-nil}
use Prim.Native.Nat.{ℕ, zero, suc, ◌+◌, ◌-◌, ◌≤◌, ◌<◌}
use native.Mathlib.Nat.{add-sub_cancel_left, not-suc-le-zero, le_of_suc-le-suc}
use native.Mathlib.Decide.{dec_lt}
use native.Mathlib.Numerals.{add-one}
use native.Mathlib.Omega.{arith}
use lib.ListN.{length, take, drop, set, get_or, replicate, length-drop, length-replicate}
use lib.Seq.{sets, sets-eq, take-length, drop-length, drop-drop, length-take-le}
use lib.Pointwise.{pointwise}
use Rattle.std.specs.List.{list_all}
use Rattle.std.proofs.lemmas.List.{get_or-take, get_or-drop}
use Rattle.protocol_types.specs.Lists.{at, part, zeros, all}

-- ---- a loop that overwrites xs by ys from the front

front-suc : (ys xs : List ℕ) (i : ℕ) → i < length ys → i < length xs → set (take i ys ++ drop i xs) i (get_or ys i 0) ≡ take (suc i) ys ++ drop (suc i) xs
front-suc [] xs i h k = absurd (not-suc-le-zero h)
front-suc (y ∷ ys) [] i h k = absurd (not-suc-le-zero k)
front-suc (y ∷ ys) (x ∷ xs) zero h k = refl
front-suc (y ∷ ys) (x ∷ xs) (suc i) h k = ap (λ (r : List ℕ). y ∷ r) (front-suc ys xs i (le_of_suc-le-suc h) (le_of_suc-le-suc k))

-- a turn of the loop
pub front-more : (ys xs : List ℕ) (i : ℕ) → i < length ys → i < length xs → set (take i ys ++ drop i xs) i (get_or ys i 0) ≡ take (i + 1) ys ++ drop (i + 1) xs
front-more ys xs i h k = rw add-one (front-suc ys xs i h k)

-- its end
pub front-all : (ys xs : List ℕ) (i : ℕ) → length ys ≡ i → length xs ≡ i → take i ys ++ drop i xs ≡ ys
front-all ys xs i h k =
    subst (λ (n : ℕ). take n ys ++ drop i xs ≡ ys) h
    (subst (λ (n : ℕ). take (length ys) ys ++ drop n xs ≡ ys) k (rw (take-length, drop-length) (append-nil ys)))

-- a turn of a loop that sets every element to v
set-suc : {X : Type 0} (v : X) (xs : List X) (i : ℕ) → i < length xs → set (replicate i v ++ drop i xs) i v ≡ replicate (suc i) v ++ drop (suc i) xs
set-suc v [] i h = absurd (not-suc-le-zero h)
set-suc v (x ∷ xs) zero h = refl
set-suc {X} v (x ∷ xs) (suc i) h = ap (λ (r : List X). v ∷ r) (set-suc v xs i (le_of_suc-le-suc h))

pub set-more : {X : Type 0} (v : X) (xs : List X) (i : ℕ) → i < length xs → set (replicate i v ++ drop i xs) i v ≡ replicate (i + 1) v ++ drop (i + 1) xs
set-more v xs i h = rw add-one (set-suc v xs i h)

-- its end
pub set-every : {X : Type 0} (v : X) (xs : List X) (i : ℕ) → length xs ≡ i → replicate i v ++ drop i xs ≡ replicate (length xs) v
set-every v xs i h = rw (← h, drop-length) (append-nil (replicate (length xs) v))

-- ---- a part that was lent as `&mut xs[a..a + n]`

pub part_length : (xs : List ℕ) (a n : ℕ) → a + n ≤ length xs → length (part xs a n) ≡ n
part_length xs a n h = length-take-le n (drop a xs) (simp length-drop (omega arith))

-- what the borrow checker puts together again: the words before it, the part as it is left, and the words after it
abbrev whole : List ℕ → ℕ → ℕ → List ℕ → List ℕ
whole xs a n ys = take a xs ++ (ys ++ drop n (drop a xs))

whole-sets : (xs ys : List ℕ) (a n : ℕ) → a + n ≤ length xs → length ys ≡ n → whole xs a n ys ≡ sets xs a ys
whole-sets xs ys a n h e =
    let r : a + length ys ≤ length xs = omega arith in
    rw (drop-drop n a xs, sets-eq ys xs a r, e, append_assoc)

-- a part that was cleared
pub part_cleared : (xs ys : List ℕ) (a n : ℕ) → a + n ≤ length xs → ys ≡ zeros (length (part xs a (a + n - a))) → whole xs a (a + n - a) ys ≡ sets xs a (zeros n)
part_cleared xs ys a n h e = rw (e, add-sub_cancel_left a n, part_length xs a n h) (whole-sets xs (zeros n) a n h (length-replicate n 0))

-- a part that took the n elements of another list from index b
pub part_copied : (xs ys from : List ℕ) (a b n : ℕ) → a + n ≤ length xs → b + n ≤ length from → ys ≡ part from b n → whole xs a (a + n - a) ys ≡ sets xs a (part from b n)
part_copied xs ys from a b n h k e = rw (e, add-sub_cancel_left a n) (whole-sets xs (part from b n) a n h (part_length from b n k))

-- element o of a part
at-part : (xs : List ℕ) (a n o : ℕ) → o < n → at (part xs a n) o ≡ at xs (a + o)
at-part xs a n o h = get_or-take n (drop a xs) o 0 h ∙ get_or-drop a xs o 0

-- ---- a test of the numbers below n

both_false : (p q : Bool) → p ≡ false → p && q ≡ false
both_false p q e = rw e

right-false : (p q : Bool) → q ≡ false → p && q ≡ false
right-false true q e = e
right-false false q e = refl

and_assoc : (p q r : Bool) → (p && q) && r ≡ p && (q && r)
and_assoc true q r = refl
and_assoc false q r = refl

module _ (P : ℕ → Bool) where
  -- a turn of a loop in which each number has passed
  pub all_more : (n : ℕ) → all n P ≡ true → P n ≡ true → all (n + 1) P ≡ true
  all_more n e h = rw (add-one n, e) h

  -- one that does not pass
  pub all-false : (n i : ℕ) → i < n → P i ≡ false → all n P ≡ false
  all-false zero i h e = absurd (omega arith)
  all-false (suc n) i h e = go (dec_lt i n) (λ l. all-false n i l e)
    where
      go : Dec (i < n) → (i < n → all n P ≡ false) → all n P && P n ≡ false
      go (yes l) rec = both_false (all n P) (P n) (rec l)
      go (no l) rec = let z : i ≡ n = omega arith in right-false (all n P) (P n) (subst (λ (k : ℕ). P k ≡ false) z e)

  -- number 0 apart from the others
  all-front : (n : ℕ) → all (suc n) P ≡ P 0 && all n (λ o. P (suc o))
  all-front zero = and_true (P 0)
    where
      and_true : (p : Bool) → true && p ≡ p && true
      and_true true = refl
      and_true false = refl
  all-front (suc n) = rw (all-front n) (and_assoc (P 0) (all n (λ o. P (suc o))) (P (suc n)))

-- the test counts below n only
all-same : (P Q : ℕ → Bool) (n : ℕ) → ((o : ℕ) → o < n → P o ≡ Q o) → all n P ≡ all n Q
all-same P Q zero e = refl
all-same P Q (suc n) e = rw (all-same P Q n (λ o h. e o (omega arith)), e n (omega arith))

-- ---- a test of the elements of a part, and of those of two parts, side by side

list_all-is : (p : ℕ → Bool) (xs : List ℕ) → list_all p xs ≡ all (length xs) (λ o. p (at xs o))
list_all-is p [] = refl
list_all-is p (x ∷ xs) = ap (λ b. p x && b) (list_all-is p xs) ∙ sym (all-front (λ o. p (at (x ∷ xs) o)) (length xs))

pub pointwise-is : (p : ℕ → ℕ → Bool) (xs ys : List ℕ) → length ys ≡ length xs → pointwise p xs ys ≡ all (length xs) (λ o. p (at xs o) (at ys o))
pointwise-is p [] [] e = refl
pointwise-is p [] (y ∷ ys) e = absurd (omega arith)
pointwise-is p (x ∷ xs) [] e = absurd (omega arith)
pointwise-is p (x ∷ xs) (y ∷ ys) e =
    ap (λ b. p x y && b) (pointwise-is p xs ys (omega arith)) ∙ sym (all-front (λ o. p (at (x ∷ xs) o) (at (y ∷ ys) o)) (length xs))

pub part_tested : (p : ℕ → Bool) (xs : List ℕ) (a n : ℕ) → a + n ≤ length xs → list_all p (part xs a n) ≡ all n (λ o. p (at xs (a + o)))
part_tested p xs a n h =
    list_all-is p (part xs a n) ∙ rw (part_length xs a n h) (all-same (λ o. p (at (part xs a n) o)) (λ o. p (at xs (a + o))) n (λ o l. ap p (at-part xs a n o l)))

pub parts_tested : (p : ℕ → ℕ → Bool) (xs ys : List ℕ) (a b n : ℕ) → a + n ≤ length xs → b + n ≤ length ys
    → pointwise p (part xs a n) (part ys b n) ≡ all n (λ o. p (at xs (a + o)) (at ys (b + o)))
parts_tested p xs ys a b n h k =
    pointwise-is p (part xs a n) (part ys b n) (part_length ys b n k ∙ sym (part_length xs a n h))
    ∙ rw (part_length xs a n h) (all-same (λ o. p (at (part xs a n) o) (at (part ys b n) o)) (λ o. p (at xs (a + o)) (at ys (b + o))) n (λ o l. rw (at-part xs a n o l, at-part ys b n o l)))
