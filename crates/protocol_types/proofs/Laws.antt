-- Laws of tests, of searches and of stores into lists. Nothing here knows of caches.
use Prim.Native.Nat.{ℕ, zero, suc, ◌+◌, ◌≤◌, ◌<◌}
use mathlib.Core.Path.{◌≡◌, refl, sym, ◌∙◌}
use mathlib.Core.Logic.{◌≢◌}
use mathlib.Core.Bool.{Bool, true, false, ◌&&◌, not, cond, true≢false}
use mathlib.Core.List.{List, [], ◌∷◌}
use native.Mathlib.Omega.{arith}
use lib.ListN.{length, set}
use lib.Seq.{get_or-set_same, get_or-set_other}
use lib.Dec.{ltb, eqb}
use borrow.Author.Tests.{not-true, not-false, ltb-true, ltb-false, eqb-true, eqb-false, eq-eqb, ne_eqb}
use Rattle.protocol_types.specs.Lists.{at, zeros, first_from, first, another, other, smaller, argmin_below, argmin, all}

-- ---- a test and what it says

pub data Same (a b : ℕ) : Type 0 where
  same : a ≡ b → eqb a b ≡ true → Same a b
  apart : a ≢ b → eqb a b ≡ false → Same a b

pub same? : (a b : ℕ) → Same a b
same? a b = go (eqb a b) refl
  where
    go : (c : Bool) → eqb a b ≡ c → Same a b
    go true e = same (eqb-true a b e) e
    go false e = apart (eqb-false a b e) e

pub data Under (a b : ℕ) : Type 0 where
  under : a < b → ltb a b ≡ true → Under a b
  over : b ≤ a → ltb a b ≡ false → Under a b

pub under? : (a b : ℕ) → Under a b
under? a b = go (ltb a b) refl
  where
    go : (c : Bool) → ltb a b ≡ c → Under a b
    go true e = under (ltb-true a b e) e
    go false e = over (ltb-false a b e) e

pub data Known (c : Bool) : Type 0 where
  sure : c ≡ true → Known c
  not_so : c ≡ false → Known c

pub known : (c : Bool) → Known c
known true = sure refl
known false = not_so refl

-- a test's result r, as `if !r` leaves it
pub failed : {r t : Bool} → r ≡ t → not r ≡ true → t ≡ false
failed {r} e n = sym e ∙ not-true r n

pub passed : {r t : Bool} → r ≡ t → not r ≡ false → t ≡ true
passed {r} e n = sym e ∙ not-false r n

pub both_true : (a b : Bool) → a && b ≡ true → (a ≡ true) × (b ≡ true)
both_true true b e = (refl, e)
both_true false b e = absurd (true≢false (sym e))

pub and-true : {a b : Bool} → a ≡ true → b ≡ true → a && b ≡ true
and-true p q = rw p q

-- a choice has what both of its results have, each under its test
pub choice {ℓ κ} : {A : Type ℓ} (Q : A → Type κ) (c : Bool) {x y : A} → (c ≡ true → Q x) → (c ≡ false → Q y) → Q (cond c x y)
choice Q true f g = f refl
choice Q false f g = g refl

-- two choices on one test
pub both {ℓ κ μ} : {A : Type ℓ} {B : Type κ} (R : A → B → Type μ) (c : Bool) {x y : A} {z w : B} → (c ≡ true → R x z) → (c ≡ false → R y w)
    → R (cond c x y) (cond c z w)
both R true f g = f refl
both R false f g = g refl

-- a field of a choice between two records that agree on it
pub agree {ℓ κ} : {A : Type ℓ} {B : Type κ} (φ : A → B) (c : Bool) {x y : A} → φ x ≡ φ y → φ (cond c x y) ≡ φ y
agree φ true e = e
agree φ false e = refl

-- each of three, and of four
pub three-true : (a b c : Bool) → a && b && c ≡ true → (a ≡ true) × (b ≡ true) × (c ≡ true)
three-true a b c e = let x = both_true (a && b) c e in let y = both_true a b x.0 in (y.0, y.1, x.1)

pub four-true : (a b c d : Bool) → a && b && c && d ≡ true → (a ≡ true) × (b ≡ true) × (c ≡ true) × (d ≡ true)
four-true a b c d e = let x = both_true (a && b && c) d e in let y = three-true a b c x.0 in (y.0, y.1, y.2, x.1)

-- what a choice that passes says of its results
pub chosen : (c x y : Bool) → cond c x y ≡ true → (c ≡ true → x ≡ true) × (c ≡ false → y ≡ true)
chosen true x y e = (λ _. e, λ z. absurd (true≢false z))
chosen false x y e = (λ z. absurd (true≢false (sym z)), λ _. e)

-- a choice that gives 0, where one of its results is not 0
pub chosen-zero : (c : Bool) (n m : ℕ) → m ≢ 0 → cond c n m ≡ 0 → (c ≡ true) × (n ≡ 0)
chosen-zero true n m d e = (refl, e)
chosen-zero false n m d e = absurd (d e)

-- ---- the search

pub first_from-bound : (d j : ℕ) (P : ℕ → Bool) → first_from d j P ≤ j + d
first_from-bound zero j P = omega arith
first_from-bound (suc d) j P = choice (λ z. z ≤ j + suc d) (P j) (λ e. omega arith) (λ e. omega (arith, first_from-bound d (suc j) P))

pub first_from-holds : (d j : ℕ) (P : ℕ → Bool) → first_from d j P < j + d → P (first_from d j P) ≡ true
first_from-holds zero j P h = absurd (omega arith)
first_from-holds (suc d) j P h =
    choice (λ z. z < j + suc d → P z ≡ true) (P j) (λ e l. e) (λ e l. first_from-holds d (suc j) P (omega arith)) h

pub first_from-before : (d j : ℕ) (P : ℕ → Bool) (m : ℕ) → j ≤ m → m < first_from d j P → P m ≡ false
first_from-before zero j P m l u = absurd (omega arith)
first_from-before (suc d) j P m l u =
    choice (λ z. m < z → P m ≡ false) (P j) (λ e g. absurd (omega arith))
    (λ e g. go e (λ l'. first_from-before d (suc j) P m l' g) (same? m j)) u
  where
    go : P j ≡ false → (suc j ≤ m → P m ≡ false) → Same m j → P m ≡ false
    go e f (same p q) = rw p e
    go e f (apart p q) = f (omega arith)

pub first_holds : (n : ℕ) (P : ℕ → Bool) → first n P < n → P (first n P) ≡ true
unfolding first
first_holds n P h = first_from-holds n 0 P (omega arith)

-- none before it passes
pub first-before : (n : ℕ) (P : ℕ → Bool) (m : ℕ) → m < first n P → P m ≡ false
unfolding first
first-before n P m l = first_from-before n 0 P m (omega arith) l

pub first-none : (n : ℕ) (P : ℕ → Bool) → n ≤ first n P → (m : ℕ) → m < n → P m ≡ false
first-none n P h m l = first-before n P m (omega arith)

-- what the search for another one finds
pub record Another (i : ℕ) (P : ℕ → Bool) (j : ℕ) : Type 0 where
  pub differs : j ≢ i
  pub passes : P j ≡ true

pub another-true : (i : ℕ) (P : ℕ → Bool) (j : ℕ) → another i P j ≡ true → Another i P j
another-true i P j e = let e' = both_true _ _ e in record { differs = eqb-false _ _ (not-true _ e'.0); passes = e'.1 }

pub true-another : (i : ℕ) (P : ℕ → Bool) (j : ℕ) → Another i P j → another i P j ≡ true
true-another i P j a = rw (ne_eqb j i a.differs) a.passes

pub other-found : (n i : ℕ) (P : ℕ → Bool) → other n i P < n → Another i P (other n i P)
unfolding other
other-found n i P h = another-true i P (other n i P) (first_holds n (another i P) h)

pub other_none : (n i : ℕ) (P : ℕ → Bool) → n ≤ other n i P → (m : ℕ) → m < n → m ≢ i → P m ≡ false
unfolding other
other_none n i P h m l d = rw (ne_eqb m i d) at (first-none n (another i P) h m l)

-- one that passes is found
pub other-some : (n i : ℕ) (P : ℕ → Bool) (m : ℕ) → m < n → m ≢ i → P m ≡ true → ltb (other n i P) n ≡ true
other-some n i P m l d e = go (under? (other n i P) n)
  where
    go : Under (other n i P) n → ltb (other n i P) n ≡ true
    go (under h p) = p
    go (over h p) = absurd (true≢false (sym e ∙ other_none n i P h m l d))

-- ---- the smallest

module _ (P : ℕ → Bool) (w : ℕ → ℕ) where
  -- number k passes, is below m, has the smallest w of those that pass below m, and is the lowest among equals
  pub record Smallest (m k : ℕ) : Type 0 where
    pub below : k < m
    pub passes : P k ≡ true
    pub smallest : (j : ℕ) → j < m → P j ≡ true → w k ≤ w j
    pub lowest : (j : ℕ) → j < k → P j ≡ true → w k < w j

  -- there is only one
  pub smallest-only : (m k j : ℕ) → Smallest m k → Smallest m j → k ≡ j
  smallest-only m k j a b = go (under? k j) (under? j k)
    where
      go : Under k j → Under j k → k ≡ j
      go (under l _) d = absurd (omega (arith, a.smallest j b.below b.passes, b.lowest k l a.passes))
      go (over h _) (under l _) = absurd (omega (arith, b.smallest k a.below a.passes, a.lowest j l b.passes))
      go (over h _) (over l _) = omega arith

  -- with number m besides: k stays where m is no smaller, and m is next where it is smaller than all before
  smallest-stays : (m k : ℕ) → Smallest m k → (P m ≡ true → w k ≤ w m) → Smallest (suc m) k
  smallest-stays m k a h =
      record { below = omega (arith, a.below); passes = a.passes; smallest = λ j u q. go j u q (same? j m); lowest = a.lowest }
    where
      go : (j : ℕ) → j < suc m → P j ≡ true → Same j m → w k ≤ w j
      go j u q (same e _) = rw e (h (rw e at q))
      go j u q (apart d _) = a.smallest j (omega arith) q

  smallest-next : (m : ℕ) → P m ≡ true → ((j : ℕ) → j < m → P j ≡ true → w m < w j) → Smallest (suc m) m
  smallest-next m p h = record { below = omega arith; passes = p; smallest = λ j u q. go j u q (same? j m); lowest = h }
    where
      go : (j : ℕ) → j < suc m → P j ≡ true → Same j m → w m ≤ w j
      go j u q (same e _) = rw e (omega arith)
      go j u q (apart d _) = omega (arith, h j (omega arith) q)

  module _ (none : ℕ) where
    -- what the search below m gives
    pub data Argmin (m k : ℕ) : Type 0 where
      none_pass : k ≡ none → ((j : ℕ) → j < m → P j ≡ false) → Argmin m k
      some-pass : Smallest m k → Argmin m k

    pub argmin-below : (m : ℕ) → m ≤ none → Argmin m (argmin_below none P w m)
    argmin-below zero l = none_pass refl (λ j u. absurd (omega arith))
    argmin-below (suc m) l = go (argmin_below none P w m) (known (P m)) (argmin-below m (omega arith))
      where
        none_yet : P m ≡ false → ((j : ℕ) → j < m → P j ≡ false) → (j : ℕ) → j < suc m → Same j m → P j ≡ false
        none_yet p f j u (same e _) = rw e p
        none_yet p f j u (apart d _) = f j (omega arith)

        go : (k : ℕ) → Known (P m) → Argmin m k → Argmin (suc m) (smaller none P w k m)
        go k (sure p) (none_pass e f) = rw (p, eq-eqb k none e) (some-pass (smallest-next m p (λ j u q. absurd (true≢false (sym q ∙ f j u)))))
        go k (sure p) (some-pass a) =
            rw (p, ne_eqb k none (omega (arith, a.below)))
            (choice (Argmin (suc m)) (ltb (w m) (w k))
            (λ e. some-pass (smallest-next m p (λ j u q. omega (arith, ltb-true (w m) (w k) e, a.smallest j u q))))
            (λ e. some-pass (smallest-stays m k a (λ q. ltb-false (w m) (w k) e))))
        go k (not_so p) (none_pass e f) = rw p (none_pass e (λ j u. none_yet p f j u (same? j m)))
        go k (not_so p) (some-pass a) = rw p (some-pass (smallest-stays m k a (λ q. absurd (true≢false (sym q ∙ p)))))

    -- where none passes, and one number further, where that one does
    pub argmin-none : (m : ℕ) → ((j : ℕ) → j < m → P j ≡ false) → argmin_below none P w m ≡ none
    argmin-none zero f = refl
    argmin-none (suc m) f = rw (f m (omega arith)) (argmin-none m (λ j u. f j (omega arith)))

    pub argmin-one : (m : ℕ) → ((j : ℕ) → j < m → P j ≡ false) → P m ≡ true → argmin_below none P w (suc m) ≡ m
    argmin-one m f p = rw (argmin-none m f, p, eq-eqb none none refl)

  pub argmin-is : (n : ℕ) → Argmin n n (argmin n P w)
  argmin-is n = argmin-below n n (omega arith)

-- ---- every number below n

pub all_true : (n : ℕ) (P : ℕ → Bool) → all n P ≡ true → (m : ℕ) → m < n → P m ≡ true
all_true zero P h m l = absurd (omega arith)
all_true (suc n) P h m l = go (both_true _ _ h) (λ l'. all_true n P (both_true _ _ h).0 m l') (same? m n)
  where
    go : (all n P ≡ true) × (P n ≡ true) → (m < n → P m ≡ true) → Same m n → P m ≡ true
    go e f (same p q) = rw p e.1
    go e f (apart p q) = f (omega arith)

pub true-all : (n : ℕ) (P : ℕ → Bool) → ((m : ℕ) → m < n → P m ≡ true) → all n P ≡ true
true-all zero P f = refl
true-all (suc n) P f = and-true (true-all n P (λ m l. f m (omega arith))) (f n (omega arith))

-- ---- a table after a store

pub at_set_same : (l : List ℕ) (k x : ℕ) → k < length l → at (set l k x) k ≡ x
at_set_same l k x h = get_or-set_same l k x 0 h

pub at_set_other : (l : List ℕ) (k x m : ℕ) → m ≢ k → at (set l k x) m ≡ at l m
at_set_other l k x m d = get_or-set_other l k m x 0 d

-- a stored 0 is read, in range or not
pub at-set-zero : (l : List ℕ) (k : ℕ) → at (set l k 0) k ≡ 0
at-set-zero [] k = refl
at-set-zero (x ∷ l) zero = refl
at-set-zero (x ∷ l) (suc k) = at-set-zero l k

-- what an element and a stored value have, the element has after the store
pub at_set : (Q : ℕ → Type 0) (l : List ℕ) (k x j : ℕ) → Q x → Q (at l j) → Q (at (set l k x) j)
at_set Q [] k x j p q = q
at_set Q (y ∷ l) zero x zero p q = p
at_set Q (y ∷ l) zero x (suc j) p q = q
at_set Q (y ∷ l) (suc k) x zero p q = q
at_set Q (y ∷ l) (suc k) x (suc j) p q = at_set Q l k x j p q

pub at-zeros : (n k : ℕ) → at (zeros n) k ≡ 0
at-zeros zero k = refl
at-zeros (suc n) zero = refl
at-zeros (suc n) (suc k) = at-zeros n k
