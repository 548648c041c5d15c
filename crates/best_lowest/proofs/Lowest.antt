-- Laws of the smallest distance of a group: what it is, and what it becomes where a position waits at a smaller distance or waits no more.
use Prim.Native.Nat.{ℕ, zero, suc, ◌+◌, ◌*◌, ◌/◌, ◌≤◌, ◌<◌}
use mathlib.Core.Path.{◌≡◌, refl, sym, ap, ◌∙◌}
use mathlib.Core.Logic.{◌≢◌}
use mathlib.Core.Bool.{cond}
use mathlib.Core.List.{List}
use native.Mathlib.Omega.{arith}
use native.Mathlib.Nat.{div-add-mod, mod-lt}
use lib.ListN.{length, set, length-set, length-replicate}
use lib.Seq.{ext_get_or}
use lib.Dec.{ltb, eqb}
use borrow.Author.Tests.{eqb-true, eqb-false, eq-eqb, ltb-true, ltb-false}
use Rattle.protocol_types.specs.Lists.{at, zeros, listed}
use Rattle.protocol_types.proofs.Laws.{Same, same, apart, same?, Under, under, over, under?, choice, at_set_same, at_set_other, at-zeros}
use Rattle.best_lowest.specs.Lowest.{waiting, nearer, lowest_in, lowest_of_groups, lowest_of}

-- ---- the smaller of two distances

pub data Nearer (a b r : ℕ) : Type 0 where
  this : r ≡ a → (1 ≤ b → (1 ≤ a) × (a ≤ b)) → Nearer a b r
  that : r ≡ b → 1 ≤ b → (1 ≤ a → b ≤ a) → Nearer a b r

pub nearer-is : (a b : ℕ) → Nearer a b (nearer a b)
unfolding nearer
nearer-is a b =
    choice (Nearer a b) (eqb b 0) (λ e. this refl (λ h. absurd (omega (arith, eqb-true b 0 e))))
    (λ e. choice (Nearer a b) (eqb a 0) (λ f. that refl (some b (eqb-false b 0 e)) (λ h. absurd (omega (arith, eqb-true a 0 f))))
    (λ f. choice (Nearer a b) (ltb b a) (λ h. that refl (some b (eqb-false b 0 e)) (λ q. omega (arith, ltb-true b a h)))
    (λ h. this refl (λ q. (some a (eqb-false a 0 f), ltb-false b a h)))))
  where
    some : (n : ℕ) → n ≢ 0 → 1 ≤ n
    some n d = omega arith

-- ---- the smallest of n numbers from x on, of which 0 is none

pub record Lowest (W : ℕ → ℕ) (x n m : ℕ) : Type 0 where
  pub least : (v : ℕ) → x ≤ v → v < x + n → 1 ≤ W v → (1 ≤ m) × (m ≤ W v)
  pub held : 1 ≤ m → (v : ℕ) × (x ≤ v) × (v < x + n) × (W v ≡ m)

-- there is only one
pub lowest-only : (W : ℕ → ℕ) (x n m k : ℕ) → Lowest W x n m → Lowest W x n k → m ≡ k
lowest-only W x n m k a b = go (under? 0 m) (under? 0 k)
  where
    below : (y z : ℕ) → Lowest W x n y → Lowest W x n z → 1 ≤ y → (1 ≤ z) × (z ≤ y)
    below y z p q h =
        let f = p.held h in
        let l = q.least f.0 f.1 f.2 (omega (arith, f.3)) in
        (l.0, omega (arith, l.1, f.3))

    go : Under 0 m → Under 0 k → m ≡ k
    go (under h p) d = let l = below m k a b h in omega (arith, l.0, l.1, (below k m b a l.0).1)
    go (over h p) (under l q) = absurd (omega (arith, (below k m b a l).0))
    go (over h p) (over l q) = omega arith

pub lowest-same : (W' W : ℕ → ℕ) (x n m : ℕ) → ((v : ℕ) → x ≤ v → v < x + n → W' v ≡ W v) → Lowest W x n m → Lowest W' x n m
lowest-same W' W x n m f a =
    record {
      least = λ v l u h. let g = a.least v l u (omega (arith, f v l u)) in (g.0, omega (arith, g.1, f v l u));
      held = λ h. let g = a.held h in (g.0, g.1, g.2, f g.0 g.1 g.2 ∙ g.3);
    }

lowest-more : (W : ℕ → ℕ) (x n m : ℕ) → Lowest W x n m → Lowest W x (suc n) (nearer m (W (x + n)))
lowest-more W x n m a = go (nearer m (W (x + n))) (nearer-is m (W (x + n)))
  where
    go : (r : ℕ) → Nearer m (W (x + n)) r → Lowest W x (suc n) r
    go r (this e f) = record { least = λ v l u h. old v l u h (same? v (x + n)); held = λ h. let g = a.held (omega arith) in (g.0, g.1, omega (arith, g.2), g.3 ∙ sym e) }
      where
        old : (v : ℕ) → x ≤ v → v < x + suc n → 1 ≤ W v → Same v (x + n) → (1 ≤ r) × (r ≤ W v)
        old v l u h (same p q) = let s : W v ≡ W (x + n) = ap W p in let g = f (omega arith) in (omega (arith, g.0), omega (arith, g.1))
        old v l u h (apart p q) = let g = a.least v l (omega arith) h in (omega (arith, g.0), omega (arith, g.1))
    go r (that e some f) = record { least = λ v l u h. new v l u h (same? v (x + n)); held = λ h. (x + n, omega arith, omega arith, sym e) }
      where
        new : (v : ℕ) → x ≤ v → v < x + suc n → 1 ≤ W v → Same v (x + n) → (1 ≤ r) × (r ≤ W v)
        new v l u h (same p q) = let s : W v ≡ W (x + n) = ap W p in (omega arith, omega arith)
        new v l u h (apart p q) = let g = a.least v l (omega arith) h in (omega arith, omega (arith, f g.0, g.1))

pub lowest-is : (dist order : List ℕ) (x n : ℕ) → Lowest (waiting dist order) x n (lowest_in dist order x n)
unfolding lowest_in
lowest-is dist order x zero = record { least = λ v l u h. absurd (omega arith); held = λ h. absurd (omega arith) }
lowest-is dist order x (suc n) = lowest-more (waiting dist order) x n (lowest_in dist order x n) (lowest-is dist order x n)

-- ---- the table

listed-length : (n : ℕ) (f : ℕ → ℕ) → length (listed n f) ≡ n
listed-length zero f = refl
listed-length (suc n) f = ap suc (listed-length n (λ k. f (suc k)))

listed_at : (n : ℕ) (f : ℕ → ℕ) (k : ℕ) → k < n → at (listed n f) k ≡ f k
listed_at zero f k h = absurd (omega arith)
listed_at (suc n) f zero h = refl
listed_at (suc n) f (suc k) h = listed_at n (λ k. f (suc k)) k (omega arith)

pub groups-length : (n : ℕ) (dist order : List ℕ) → length (lowest_of_groups n dist order) ≡ n
unfolding lowest_of_groups
groups-length n dist order = listed-length n (λ j. lowest_in dist order (36 * j) 36)

pub groups-at : (n : ℕ) (dist order : List ℕ) (k : ℕ) → k < n → at (lowest_of_groups n dist order) k ≡ lowest_in dist order (36 * k) 36
unfolding lowest_of_groups
groups-at n dist order k h = listed_at n (λ j. lowest_in dist order (36 * j) 36) k h

-- a position lies in the group of its number
pub group-start : (v : ℕ) → 36 * (v / 36) ≤ v
group-start v = omega (arith, div-add-mod v 36)

pub group-end : (v : ℕ) → v < 36 * (v / 36) + 36
group-end v =
    let some : 0 < 36 = omega arith in
    omega (arith, div-add-mod v 36, mod-lt v some)

pub group_of : (v k : ℕ) → 36 * k ≤ v → v < 36 * k + 36 → v / 36 ≡ k
group_of v k l u = omega (arith, group-start v, group-end v)

pub group-lt : (v n : ℕ) → v < 36 * n → v / 36 < n
group-lt v n h = omega (arith, group-start v)

-- where only positions of group k change, only that group's number does
module _ (n k : ℕ) (dist order dist' order' : List ℕ) (inside : k < n) (others : (v : ℕ) → v / 36 ≢ k → waiting dist' order' v ≡ waiting dist order v) where
  pub regrouped : lowest_of_groups n dist' order' ≡ set (lowest_of_groups n dist order) k (lowest_in dist' order' (36 * k) 36)
  regrouped =
      ext_get_or 0 (lowest_of_groups n dist' order') (set (lowest_of_groups n dist order) k (lowest_in dist' order' (36 * k) 36))
      (groups-length n dist' order' ∙ sym (groups-length n dist order) ∙ sym (length-set (lowest_of_groups n dist order) k (lowest_in dist' order' (36 * k) 36)))
      (λ j l. groups-at n dist' order' j (omega (arith, groups-length n dist' order')) ∙ sym (go j (omega (arith, groups-length n dist' order')) (same? j k)))
    where
      go : (j : ℕ) → j < n → Same j k → at (set (lowest_of_groups n dist order) k (lowest_in dist' order' (36 * k) 36)) j ≡ lowest_in dist' order' (36 * j) 36
      go j l (same p q) = rw p (at_set_same (lowest_of_groups n dist order) k (lowest_in dist' order' (36 * k) 36) (omega (arith, groups-length n dist order)))
      go j l (apart p q) =
          at_set_other (lowest_of_groups n dist order) k (lowest_in dist' order' (36 * k) 36) j p ∙ groups-at n dist order j l
          ∙ lowest-only (waiting dist' order') (36 * j) 36 _ _
          (lowest-same (waiting dist' order') (waiting dist order) (36 * j) 36 _ (λ v a b. others v (λ e. p (sym (group_of v j a b) ∙ e))) (lowest-is dist order (36 * j) 36))
          (lowest-is dist' order' (36 * j) 36)

-- ---- a position waits at a smaller distance

module _ (W W' : ℕ → ℕ) (x n m w d : ℕ) (a : Lowest W x n m) (l : x ≤ w) (u : w < x + n) (some : 1 ≤ d) (falls : 1 ≤ W w → d < W w)
    (Vw : W' w ≡ d) (Vv : (v : ℕ) → v ≢ w → W' v ≡ W v) where
  pub lowest-falls : Lowest W' x n (nearer m d)
  lowest-falls = go (nearer m d) (nearer-is m d)
    where
      go : (r : ℕ) → Nearer m d r → Lowest W' x n r
      go r (this e f) =
          record {
            least = λ v p q h. old v p q h (same? v w);
            held = λ h. let g = a.held (omega arith) in (g.0, g.1, g.2, Vv g.0 (λ s. other g.0 s g.3) ∙ g.3 ∙ sym e);
          }
        where
          other : (v : ℕ) → v ≡ w → W v ≡ m → ⊥
          other v s t = let z : W v ≡ W w = ap W s in omega (arith, f some, falls (omega (arith, f some)))

          old : (v : ℕ) → x ≤ v → v < x + n → 1 ≤ W' v → Same v w → (1 ≤ r) × (r ≤ W' v)
          old v p q h (same s t) = let z : W' v ≡ W' w = ap W' s in (omega (arith, f some), omega (arith, f some))
          old v p q h (apart s t) = let g = a.least v p q (omega (arith, Vv v s)) in (omega (arith, g.0), omega (arith, g.1, Vv v s))
      go r (that e b f) = record { least = λ v p q h. new v p q h (same? v w); held = λ h. (w, l, u, Vw ∙ sym e) }
        where
          new : (v : ℕ) → x ≤ v → v < x + n → 1 ≤ W' v → Same v w → (1 ≤ r) × (r ≤ W' v)
          new v p q h (same s t) = let z : W' v ≡ W' w = ap W' s in (omega arith, omega arith)
          new v p q h (apart s t) = let g = a.least v p q (omega (arith, Vv v s)) in (omega arith, omega (arith, f g.0, g.1, Vv v s))

module _ (dist order : List ℕ) where
  pub waiting-open : (v : ℕ) → at order v ≡ 0 → waiting dist order v ≡ at dist v
  unfolding waiting
  waiting-open v e = rw (eq-eqb (at order v) 0 e)

  -- position w, which is not settled, is reached at distance d, smaller than its old one if it had any
  pub lowered-group : (w d : ℕ) → w < 32400 → length dist ≡ 32400 → at order w ≡ 0 → 1 ≤ d → (1 ≤ at dist w → d < at dist w)
      → lowest_of (set dist w d) order ≡ set (lowest_of dist order) (w / 36) (nearer (at (lowest_of dist order) (w / 36)) d)
  unfolding waiting
  lowered-group w d h long e some falls =
      regrouped 900 (w / 36) dist order (set dist w d) order k (λ v q. same_at_lem v (λ s. q (ap (λ z. z / 36) s)))
      ∙ ap (set (lowest_of dist order) (w / 36)) (new ∙ sym (ap (λ z. nearer z d) (groups-at 900 dist order (w / 36) k)))
    where
      k : w / 36 < 900
      k = group-lt w 900 (omega arith)

      same_at_lem : (v : ℕ) → v ≢ w → waiting (set dist w d) order v ≡ waiting dist order v
      same_at_lem v q = ap (λ z. cond (eqb (at order v) 0) z 0) (at_set_other dist w d v q)

      new : lowest_in (set dist w d) order (36 * (w / 36)) 36 ≡ nearer (lowest_in dist order (36 * (w / 36)) 36) d
      new =
          lowest-only (waiting (set dist w d) order) (36 * (w / 36)) 36 _ _ (lowest-is (set dist w d) order (36 * (w / 36)) 36)
          (lowest-falls (waiting dist order) (waiting (set dist w d) order) (36 * (w / 36)) 36 (lowest_in dist order (36 * (w / 36)) 36) w d (lowest-is dist order (36 * (w / 36)) 36)
          (group-start w) (group-end w) some (λ m. omega (arith, waiting-open w e, falls (omega (arith, waiting-open w e))))
          (rw (eq-eqb (at order w) 0 e) (at_set_same dist w d (omega (arith, long)))) same_at_lem)

  -- position u is settled, as the n-th
  pub settled-group : (u n : ℕ) → u < 32400
      → lowest_of dist (set order u n) ≡ set (lowest_of dist order) (u / 36) (lowest_in dist (set order u n) (36 * (u / 36)) 36)
  unfolding waiting
  settled-group u n h =
      regrouped 900 (u / 36) dist order dist (set order u n) (group-lt u 900 (omega arith))
      (λ v q. ap (λ z. cond (eqb z 0) (at dist v) 0) (at_set_other order u n v (λ s. q (ap (λ z. z / 36) s))))

-- ---- where nothing is reached

none-waiting : (n v : ℕ) → waiting (zeros n) (zeros n) v ≡ 0
unfolding waiting
none-waiting n v = choice (λ z. z ≡ 0) (eqb (at (zeros n) v) 0) (λ e. at-zeros n v) (λ e. refl)

none-lowest : (n x : ℕ) → Lowest (waiting (zeros n) (zeros n)) x 36 0
none-lowest n x = record { least = λ v l u h. absurd (omega (arith, none-waiting n v)); held = λ h. absurd (omega arith) }

groups_none : (n k : ℕ) → lowest_of_groups k (zeros n) (zeros n) ≡ zeros k
groups_none n k =
    ext_get_or 0 (lowest_of_groups k (zeros n) (zeros n)) (zeros k) (groups-length k (zeros n) (zeros n) ∙ sym (length-replicate k 0))
    (λ j l. groups-at k (zeros n) (zeros n) j (omega (arith, groups-length k (zeros n) (zeros n)))
    ∙ lowest-only (waiting (zeros n) (zeros n)) (36 * j) 36 _ 0 (lowest-is (zeros n) (zeros n) (36 * j) 36) (none-lowest n (36 * j))
    ∙ sym (at-zeros k j))

-- and where position 0 is, at distance 1
pub lowest_start : (n k : ℕ) → n ≡ 32400 → k ≡ 900 → set (zeros k) 0 1 ≡ lowest_of (set (zeros n) 0 1) (zeros n)
unfolding nearer
lowest_start n k e f =
    sym (lowered-group (zeros n) (zeros n) 0 1 (omega arith) (length-replicate n 0 ∙ e) (at-zeros n 0) (omega arith) (λ h. absurd (omega (arith, at-zeros n 0)))
    ∙ ap (λ z. set z 0 (nearer (at z 0) 1)) (ap (λ z. lowest_of_groups z (zeros n) (zeros n)) (sym f) ∙ groups_none n k)
    ∙ ap (λ z. set (zeros k) 0 (nearer z 1)) (at-zeros k 0))
