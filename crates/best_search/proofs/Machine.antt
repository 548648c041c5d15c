-- The search's tables keep the invariant.
use Prim.Native.Nat.{ℕ, zero, suc, ◌+◌, ◌-◌, ◌*◌, ◌≤◌, ◌<◌}
use mathlib.Core.Path.{◌≡◌, refl, sym, ap, ◌∙◌}
use mathlib.Core.Logic.{◌≢◌}
use mathlib.Core.Bool.{Bool, true, false, ◌&&◌, cond, true≢false}
use mathlib.Core.List.{List, [], ◌∷◌}
use native.Mathlib.Omega.{arith}
use lib.ListN.{length, set, replicate, get_or-eq_default}
use lib.Dec.{leb, eqb}
use borrow.Author.Tests.{leb-true, leb-false, eqb-true, eq-eqb}
use Rattle.protocol_types.specs.Lists.{at}
use Rattle.protocol_types.proofs.Laws.{Same, same, apart, same?, Under, under, over, under?, both_true, choice}
use Rattle.best_search.specs.Search.{Graph, size, layer, State, Tried, from_of, by_of, is, was_tried, reached, Trace}
use Rattle.best_search.proofs.Invariant.{Passed, Core}

-- ---- lists

pub at_out : (l : List ℕ) (k : ℕ) → length l ≤ k → at l k ≡ 0
at_out l k h = get_or-eq_default l 0 h

pub at-below : (l : List ℕ) (k : ℕ) → 1 ≤ at l k → k < length l
at-below l k h = go (under? k (length l))
  where
    go : Under k (length l) → k < length l
    go (under p q) = p
    go (over p q) = absurd (omega (arith, at_out l k p))

abbrev pub nonzeros : List ℕ → ℕ
nonzeros [] = 0
nonzeros (zero ∷ l) = nonzeros l
nonzeros (suc x ∷ l) = suc (nonzeros l)

pub nonzeros-replicate : (n : ℕ) → nonzeros (replicate n 0) ≡ 0
nonzeros-replicate zero = refl
nonzeros-replicate (suc n) = nonzeros-replicate n

pub nonzeros-le : (l : List ℕ) → nonzeros l ≤ length l
nonzeros-le [] = omega arith
nonzeros-le (zero ∷ l) = omega (arith, nonzeros-le l)
nonzeros-le (suc x ∷ l) = omega (arith, nonzeros-le l)

pub nonzeros-lt : (l : List ℕ) (k : ℕ) → k < length l → at l k ≡ 0 → nonzeros l < length l
nonzeros-lt [] k h e = absurd (omega arith)
nonzeros-lt (zero ∷ l) k h e = omega (arith, nonzeros-le l)
nonzeros-lt (suc x ∷ l) zero h e = absurd (omega arith)
nonzeros-lt (suc x ∷ l) (suc k) h e = omega (arith, nonzeros-lt l k (omega arith) e)

pub nonzeros-set : (l : List ℕ) (k x : ℕ) → k < length l → at l k ≡ 0 → nonzeros (set l k (suc x)) ≡ suc (nonzeros l)
nonzeros-set [] k x h e = absurd (omega arith)
nonzeros-set (zero ∷ l) zero x h e = refl
nonzeros-set (suc y ∷ l) zero x h e = absurd (omega arith)
nonzeros-set (zero ∷ l) (suc k) x h e = nonzeros-set l k x (omega arith) e
nonzeros-set (suc y ∷ l) (suc k) x h e = ap suc (nonzeros-set l k x (omega arith) e)

-- ---- the limit and the goal

pub record Bound (g : Graph) (own : ℕ) (D : ℕ → ℕ) (limit goal : ℕ) : Type 0 where
  pub finals : (v : ℕ) → g.final v ≡ true → 1 ≤ D v → limit < D v
  pub own-le : limit ≤ own
  pub none : goal ≡ size g → limit ≡ own
  pub final-goal : goal ≢ size g → g.final goal ≡ true
  pub goal-cost : goal ≢ size g → D goal ≡ suc limit

module _ (g : Graph) (own : ℕ) (D D' : ℕ → ℕ) (limit goal w n : ℕ) (b : Bound g own D limit goal)
    (pos : 1 ≤ n) (inside : w < size g) (falls : 1 ≤ D w → n < D w) (Dw : D' w ≡ n) (Dv : (v : ℕ) → v ≢ w → D' v ≡ D v) where
  taken : g.final w ≡ true → n ≤ limit → Bound g own D' (n - 1) w
  taken f l =
      record {
        finals = λ v fv h. go v fv h (same? v w);
        own-le = omega (arith, b.own-le);
        none = λ e. absurd (omega arith);
        final-goal = λ d. f;
        goal-cost = λ d. omega arith;
      }
    where
      go : (v : ℕ) → g.final v ≡ true → 1 ≤ D' v → Same v w → n - 1 < D' v
      go v fv h (same p q) = let e : D' v ≡ D' w = ap D' p in omega arith
      go v fv h (apart p q) = omega (arith, Dv v p, b.finals v fv (omega (arith, Dv v p)))

  left : (g.final w ≡ true → limit < n) → Bound g own D' limit goal
  left f =
      record {
        finals = λ v fv h. go v fv h (same? v w);
        own-le = b.own-le;
        none = b.none;
        final-goal = b.final-goal;
        goal-cost = λ d. Dv goal (apart_from d) ∙ b.goal-cost d;
      }
    where
      go : (v : ℕ) → g.final v ≡ true → 1 ≤ D' v → Same v w → limit < D' v
      go v fv h (same p q) = let e : D' v ≡ D' w = ap D' p in omega (arith, f (rw p at fv))
      go v fv h (apart p q) = omega (arith, Dv v p, b.finals v fv (omega (arith, Dv v p)))

      apart_from : goal ≢ size g → goal ≢ w
      apart_from d e = let e' : D goal ≡ D w = ap D e in omega (arith, b.goal-cost d, falls (omega (arith, b.goal-cost d)), f (rw e at (b.final-goal d)))

  pub bound-lower : Bound g own D' (cond (g.final w && leb n limit) (n - 1) limit) (cond (g.final w && leb n limit) w goal)
  bound-lower = go (g.final w) refl (leb n limit) refl
    where
      go : (c : Bool) → g.final w ≡ c → (d : Bool) → leb n limit ≡ d → Bound g own D' (cond (c && d) (n - 1) limit) (cond (c && d) w goal)
      go true e true e' = taken e (leb-true n limit e')
      go true e false e' = left (λ f. leb-false n limit e')
      go false e true e' = left (λ f. absurd (true≢false (sym f ∙ e)))
      go false e false e' = left (λ f. absurd (true≢false (sym f ∙ e)))

-- ---- the tries

is_same : (x : Tried) (u k : ℕ) → is x u k ≡ true → (x.position ≡ u) × (x.code ≡ k)
unfolding is
is_same x u k e = let h : (eqb x.position u ≡ true) × (eqb x.code k ≡ true) = both_true _ _ e in (eqb-true _ _ h.0, eqb-true _ _ h.1)

pub was_tried-cons : (x : Tried) (xs : List Tried) (u k : ℕ) {A : Type 0} → was_tried (x ∷ xs) u k ≡ true → (x.position ≡ u → x.code ≡ k → A) → (was_tried xs u k ≡ true → A) → A
was_tried-cons x xs u k {A} h f j = go (is x u k) refl
  where
    go : (c : Bool) → is x u k ≡ c → A
    go true e = let p : (x.position ≡ u) × (x.code ≡ k) = is_same x u k e in f p.0 p.1
    go false e = j (rw e at h)

pub reached-cons : (g : Graph) (x : Tried) (xs : List Tried) (u : ℕ) → reached g xs u ≡ true → reached g (x ∷ xs) u ≡ true
reached-cons g x xs u h = choice (λ z. z ≡ true) (eqb (g.next x.position x.code) u) (λ e. refl) (λ e. h)

pub reached-first : (g : Graph) (x : Tried) (xs : List Tried) (u : ℕ) → g.next x.position x.code ≡ u → reached g (x ∷ xs) u ≡ true
reached-first g x xs u p = rw (eq-eqb (g.next x.position x.code) u p)

-- ---- the invariant

-- entries lead to positions, and nothing costs 0 at the end of no entries but what is there
pub record Closed (g : Graph) (own : ℕ) : Type 0 where
  pub some : 1 ≤ size g
  pub wide : 1 ≤ g.width
  pub inside : (u k : ℕ) → u < size g → k < g.codes → g.legal u k ≡ true → g.next u k < size g
  -- and never back to an earlier layer
  pub later : (u k : ℕ) → g.legal u k ≡ true → layer g u ≤ layer g (g.next u k)
  pub at-start : g.final 0 ≡ true → own ≡ 0

pub record Shape (g : Graph) (t : State) : Type 0 where
  pub dist : length t.dist ≡ size g
  pub order : length t.order ≡ size g
  pub via : length t.via ≡ size g
  pub current : t.current ≤ size g
  pub code : t.code ≤ g.codes
  pub stop : size g ≤ t.current → t.code ≡ 0
  pub from-lt : (v : ℕ) → from_of g t.via v < size g

pub record Record (g : Graph) (t : State) : Type 0 where
  pub count : t.settled ≡ nonzeros t.order
  pub few : length t.tries ≤ g.codes * t.settled + t.code
  pub passed : (u k : ℕ) → was_tried t.tries u k ≡ true → (k < g.codes) × (g.legal u k ≡ true) × Passed (at t.order) t.current t.code u k
  pub trace : Trace g t.tries
  pub reach : (v : ℕ) → 1 ≤ at t.dist v → reached g t.tries v ≡ true
  pub unused : length t.tries ≡ 0 → t.goal ≡ size g

abbrev pub Ended : Graph → State → Type 0
Ended g t = size g ≤ t.current → (v : ℕ) → 1 ≤ at t.dist v → at t.order v ≡ 0 → t.limit < at t.dist v

pub record Inv (g : Graph) (own : ℕ) (t : State) : Type 0 where
  pub shape : Shape g t
  pub core : Core g (at t.dist) (at t.order) (from_of g t.via) (by_of g t.via) t.current t.code t.settled t.limit
  pub bound : Bound g own (at t.dist) t.limit t.goal
  pub ended : Ended g t
  pub entries : Record g t
