-- Each move of the search keeps the invariant.
use Prim.Native.Nat.{ℕ, zero, suc, ◌+◌, ◌-◌, ◌*◌, ◌/◌, ◌%◌, ◌≤◌, ◌<◌}
use mathlib.Core.Path.{◌≡◌, refl, sym, ap, ◌∙◌}
use mathlib.Core.Logic.{◌≢◌}
use mathlib.Core.Bool.{Bool, true, false, ◌&&◌, cond, true≢false}
use mathlib.Core.List.{List, ◌∷◌}
use native.Mathlib.Omega.{arith}
use native.Mathlib.Nat.{mul-suc, mul-le-mul_right, suc-mul, div-lt_iff_lt-mul, div-add-mod', mod-lt, mul_comm, zero-div}
use lib.ListN.{set, replicate, length-set, length-replicate}
use lib.Dec.{leb, ltb}
use borrow.Author.Tests.{leb-true, eqb-true, eq-eqb, ltb-true, ltb-false, lt-ltb, le-ltb, le-leb}
use Rattle.protocol_types.specs.Lists.{at}
use Rattle.protocol_types.proofs.Laws.{Same, same, apart, same?, Under, under, over, under?, both_true, three-true, choice, at_set, at_set_same, at_set_other, at-zeros}
use Rattle.protocol_types.proofs.Board.{row-div, row-mod}
use Rattle.best_search.specs.Search.{Graph, size, layer, cheaper, upcoming, State, Tried, initial, open?, cheapest, closed, moved, onward, lowered, relaxed, past, ready, tick, from_of, by_of, was_tried, reached, Trace}
use Rattle.best_search.proofs.Invariant.{Passed, before, now, Lower, earlier, level, lower, lower-fits, pass, settle, tighten}
use Rattle.best_search.proofs.Machine.{at_out, at-below, nonzeros-replicate, nonzeros-set, bound-lower, was_tried-cons, reached-cons, reached-first, Closed, Inv}

-- ---- the start

module _ (g : Graph) (own : ℕ) (c : Closed g own) where
  D₀ : ℕ → ℕ
  D₀ v = at (set (replicate (size g) 0) 0 1) v

  start-here : D₀ 0 ≡ 1
  unfolding D₀
  start-here = at_set_same (replicate (size g) 0) 0 1 (omega (arith, length-replicate {A = ℕ} (size g) 0, c.some))

  start-only : (v : ℕ) → 1 ≤ D₀ v → v ≡ 0
  unfolding D₀
  start-only v h = go (same? v 0)
    where
      go : Same v 0 → v ≡ 0
      go (same p q) = p
      go (apart p q) = absurd (omega (arith, at_set_other (replicate (size g) 0) 0 1 v p, at-zeros (size g) v))

  none-settled : (u : ℕ) {A : Type 0} → 1 ≤ at (replicate (size g) 0) u → A
  none-settled u h = absurd (omega (arith, at-zeros (size g) u))

  none_passed : (u k : ℕ) {A : Type 0} → Passed (at (replicate (size g) 0)) 0 0 u k → A
  none_passed u k (before h) = none-settled u h
  none_passed u k (now p h) = absurd (omega arith)

  pub initial-inv : Inv g own (initial g own)
  unfolding initial D₀
  initial-inv =
      record {
        shape = record {
          dist = length-set (replicate (size g) 0) 0 1 ∙ length-replicate (size g) 0;
          order = length-replicate (size g) 0;
          via = length-replicate (size g) 0;
          current = omega arith;
          code = omega arith;
          stop = λ h. refl;
          from-lt = λ v. rw (at-zeros (size g) v, zero-div g.codes) c.some;
        };
        core = record {
          start = start-here;
          met = λ u h. none-settled u h;
          low = λ u v h m o y. none-settled u h;
          cur-met = λ h. omega (arith, start-here);
          cur-open = at-zeros (size g) 0;
          cur-low = λ h u o. none-settled u o;
          cur-least = λ h v m o y. rw (start-only v m) (level refl (omega arith));
          relaxed = λ u k lk a p. none_passed u k p;
          parent = λ v h d. absurd (d (start-only v h));
          few = λ u. omega (arith, at-zeros (size g) u);
        };
        bound = record {
          finals = λ v f h. omega (arith, c.at-start (rw (start-only v h) at f));
          own-le = omega arith;
          none = λ e. refl;
          final-goal = λ d. absurd (d refl);
          goal-cost = λ d. absurd (d refl);
        };
        ended = λ h. absurd (omega (arith, c.some));
        entries = record {
          count = sym (nonzeros-replicate (size g));
          few = omega arith;
          passed = λ u k e. absurd (true≢false (sym e));
          trace = tt;
          reach = λ v h. eq-eqb v 0 (start-only v h);
          unused = λ e. refl;
        };
      }

-- ---- an entry is passed over

pub skip-inv : (g : Graph) (own : ℕ) (t : State) → Inv g own t → t.current < size g → t.code < g.codes → g.legal t.current t.code ≡ false → Inv g own (past t t.tries)
unfolding past
skip-inv g own t i l lc f =
    record {
      shape = record {
        dist = i.shape.dist;
        order = i.shape.order;
        via = i.shape.via;
        current = i.shape.current;
        code = lc;
        stop = λ h. absurd (omega arith);
        from-lt = i.shape.from-lt;
      };
      core = pass g _ _ _ _ t.current t.code t.settled t.limit i.core (λ a. absurd (true≢false (sym a ∙ f)));
      bound = i.bound;
      ended = λ h. absurd (omega arith);
      entries = record {
        count = i.entries.count;
        few = omega (arith, i.entries.few);
        passed = λ u k e. let h = i.entries.passed u k e in (h.0, h.1, more u k h.2);
        trace = i.entries.trace;
        reach = i.entries.reach;
        unused = i.entries.unused;
      };
    }
  where
    more : (u k : ℕ) → Passed (at t.order) t.current t.code u k → Passed (at t.order) t.current (suc t.code) u k
    more u k (before h) = before h
    more u k (now p h) = now p (omega arith)

-- ---- an entry is tried

module _ (g : Graph) (own : ℕ) (t : State) (cl : Closed g own) (i : Inv g own t) (l : t.current < size g) (lc : t.code < g.codes) (al : g.legal t.current t.code ≡ true) where
  abbrev this : Tried
  this = record { position = t.current; code = t.code }

  abbrev there : ℕ
  there = g.next t.current t.code

  abbrev sum : ℕ
  sum = at t.dist t.current + g.price t.current t.code

  -- position and entry as one number, and each read back from it
  abbrev this-way : ℕ
  this-way = g.codes * t.current + t.code

  this-from : this-way / g.codes ≡ t.current
  this-from = rw (mul_comm g.codes t.current) (row-div t.current g.codes t.code lc)

  this-by : this-way % g.codes ≡ t.code
  this-by = rw (mul_comm g.codes t.current) (row-mod t.current g.codes t.code lc)

  inside : there < size g
  inside = cl.inside t.current t.code l lc al

  new-try : was_tried t.tries t.current t.code ≡ false
  new-try = go (was_tried t.tries t.current t.code) refl
    where
      no_way : Passed (at t.order) t.current t.code t.current t.code → ⊥
      no_way (before h) = omega (arith, i.core.cur-open)
      no_way (now p h) = omega arith

      go : (c : Bool) → was_tried t.tries t.current t.code ≡ c → c ≡ false
      go true e = absurd (no_way (i.entries.passed t.current t.code e).2)
      go false e = refl

  passed-try : (u k : ℕ) → was_tried (this ∷ t.tries) u k ≡ true → (k < g.codes) × (g.legal u k ≡ true) × Passed (at t.order) t.current (suc t.code) u k
  passed-try u k e = was_tried-cons this t.tries u k e (λ p q. (rw (← q) lc, rw (← p, ← q) al, now (sym p) (omega arith))) (λ f. more (i.entries.passed u k f))
    where
      shift : Passed (at t.order) t.current t.code u k → Passed (at t.order) t.current (suc t.code) u k
      shift (before h) = before h
      shift (now p h) = now p (omega arith)

      more : (k < g.codes) × (g.legal u k ≡ true) × Passed (at t.order) t.current t.code u k → (k < g.codes) × (g.legal u k ≡ true) × Passed (at t.order) t.current (suc t.code) u k
      more h = (h.0, h.1, shift h.2)

  trace-try : Trace g (this ∷ t.tries)
  trace-try = (lc, al, i.entries.reach t.current (i.core.cur-met l), new-try, i.entries.trace)

  -- and nothing falls
  pub try-inv : 1 ≤ at t.dist there → at t.dist there ≤ sum → Inv g own (past t (this ∷ t.tries))
  unfolding past
  try-inv m h =
      record {
        shape = record {
          dist = i.shape.dist;
          order = i.shape.order;
          via = i.shape.via;
          current = i.shape.current;
          code = lc;
          stop = λ q. absurd (omega arith);
          from-lt = i.shape.from-lt;
        };
        core = pass g _ _ _ _ t.current t.code t.settled t.limit i.core (λ a. (m, h));
        bound = i.bound;
        ended = λ q. absurd (omega arith);
        entries = record {
          count = i.entries.count;
          few = omega (arith, i.entries.few);
          passed = passed-try;
          trace = trace-try;
          reach = λ v q. reached-cons g this t.tries v (i.entries.reach v q);
          unused = λ e. absurd (omega arith);
        };
      }

  -- or a distance falls
  pub lower-inv : (1 ≤ at t.dist there → sum < at t.dist there) → Inv g own (past (lowered g t there sum) (this ∷ t.tries))
  unfolding past lowered
  lower-inv falls =
      record {
        shape = record {
          dist = length-set t.dist there sum ∙ i.shape.dist;
          order = i.shape.order;
          via = length-set t.via there this-way ∙ i.shape.via;
          current = i.shape.current;
          code = lc;
          stop = λ q. absurd (omega arith);
          from-lt = λ v. at_set (λ z. z / g.codes < size g) t.via there this-way v (rw this-from l) (i.shape.from-lt v);
        };
        core = tighten g _ _ _ _ t.current (suc t.code) t.settled t.limit _ falls-limit
            (pass g _ _ _ _ t.current t.code t.settled t.limit
            (lower g (at t.dist) (at t.order) (from_of g t.via) (by_of g t.via) t.current t.code t.settled t.limit i.core there sum
            (at (set t.dist there sum)) (from_of g (set t.via there this-way)) (by_of g (set t.via there this-way))
            l lc al refl (cl.later t.current t.code al) refl falls Dw Fw Bw Dv Fv Bv)
            (λ a. lower-fits g (at t.dist) (at t.order) (from_of g t.via) (by_of g t.via) t.current t.code t.settled t.limit i.core there sum
            (at (set t.dist there sum)) (from_of g (set t.via there this-way)) (by_of g (set t.via there this-way))
            l lc al refl (cl.later t.current t.code al) refl falls Dw Fw Bw Dv Fv Bv));
        bound = bound-lower g own (at t.dist) (at (set t.dist there sum)) t.limit t.goal there sum i.bound (omega (arith, i.core.cur-met l)) inside falls Dw Dv;
        ended = λ q. absurd (omega arith);
        entries = record {
          count = i.entries.count;
          few = omega (arith, i.entries.few);
          passed = passed-try;
          trace = trace-try;
          reach = λ v q. reach-low v q (same? v there);
          unused = λ e. absurd (omega arith);
        };
      }
    where
      falls-limit : cond (g.final there && leb sum t.limit) (sum - 1) t.limit ≤ t.limit
      falls-limit = choice (λ z. z ≤ t.limit) (g.final there && leb sum t.limit) (λ c. less (both_true _ _ c)) (λ c. omega arith)
        where
          less : (g.final there ≡ true) × (leb sum t.limit ≡ true) → sum - 1 ≤ t.limit
          less h = omega (arith, leb-true sum t.limit h.1)

      Dw : at (set t.dist there sum) there ≡ sum
      Dw = at_set_same t.dist there sum (omega (arith, inside, i.shape.dist))

      Vw : at (set t.via there this-way) there ≡ this-way
      Vw = at_set_same t.via there this-way (omega (arith, inside, i.shape.via))

      Fw : from_of g (set t.via there this-way) there ≡ t.current
      Fw = ap (λ z. z / g.codes) Vw ∙ this-from

      Bw : by_of g (set t.via there this-way) there ≡ t.code
      Bw = ap (λ z. z % g.codes) Vw ∙ this-by

      Fv : (v : ℕ) → v ≢ there → from_of g (set t.via there this-way) v ≡ from_of g t.via v
      Fv v d = ap (λ z. z / g.codes) (at_set_other t.via there this-way v d)

      Bv : (v : ℕ) → v ≢ there → by_of g (set t.via there this-way) v ≡ by_of g t.via v
      Bv v d = ap (λ z. z % g.codes) (at_set_other t.via there this-way v d)

      Dv : (v : ℕ) → v ≢ there → at (set t.dist there sum) v ≡ at t.dist v
      Dv v d = at_set_other t.dist there sum v d

      reach-low : (v : ℕ) → 1 ≤ at (set t.dist there sum) v → Same v there → reached g (this ∷ t.tries) v ≡ true
      reach-low v q (same p r) = reached-first g this t.tries v (sym p)
      reach-low v q (apart p r) = reached-cons g this t.tries v (i.entries.reach v (rw (Dv v p) at q))

-- ---- the cheapest open position

-- p is the cheapest of the open positions that P names, or there is none
data Least (g : Graph) (t : State) (P : ℕ → Type 0) (p : ℕ) : Type 0 where
  none : p ≡ size g → ((v : ℕ) → P v → 1 ≤ at t.dist v → at t.order v ≡ 0 → at t.dist v ≤ t.limit → ⊥) → Least g t P p
  found : p < size g → P p → 1 ≤ at t.dist p → at t.order p ≡ 0 → at t.dist p ≤ t.limit
      → ((v : ℕ) → P v → 1 ≤ at t.dist v → at t.order v ≡ 0 → at t.dist v ≤ t.limit → at t.dist p ≤ at t.dist v) → Least g t P p

-- v is reached, not settled, and cheaper than the limit
pub record Open (t : State) (v : ℕ) : Type 0 where
  pub met : 1 ≤ at t.dist v
  pub unsettled : at t.order v ≡ 0
  pub near : at t.dist v ≤ t.limit

open-true : (t : State) (v : ℕ) → open? t.dist t.order t.limit v ≡ true → Open t v
unfolding open?
open-true t v e = let h = three-true _ _ _ e in record { met = ltb-true _ _ h.0; unsettled = eqb-true _ _ h.1; near = leb-true _ _ h.2 }

open-false : (t : State) (v : ℕ) → open? t.dist t.order t.limit v ≡ false → 1 ≤ at t.dist v → at t.order v ≡ 0 → at t.dist v ≤ t.limit → ⊥
unfolding open?
open-false t v e m o y = true≢false (sym (rw (lt-ltb 0 (at t.dist v) m, eq-eqb (at t.order v) 0 o) (le-leb (at t.dist v) t.limit y)) ∙ e)

-- the n positions from x on
abbrev From : ℕ → ℕ → ℕ → Type 0
From x n v = (x ≤ v) × (v < x + n)

-- one more position to look at, with the choice made
cheaper-of : (g : Graph) (t : State) (x n p : ℕ) → x + n < size g → Least g t (From x n) p → Least g t (From x (suc n)) (cheaper (size g) t.dist t.order t.limit p (x + n))
unfolding cheaper
cheaper-of g t x n p l (none e f) =
    choice (λ z. Least g t (From x (suc n)) z) (open? t.dist t.order t.limit (x + n)) (λ o. rw (le-ltb p (size g) (omega arith)) (alone (open-true t (x + n) o)))
    (λ o. none e (λ v h m q y. still o v h m q y (same? v (x + n))))
  where
    alone : Open t (x + n) → Least g t (From x (suc n)) (x + n)
    alone h = found l (omega arith, omega arith) h.met h.unsettled h.near (λ v q m r y. go v q m r y (same? v (x + n)))
      where
        go : (v : ℕ) → From x (suc n) v → 1 ≤ at t.dist v → at t.order v ≡ 0 → at t.dist v ≤ t.limit → Same v (x + n) → at t.dist (x + n) ≤ at t.dist v
        go v q m r y (same a b) = rw a (omega arith)
        go v q m r y (apart a b) = absurd (f v (q.0, omega (arith, q.1)) m r y)

    still : open? t.dist t.order t.limit (x + n) ≡ false → (v : ℕ) → From x (suc n) v → 1 ≤ at t.dist v → at t.order v ≡ 0 → at t.dist v ≤ t.limit → Same v (x + n) → ⊥
    still o v h m q y (same a b) = open-false t (x + n) o (rw a at m) (rw a at q) (rw a at y)
    still o v h m q y (apart a b) = f v (h.0, omega (arith, h.1)) m q y
cheaper-of g t x n p l (found e w mp op yp f) =
    choice (λ z. Least g t (From x (suc n)) z) (open? t.dist t.order t.limit (x + n))
    (λ o. rw (lt-ltb p (size g) e)
    (choice (λ z. Least g t (From x (suc n)) z) (ltb (at t.dist (x + n)) (at t.dist p)) (λ c. this-one (open-true t (x + n) o) (ltb-true _ _ c)) (λ c. that-one (ltb-false _ _ c))))
    (λ o. found e (w.0, omega (arith, w.1)) mp op yp (λ v h m q y. still o v h m q y (same? v (x + n))))
  where
    this-one : Open t (x + n) → at t.dist (x + n) < at t.dist p → Least g t (From x (suc n)) (x + n)
    this-one h c = found l (omega arith, omega arith) h.met h.unsettled h.near (λ v q m r y. go v q m r y (same? v (x + n)))
      where
        go : (v : ℕ) → From x (suc n) v → 1 ≤ at t.dist v → at t.order v ≡ 0 → at t.dist v ≤ t.limit → Same v (x + n) → at t.dist (x + n) ≤ at t.dist v
        go v q m r y (same a b) = rw a (omega arith)
        go v q m r y (apart a b) = omega (arith, f v (q.0, omega (arith, q.1)) m r y)

    that-one : at t.dist p ≤ at t.dist (x + n) → Least g t (From x (suc n)) p
    that-one c = found e (w.0, omega (arith, w.1)) mp op yp (λ v q m r y. go v q m r y (same? v (x + n)))
      where
        go : (v : ℕ) → From x (suc n) v → 1 ≤ at t.dist v → at t.order v ≡ 0 → at t.dist v ≤ t.limit → Same v (x + n) → at t.dist p ≤ at t.dist v
        go v q m r y (same a b) = rw a c
        go v q m r y (apart a b) = f v (q.0, omega (arith, q.1)) m r y

    still : open? t.dist t.order t.limit (x + n) ≡ false → (v : ℕ) → From x (suc n) v → 1 ≤ at t.dist v → at t.order v ≡ 0 → at t.dist v ≤ t.limit → Same v (x + n)
        → at t.dist p ≤ at t.dist v
    still o v h m q y (same a b) = absurd (open-false t (x + n) o (rw a at m) (rw a at q) (rw a at y))
    still o v h m q y (apart a b) = f v (h.0, omega (arith, h.1)) m q y

cheapest-is : (g : Graph) (t : State) (x n : ℕ) → x + n ≤ size g → Least g t (From x n) (cheapest (size g) t.dist t.order t.limit x n)
unfolding cheapest
cheapest-is g t x zero l = none refl (λ v h m q y. omega (arith, h.0, h.1))
cheapest-is g t x (suc n) l = cheaper-of g t x n (cheapest (size g) t.dist t.order t.limit x n) (omega arith) (cheapest-is g t x n (omega arith))

-- ---- the first layer that has one

-- the positions of a layer
layer-is : (g : Graph) → 1 ≤ g.width → (l v : ℕ) → l * g.width ≤ v → v < l * g.width + g.width → layer g v ≡ l
unfolding layer
layer-is g w l v h k = ap (λ z. z / g.width) (omega arith) ∙ row-div l g.width (v - l * g.width) (omega arith)

layer-from : (g : Graph) → 1 ≤ g.width → (l v : ℕ) → layer g v ≡ l → From (l * g.width) g.width v
unfolding layer
layer-from g w l v e = let p = div-add-mod' v g.width in let q = ap (λ z. z * g.width) e in (omega arith, omega (arith, mod-lt v w))

layer_fits : (g : Graph) (l : ℕ) → l < g.layers → l * g.width + g.width ≤ size g
unfolding size
layer_fits g l h = omega (arith, mul-le-mul_right {m = suc l} {n = g.layers} g.width h, suc-mul l g.width)

pub layer-lt : (g : Graph) → 1 ≤ g.width → (v : ℕ) → v < size g → layer g v < g.layers
unfolding layer size
layer-lt g w v h = (div-lt_iff_lt-mul w).1 h

-- p comes before every open position from layer l on, or there is none
pub data Next (g : Graph) (t : State) (l p : ℕ) : Type 0 where
  none : p ≡ size g → ((v : ℕ) → l ≤ layer g v → v < size g → 1 ≤ at t.dist v → at t.order v ≡ 0 → at t.dist v ≤ t.limit → ⊥) → Next g t l p
  found : p < size g → Open t p
      → ((v : ℕ) → l ≤ layer g v → v < size g → 1 ≤ at t.dist v → at t.order v ≡ 0 → at t.dist v ≤ t.limit → Lower g (at t.dist) p v) → Next g t l p

pub upcoming-is : (g : Graph) → 1 ≤ g.width → (t : State) (n l : ℕ) → l + n ≡ g.layers → Next g t l (upcoming (size g) g.width t.dist t.order t.limit n l)
unfolding upcoming
upcoming-is g w t zero l e = none refl (λ v h b m o y. omega (arith, layer-lt g w v b))
upcoming-is g w t (suc n) l e =
    go (cheapest (size g) t.dist t.order t.limit (l * g.width) g.width) (cheapest-is g t (l * g.width) g.width (layer_fits g l (omega arith))) (upcoming-is g w t n (suc l) (omega arith))
  where
    later : ℕ
    later = upcoming (size g) g.width t.dist t.order t.limit n (suc l)

    go : (p : ℕ) → Least g t (From (l * g.width) g.width) p → Next g t (suc l) later → Next g t l (cond (ltb p (size g)) p later)
    go p (found h i m o y f) u = rw (lt-ltb p (size g) h) (found h (record { met = m; unsettled = o; near = y }) (λ v k b mv ov yv. here v k mv ov yv (same? (layer g v) l)))
      where
        p-layer : layer g p ≡ l
        p-layer = layer-is g w l p i.0 i.1

        here : (v : ℕ) → l ≤ layer g v → 1 ≤ at t.dist v → at t.order v ≡ 0 → at t.dist v ≤ t.limit → Same (layer g v) l → Lower g (at t.dist) p v
        here v k mv ov yv (same q r) = level (p-layer ∙ sym q) (f v (layer-from g w l v q) mv ov yv)
        here v k mv ov yv (apart q r) = earlier (omega (arith, p-layer))
    go p (none q f) u = rw (le-ltb p (size g) (omega arith)) (on u)
      where
        skip : (v : ℕ) → l ≤ layer g v → 1 ≤ at t.dist v → at t.order v ≡ 0 → at t.dist v ≤ t.limit → Same (layer g v) l → suc l ≤ layer g v
        skip v k mv ov yv (same a r) = absurd (f v (layer-from g w l v a) mv ov yv)
        skip v k mv ov yv (apart a r) = omega arith

        on : Next g t (suc l) later → Next g t l later
        on (none a c) = none a (λ v k b m o y. c v (skip v k m o y (same? (layer g v) l)) b m o y)
        on (found a o c) = found a o (λ v k b m z y. c v (skip v k m z y (same? (layer g v) l)) b m z y)

-- ---- the current position is settled

module _ (g : Graph) (own : ℕ) (t : State) (cl : Closed g own) (i : Inv g own t) (l : t.current < size g) (lc : g.codes ≤ t.code) where
  abbrev O' : List ℕ
  O' = set t.order t.current (suc t.settled)

  Oc : at O' t.current ≡ suc t.settled
  Oc = at_set_same t.order t.current (suc t.settled) (omega (arith, i.shape.order))

  Ov : (v : ℕ) → v ≢ t.current → at O' v ≡ at t.order v
  Ov v d = at_set_other t.order t.current (suc t.settled) v d

  to_inv : (p : ℕ) → p ≤ size g → at O' p ≡ 0 → (p < size g → 1 ≤ at t.dist p) → (p < size g → at t.dist p ≤ t.limit)
      → (p < size g → (v : ℕ) → 1 ≤ at t.dist v → at O' v ≡ 0 → at t.dist v ≤ t.limit → Lower g (at t.dist) p v)
      → (size g ≤ p → (v : ℕ) → 1 ≤ at t.dist v → at O' v ≡ 0 → t.limit < at t.dist v) → Inv g own (moved (closed t) p)
  unfolding moved closed
  to_inv p lp op mp yp least end =
      record {
        shape = record {
          dist = i.shape.dist;
          order = length-set t.order t.current (suc t.settled) ∙ i.shape.order;
          via = i.shape.via;
          current = lp;
          code = omega arith;
          stop = λ h. refl;
          from-lt = i.shape.from-lt;
        };
        core = settle g (at t.dist) (at t.order) (from_of g t.via) (by_of g t.via) t.current t.code t.settled t.limit i.core (at O') p l lc Oc Ov op mp yp least;
        bound = i.bound;
        ended = end;
        entries = record {
          count = ap suc i.entries.count ∙ sym (nonzeros-set t.order t.current t.settled (omega (arith, i.shape.order)) i.core.cur-open);
          few = omega (arith, i.entries.few, mul-suc g.codes t.settled, i.shape.code);
          passed = λ u k e. let h = i.entries.passed u k e in (h.0, h.1, before (settled-now u k h.2 (same? u t.current)));
          trace = i.entries.trace;
          reach = i.entries.reach;
          unused = i.entries.unused;
        };
      }
    where
      settled-now : (u k : ℕ) → Passed (at t.order) t.current t.code u k → Same u t.current → 1 ≤ at O' u
      settled-now u k q (same e r) = let e' : at O' u ≡ at O' t.current = ap (at O') e in omega (arith, Oc)
      settled-now u k (before h) (apart d r) = omega (arith, Ov u d)
      settled-now u k (now e h) (apart d r) = absurd (d e)

  -- beyond the positions nothing is settled
  none-at-end : at O' (size g) ≡ 0
  none-at-end = at_out O' (size g) (omega (arith, length-set t.order t.current (suc t.settled), i.shape.order))

  to_end : ((v : ℕ) → 1 ≤ at t.dist v → at O' v ≡ 0 → t.limit < at t.dist v) → Inv g own (moved (closed t) (size g))
  to_end f = to_inv (size g) (omega arith) none-at-end (λ h. absurd (omega arith)) (λ h. absurd (omega arith)) (λ h. absurd (omega arith)) (λ h. f)

  below : (v : ℕ) → 1 ≤ at t.dist v → v < size g
  below v m = omega (arith, at-below t.dist v m, i.shape.dist)

  -- no open position lies in an earlier layer
  not-before : (v : ℕ) → 1 ≤ at t.dist v → at O' v ≡ 0 → at t.dist v ≤ t.limit → layer g t.current ≤ layer g v
  not-before v m o y = go (same? v t.current)
    where
      in_order : Lower g (at t.dist) t.current v → layer g t.current ≤ layer g v
      in_order (earlier a) = omega arith
      in_order (level a b) = omega arith

      go : Same v t.current → layer g t.current ≤ layer g v
      go (same p q) = rw p (omega arith)
      go (apart p q) = in_order (i.core.cur-least l v m (sym (Ov v p) ∙ o) y)

  pub onward-inv : Inv g own (onward g (closed t))
  unfolding onward closed
  onward-inv = go _ (upcoming-is g cl.wide (closed t) (g.layers - layer g t.current) (layer g t.current) (omega (arith, layer-lt g cl.wide t.current l)))
    where
      dear : (v : ℕ) → (at t.dist v ≤ t.limit → ⊥) → t.limit < at t.dist v
      dear v f = far (under? t.limit (at t.dist v))
        where
          far : Under t.limit (at t.dist v) → t.limit < at t.dist v
          far (under a b) = a
          far (over a b) = absurd (f a)

      go : (p : ℕ) → Next g (closed t) (layer g t.current) p → Inv g own (moved (closed t) p)
      go p (none e f) = rw e (to_end (λ v m o. dear v (λ y. f v (not-before v m o y) (below v m) m o y)))
      go p (found h o f) =
          to_inv p (omega arith) o.unsettled (λ q. o.met) (λ q. o.near) (λ q v m z y. f v (not-before v m z y) (below v m) m z y) (λ q. absurd (omega arith))

-- ---- a move

pub tick-inv : (g : Graph) (own : ℕ) (t : State) → Closed g own → Inv g own t → t.current < size g → Inv g own (tick g t)
unfolding tick ready relaxed
tick-inv g own t cl i l =
    choice (λ z. Inv g own z) (ltb t.code g.codes && g.legal t.current t.code)
    (λ e. let h : (ltb t.code g.codes ≡ true) × (g.legal t.current t.code ≡ true) = both_true _ _ e in tried (ltb-true _ _ h.0) h.1)
    (λ e. choice (λ z. Inv g own z) (ltb t.code g.codes) (λ f. skip-inv g own t i l (ltb-true _ _ f) (rw f at e)) (λ f. onward-inv g own t cl i l (ltb-false _ _ f)))
  where
    tried : t.code < g.codes → g.legal t.current t.code ≡ true → Inv g own (past (relaxed g t) (record { position = t.current; code = t.code } ∷ t.tries))
    tried lc al = go (same? (at t.dist w) 0) (under? n (at t.dist w))
      where
        w : ℕ
        w = g.next t.current t.code

        n : ℕ
        n = at t.dist t.current + g.price t.current t.code

        go : Same (at t.dist w) 0 → Under n (at t.dist w) → Inv g own (past (relaxed g t) (record { position = t.current; code = t.code } ∷ t.tries))
        go (same e q) d = rw q (lower-inv g own t cl i l lc al (λ m. absurd (omega arith)))
        go (apart e q) (under h r) = rw (q, r) (lower-inv g own t cl i l lc al (λ m. h))
        go (apart e q) (over h r) = rw (q, r) (try-inv g own t cl i l lc al (omega arith) h)
