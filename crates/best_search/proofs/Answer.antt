-- What the search gives: the promises of Best.
use Prim.Native.Nat.{ℕ, zero, suc, ◌+◌, ◌-◌, ◌*◌, ◌≤◌, ◌<◌}
use mathlib.Core.Path.{◌≡◌, refl, sym, ap, ◌∙◌}
use mathlib.Core.Logic.{◌≢◌}
use mathlib.Core.Bool.{Bool, true, false, ◌&&◌, cond, true≢false}
use mathlib.Core.List.{List, [], ◌∷◌}
use native.Mathlib.Omega.{arith}
use native.Mathlib.Nat.{mul-suc, mul-le-mul_left}
use lib.ListN.{length}
use lib.Dec.{leb, ltb, eqb}
use borrow.Author.Tests.{leb-true, leb-false, eqb-true, eqb-false, ltb-true, lt-leb}
use Rattle.protocol_types.specs.Lists.{at}
use Rattle.protocol_types.proofs.Laws.{Under, under, under?, both_true, choice}
use Rattle.protocol_types.proofs.Laws.{over as not-under}
use Rattle.best_search.specs.Search.{Graph, size, State, Tried, initial, closed, moved, onward, lowered, relaxed, past, ready, tick, used, over, halts, run, searched}
use Rattle.best_search.specs.Search.{from_of, by_of, route, forward, trail, walk, Lawful, total, EachTried, Best}
use Rattle.best_search.proofs.Invariant.{before, Parent, Above, settled, current}
use Rattle.best_search.proofs.Machine.{at-below, nonzeros-le, nonzeros-lt, Closed, Inv}
use Rattle.best_search.proofs.Tick.{initial-inv, tick-inv}

-- ---- one move, by cases

-- what a move does to the counts, whatever else it does
record Moves (g : Graph) (t z : State) : Type 0 where
  onwards : (g.codes + 1) * t.settled + t.code + 1 ≤ (g.codes + 1) * z.settled + z.code
  limit : z.limit ≤ t.limit
  none : ready g t ≡ false → length z.tries ≡ length t.tries
  one : length z.tries ≤ length t.tries + 1

tick-moves : (g : Graph) (t : State) → t.code ≤ g.codes → Moves g t (tick g t)
unfolding tick ready relaxed past lowered onward moved closed
tick-moves g t lc =
    choice (λ z. Moves g t z) (ltb t.code g.codes && g.legal t.current t.code)
    (λ e. choice (λ z. Moves g t (past z (this ∷ t.tries))) (eqb (at t.dist (g.next t.current t.code)) 0) (λ f. low e _ _)
    (λ f. choice (λ z. Moves g t (past z (this ∷ t.tries))) (ltb (at t.dist t.current + g.price t.current t.code) (at t.dist (g.next t.current t.code))) (λ h. low e _ _)
    (λ h. record { onwards = omega arith; limit = omega arith; none = λ q. absurd (true≢false (sym e ∙ q)); one = omega arith })))
    (λ e. choice (λ z. Moves g t z) (ltb t.code g.codes) (λ f. record { onwards = omega arith; limit = omega arith; none = λ q. refl; one = omega arith })
    (λ f. record { onwards = omega (arith, mul-suc (g.codes + 1) t.settled); limit = omega arith; none = λ q. refl; one = omega arith }))
  where
    this : Tried
    this = record { position = t.current; code = t.code }

    low : ltb t.code g.codes && g.legal t.current t.code ≡ true → (w n : ℕ) → Moves g t (past (lowered g t w n) (this ∷ t.tries))
    low e w n =
        record {
          onwards = omega arith;
          limit = choice (λ z. z ≤ t.limit) (g.final w && leb n t.limit) (λ c. less (both_true _ _ c)) (λ c. omega arith);
          none = λ q. absurd (true≢false (sym e ∙ q));
          one = omega arith;
        }
      where
        less : (g.final w ≡ true) × (leb n t.limit ≡ true) → n - 1 ≤ t.limit
        less h = omega (arith, leb-true n t.limit h.1)

-- ---- halting

pub record Goes (g : Graph) (m : ℕ) (t : State) : Type 0 where
  pub inside : t.current < size g
  pub has : ready g t ≡ true → length t.tries < m

pub goes : (g : Graph) (m : ℕ) (t : State) → halts g m t ≡ false → Goes g m t
unfolding halts over used
goes g m t e = go (leb (size g) t.current) refl (ready g t) refl (leb m (length t.tries)) refl e
  where
    go : (a : Bool) → leb (size g) t.current ≡ a → (b : Bool) → ready g t ≡ b → (d : Bool) → leb m (length t.tries) ≡ d → cond a true (b && d) ≡ false → Goes g m t
    go true p b q d r f = absurd (true≢false f)
    go false p true q true r f = absurd (true≢false f)
    go false p true q false r f = record { inside = leb-false _ _ p; has = λ h. leb-false _ _ r }
    go false p false q d r f = record { inside = leb-false _ _ p; has = λ h. absurd (true≢false (sym h ∙ q)) }

goes_on : (g : Graph) (m : ℕ) (t : State) → Goes g m t → halts g m t ≡ false
unfolding halts over used
goes_on g m t h = rw (lt-leb (size g) t.current h.inside) (go (ready g t) refl)
  where
    go : (b : Bool) → ready g t ≡ b → b && leb m (length t.tries) ≡ false
    go true q = lt-leb m (length t.tries) (h.has q)
    go false q = refl

-- not over, yet at rest: an entry is there to be tried and the steps are used up
record Rests (g : Graph) (m : ℕ) (t : State) : Type 0 where
  inside : t.current < size g
  waits : ready g t ≡ true
  spent : m ≤ length t.tries

rests : (g : Graph) (m : ℕ) (t : State) → halts g m t ≡ true → over g t ≡ false → Rests g m t
unfolding halts over used
rests g m t h e = let h' : ready g t && leb m (length t.tries) ≡ true = rw e at h in go (both_true _ _ h')
  where
    go : (ready g t ≡ true) × (leb m (length t.tries) ≡ true) → Rests g m t
    go p = record { inside = leb-false _ _ e; waits = p.0; spent = leb-true _ _ p.1 }

-- ---- a run

module _ (g : Graph) (own : ℕ) (cl : Closed g own) where
  run-inv : (f m : ℕ) (t : State) → Inv g own t → Inv g own (run g f m t)
  unfolding run
  run-inv zero m t i = i
  run-inv (suc f) m t i = choice (λ z. Inv g own z) (halts g m t) (λ e. i) (λ e. run-inv f m (tick g t) (tick-inv g own t cl i (goes g m t e).inside))

  pub few-settled : (t : State) → Inv g own t → t.current < size g → t.settled < size g
  few-settled t i l = omega (arith, i.entries.count, nonzeros-lt t.order t.current (omega (arith, i.shape.order)) i.core.cur-open, i.shape.order)

  all_settled : (t : State) → Inv g own t → t.settled ≤ size g
  all_settled t i = omega (arith, i.entries.count, nonzeros-le t.order, i.shape.order)

  Enough : ℕ → State → Type 0
  Enough f t = (g.codes + 1) * size g + 1 ≤ (g.codes + 1) * t.settled + t.code + f

  never-out : (t : State) → Inv g own t → Enough 0 t → ⊥
  unfolding Enough
  never-out t i h = go (under? t.current (size g))
    where
      go : Under t.current (size g) → ⊥
      go (under l e) = omega (arith, mul-suc (g.codes + 1) t.settled, mul-le-mul_left (g.codes + 1) (few-settled t i l), i.shape.code)
      go (not-under l e) = omega (arith, mul-le-mul_left (g.codes + 1) (all_settled t i), i.shape.stop l)

  run-halts : (f m : ℕ) (t : State) → Inv g own t → Enough f t → halts g m (run g f m t) ≡ true
  unfolding Enough run
  run-halts zero m t i h = absurd (never-out t i h)
  run-halts (suc f) m t i h =
      choice (λ z. halts g m z ≡ true) (halts g m t) (λ e. e)
      (λ e. run-halts f m (tick g t) (tick-inv g own t cl i (goes g m t e).inside) (omega (arith, (tick-moves g t i.shape.code).onwards)))

  one_more : (m : ℕ) (t : State) → Inv g own t → Goes g m t → length t.tries ≤ m → length (tick g t).tries ≤ m
  one_more m t i h l = go (ready g t) refl
    where
      go : (b : Bool) → ready g t ≡ b → length (tick g t).tries ≤ m
      go true e = omega (arith, (tick-moves g t i.shape.code).one, h.has e)
      go false e = omega (arith, (tick-moves g t i.shape.code).none e)

  run-used : (f m : ℕ) (t : State) → Inv g own t → length t.tries ≤ m → length (run g f m t).tries ≤ m
  unfolding run
  run-used zero m t i l = l
  run-used (suc f) m t i l =
      choice (λ (z : State). length z.tries ≤ m) (halts g m t) (λ e. l)
      (λ e. run-used f m (tick g t) (tick-inv g own t cl i (goes g m t e).inside) (one_more m t i (goes g m t e) l))

  run-limit : (f m : ℕ) (t : State) → Inv g own t → (run g f m t).limit ≤ t.limit
  unfolding run
  run-limit zero m t i = omega arith
  run-limit (suc f) m t i =
      choice (λ (z : State). z.limit ≤ t.limit) (halts g m t) (λ e. omega arith)
      (λ e. omega (arith, run-limit f m (tick g t) (tick-inv g own t cl i (goes g m t e).inside), (tick-moves g t i.shape.code).limit))

  run-better : (f m n : ℕ) (t : State) → Inv g own t → m ≤ n → length t.tries ≤ m → (run g f n t).limit ≤ (run g f m t).limit
  unfolding run
  run-better zero m n t i h l = omega arith
  run-better (suc f) m n t i h l =
      choice (λ (z : State). (run g (suc f) n t).limit ≤ z.limit) (halts g m t) (λ e. run-limit (suc f) n t i)
      (λ e. rw (goes_on g n t (longer (goes g m t e))) (run-better f m n (tick g t) (tick-inv g own t cl i (goes g m t e).inside) h (one_more m t i (goes g m t e) l)))
    where
      longer : Goes g m t → Goes g n t
      longer q = record { inside = q.inside; has = λ r. omega (arith, q.has r) }

-- ---- no path of tried entries is cheaper, and none at all once it is over

module _ (g : Graph) (own : ℕ) (t : State) (i : Inv g own t) where
  along : (u : ℕ) (ks : List ℕ) → 1 ≤ at t.dist u → EachTried g t.tries u ks → g.final (walk g u ks) ≡ true → t.limit < at t.dist u + total g u ks
  along u [] m h f = omega (arith, i.bound.finals u f m)
  along u (k ∷ ks) m h f =
      let p = i.entries.passed u k h.0 in
      let r = i.core.relaxed u k p.0 p.1 p.2 in
      omega (arith, r.1, along (g.next u k) ks r.0 h.1 f)

  ahead : size g ≤ t.current → (u : ℕ) (ks : List ℕ) → 1 ≤ at t.dist u → Lawful g u ks → g.final (walk g u ks) ≡ true → t.limit < at t.dist u + total g u ks
  ahead e u [] m h f = omega (arith, i.bound.finals u f m)
  ahead e u (k ∷ ks) m h f = go (under? 0 (at t.order u)) (λ n. ahead e (g.next u k) ks n h.2 f)
    where
      go : Under 0 (at t.order u) → (1 ≤ at t.dist (g.next u k) → t.limit < at t.dist (g.next u k) + total g (g.next u k) ks) → t.limit < at t.dist u + (g.price u k + total g (g.next u k) ks)
      go (under q p) ih = let r = i.core.relaxed u k h.0 h.1 (before q) in omega (arith, r.1, ih r.0)
      go (not-under q p) ih = omega (arith, i.ended e u m (omega arith))

-- ---- the way back

-- at most n positions lie on the way back from v
data Rank (t : State) (v n : ℕ) : Type 0 where
  is-settled : 1 ≤ at t.order v → at t.order v ≤ n → Rank t v n
  is-current : v ≡ t.current → t.settled < n → Rank t v n
  is_open : t.settled + 1 < n → Rank t v n

module _ (g : Graph) (own : ℕ) (t : State) (i : Inv g own t) where
  rank-some : (v : ℕ) → Rank t v 0 → ⊥
  rank-some v (is-settled h l) = omega arith
  rank-some v (is-current h l) = omega arith
  rank-some v (is_open l) = omega arith

  rank_up : (u v n : ℕ) → Above (at t.order) t.current u v → Rank t v (suc n) → Rank t u n
  rank_up u v n (settled h f) (is-settled q l) = is-settled h (omega (arith, f q))
  rank_up u v n (settled h f) (is-current q l) = is-settled h (omega (arith, i.core.few u))
  rank_up u v n (settled h f) (is_open l) = is-settled h (omega (arith, i.core.few u))
  rank_up u v n (current e d o) (is-settled q l) = absurd (omega arith)
  rank_up u v n (current e d o) (is-current q l) = absurd (d q)
  rank_up u v n (current e d o) (is_open l) = is-current e (omega arith)

  -- the way to v, before ks
  record Way (v : ℕ) (ks : List ℕ) (n : ℕ) (p : List ℕ) : Type 0 where
    lawful : Lawful g v ks → Lawful g 0 p
    ends : walk g 0 p ≡ walk g v ks
    costs : total g 0 p + 1 ≡ at t.dist v + total g v ks
    short : length p < length ks + n
    spelt : (φ : ℕ → ℕ → ℕ) → forward g φ 0 p ≡ trail g φ n t.via v (forward g φ v ks)

  way : (n v : ℕ) (ks : List ℕ) → 1 ≤ at t.dist v → Rank t v n → Way v ks n (route g n t v ks)
  unfolding route trail
  way zero v ks m r = absurd (rank-some v r)
  way (suc n) v ks m r =
      choice (λ z. Way v ks (suc n) z) (eqb v 0)
      (λ e. rw (eqb-true v 0 e) (record { lawful = λ h. h; ends = refl; costs = omega (arith, i.core.start); short = omega arith; spelt = λ φ. refl }))
      (λ e. go e (i.core.parent v m (eqb-false v 0 e)) (λ a h. way n (from_of g t.via v) (by_of g t.via v ∷ ks) h (rank_up (from_of g t.via v) v n a r)))
    where
      go : eqb v 0 ≡ false → Parent g (at t.dist) (at t.order) t.current (from_of g t.via v) (by_of g t.via v) v
          → (Above (at t.order) t.current (from_of g t.via v) v → 1 ≤ at t.dist (from_of g t.via v)
          → Way (from_of g t.via v) (by_of g t.via v ∷ ks) n (route g n t (from_of g t.via v) (by_of g t.via v ∷ ks)))
          → Way v ks (suc n) (route g n t (from_of g t.via v) (by_of g t.via v ∷ ks))
      go e p f = let w = f p.above p.known in
          record {
            lawful = λ h. w.lawful (p.code_lt, p.allowed, rw p.leads h);
            ends = w.ends ∙ ap (λ z. walk g z ks) p.leads;
            costs = w.costs ∙ rw p.leads (omega (arith, p.adds));
            short = omega (arith, w.short);
            spelt = λ φ. rw e (w.spelt φ ∙ ap (λ z. trail g φ n t.via (from_of g t.via v) (φ (from_of g t.via v) (by_of g t.via v) ∷ forward g φ z ks)) p.leads);
          }

  rank-any : (v : ℕ) → 1 ≤ at t.dist v → Rank t v (size g + 1)
  rank-any v m = go (under? 0 (at t.order v))
    where
      in-range : v < size g
      in-range = omega (arith, at-below t.dist v m, i.shape.dist)

      go : Under 0 (at t.order v) → Rank t v (size g + 1)
      go (under h e) = is-settled h (omega (arith, i.core.few v, i.entries.count, nonzeros-le t.order, i.shape.order))
      go (not-under h e) = is_open (omega (arith, i.entries.count, nonzeros-lt t.order v (omega (arith, in-range, i.shape.order)) (omega arith), i.shape.order))

-- ---- the promises

pub best : (g : Graph) (own m : ℕ) → Closed g own → Best g own m
unfolding searched used over initial Enough ready
best g own m cl =
    record {
      none = i.bound.none;
      legal = λ d. (path d).lawful tt;
      final = λ d. rw (path d).ends (i.bound.final-goal d);
      cost = λ d. omega (arith, (path d).costs, i.bound.goal-cost d);
      short = λ d. omega (arith, (path d).short);
      goal-lt = λ d. omega (arith, at-below t.dist t.goal (omega (arith, i.bound.goal-cost d)), i.shape.dist);
      within-from = i.shape.from-lt;
      spelt = λ d. (path d).spelt;
      cheaper = i.bound.own-le;
      nothing = λ e. i.entries.unused (omega (arith, within));
      better = λ n h. run-better g own cl fuel m n (initial g own) i₀ h (omega arith);
      tried = λ ks h f. omega (arith, along g own t i 0 ks (omega (arith, i.core.start)) h f, i.core.start);
      trace = i.entries.trace;
      within = within;
      left = λ h. settle-over (λ r. omega (arith, r.spent));
      least = λ e ks h f. omega (arith, ahead g own t i (leb-true _ _ e) 0 ks (omega (arith, i.core.start)) h f, i.core.start);
      suffice = λ h. settle-over (λ r. too_many_lem h r (both_true (ltb t.code g.codes) (g.legal t.current t.code) r.waits));
    }
  where
    fuel : ℕ
    fuel = (g.codes + 1) * size g + 1

    i₀ : Inv g own (initial g own)
    i₀ = initial-inv g own cl

    t : State
    t = run g fuel m (initial g own)

    i : Inv g own t
    i = run-inv g own cl fuel m (initial g own) i₀

    within : length t.tries ≤ m
    within = run-used g own cl fuel m (initial g own) i₀ (omega arith)

    halted : halts g m t ≡ true
    halted = run-halts g own cl fuel m (initial g own) i₀ (omega arith)

    path : t.goal ≢ size g → Way g own t i t.goal [] (size g + 1) (route g (size g + 1) t t.goal [])
    path d = way g own t i (size g + 1) t.goal [] (omega (arith, i.bound.goal-cost d)) (rank-any g own t i t.goal (omega (arith, i.bound.goal-cost d)))

    settle-over : (Rests g m t → ⊥) → leb (size g) t.current ≡ true
    settle-over f = go (leb (size g) t.current) refl
      where
        go : (b : Bool) → leb (size g) t.current ≡ b → b ≡ true
        go true e = refl
        go false e = absurd (f (rests g m t halted e))

    too_many_lem : g.codes * size g ≤ m → Rests g m t → (ltb t.code g.codes ≡ true) × (g.legal t.current t.code ≡ true) → ⊥
    too_many_lem h r p =
        omega (arith, r.spent, i.entries.few, ltb-true t.code g.codes p.0, mul-suc g.codes t.settled, mul-le-mul_left g.codes (few-settled g own cl t i r.inside))
