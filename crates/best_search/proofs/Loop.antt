-- The search as a loop that makes one move at a time: what is left of the fuel is a number that falls by 1.
use Prim.Native.Nat.{ℕ, zero, suc, ◌+◌, ◌-◌, ◌*◌, ◌≤◌, ◌<◌}
use mathlib.Core.Path.{◌≡◌, refl, sym, ap, ◌∙◌}
use mathlib.Core.Bool.{Bool, true, false, ◌&&◌, cond}
use native.Mathlib.Omega.{arith}
use native.Mathlib.Nat.{mul-suc, mul-le-mul_left}
use lib.Dec.{ltb, eqb}
use borrow.Author.Tests.{ltb-true, ltb-false, eqb-true}
use Rattle.protocol_types.specs.Lists.{at}
use lib.ListN.{set}
use mathlib.Core.Logic.{◌≢◌}
use Rattle.protocol_types.proofs.Laws.{choice, at_set_other}
use Rattle.best_search.specs.Search.{Graph, size, layer, State, initial, closed, moved, onward, lowered, relaxed, past, ready, tick, halts, run, searched}
use Rattle.best_search.proofs.Invariant.{falls-open}
use Rattle.best_search.proofs.Machine.{Closed, Inv}
use Rattle.best_search.proofs.Tick.{Next, none, found, upcoming-is, layer-lt, initial-inv, tick-inv}
use Rattle.best_search.proofs.Answer.{few-settled, goes}

-- moves left
unfoldable pub fuel : Graph → State → ℕ
fuel g t = (g.codes + 1) * size g + 1 - ((g.codes + 1) * t.settled + t.code)

-- each move counts one
counts : (g : Graph) (t : State) → t.code ≤ g.codes → (g.codes + 1) * (tick g t).settled + (tick g t).code ≡ (g.codes + 1) * t.settled + t.code + 1
unfolding tick ready relaxed past lowered onward moved closed
counts g t lc =
    choice (λ (z : State). (g.codes + 1) * z.settled + z.code ≡ (g.codes + 1) * t.settled + t.code + 1) (ltb t.code g.codes && g.legal t.current t.code)
    (λ e. same-settled (eqb (at t.dist (g.next t.current t.code)) 0) (ltb (at t.dist t.current + g.price t.current t.code) (at t.dist (g.next t.current t.code))))
    (λ e. choice (λ (z : State). (g.codes + 1) * z.settled + z.code ≡ (g.codes + 1) * t.settled + t.code + 1) (ltb t.code g.codes) (λ f. omega arith)
    (λ f. omega (arith, mul-suc (g.codes + 1) t.settled, ltb-false t.code g.codes f)))
  where
    w : ℕ
    w = g.next t.current t.code

    n : ℕ
    n = at t.dist t.current + g.price t.current t.code

    same-settled : (c d : Bool)
        → (g.codes + 1) * (cond c (lowered g t w n) (cond d (lowered g t w n) t)).settled + suc (cond c (lowered g t w n) (cond d (lowered g t w n) t)).code ≡ (g.codes + 1) * t.settled + t.code + 1
    same-settled true d = omega arith
    same-settled false true = omega arith
    same-settled false false = omega arith

module _ (g : Graph) (own m : ℕ) (cl : Closed g own) where
  -- what the loop keeps
  pub record Kept (t : State) : Type 0 where
    pub inv : Inv g own t
    pub same : run g (fuel g t) m t ≡ searched g own m

  pub kept-start : Kept (initial g own)
  unfolding searched fuel initial
  kept-start = record { inv = initial-inv g own cl; same = ap (λ z. run g z m (initial g own)) (omega arith) }

  some-fuel : (t : State) → Inv g own t → t.current < size g → (f : ℕ) × (fuel g t ≡ suc f)
  unfolding fuel
  some-fuel t i l =
      (fuel g t - 1, omega (arith, mul-suc (g.codes + 1) t.settled, mul-le-mul_left (g.codes + 1) (few-settled g own cl t i l), i.shape.code))

  pub kept_on : (t : State) → Kept t → halts g m t ≡ false → Kept (tick g t)
  unfolding fuel run
  kept_on t k e =
      let l = (goes g m t e).inside in
      let s = some-fuel t k.inv l in
      let p : run g (suc s.0) m t ≡ run g s.0 m (tick g t) = rw e in
      let q : fuel g (tick g t) ≡ s.0 = omega (arith, counts g t k.inv.shape.code, s.1) in
      record {
        inv = tick-inv g own t cl k.inv l;
        same = ap (λ z. run g z m (tick g t)) q ∙ sym p ∙ ap (λ z. run g z m t) (sym s.1) ∙ k.same;
      }

  pub fuel-falls : (t : State) → Kept t → halts g m t ≡ false → fuel g (tick g t) < fuel g t
  unfolding fuel
  fuel-falls t k e = let s = some-fuel t k.inv (goes g m t e).inside in omega (arith, counts g t k.inv.shape.code, s.1)

  pub kept-end : (t : State) → Kept t → halts g m t ≡ true → t ≡ searched g own m
  unfolding run
  kept-end t k e = go (fuel g t) refl
    where
      go : (f : ℕ) → fuel g t ≡ f → t ≡ searched g own m
      go zero p = sym (ap (λ z. run g z m t) p) ∙ k.same
      go (suc f) p = (let q : run g (suc f) m t ≡ t = rw e in sym q) ∙ sym (ap (λ z. run g z m t) p) ∙ k.same

-- ---- two states with the same fields

pub state-path : {x y : State} → x.dist ≡ y.dist → x.order ≡ y.order → x.via ≡ y.via → x.current ≡ y.current → x.code ≡ y.code → x.settled ≡ y.settled
    → x.limit ≡ y.limit → x.goal ≡ y.goal → x.tries ≡ y.tries → x ≡ y
state-path a b c e f h i j k = λ z. record { dist = a z; order = b z; via = c z; current = e z; code = f z; settled = h z; limit = i z; goal = j z; tries = k z }

-- ---- the current position is not dearer than what was there before

pub near-start : (g : Graph) (own : ℕ) → Closed g own → at (initial g own).dist (initial g own).current ≤ own + 1
unfolding initial
near-start g own cl = omega (arith, (initial-inv g own cl).core.start)

pub tick-near : (g : Graph) (own : ℕ) (t : State) → Closed g own → Inv g own t → t.current < size g → at t.dist t.current ≤ own + 1
    → (tick g t).current < size g → at (tick g t).dist (tick g t).current ≤ own + 1
unfolding tick ready relaxed past lowered onward moved closed
tick-near g own t cl i l h =
    choice (λ (z : State). z.current < size g → at z.dist z.current ≤ own + 1) (ltb t.code g.codes && g.legal t.current t.code)
    (λ e l'. relax (eqb (at t.dist w) 0) refl (ltb n (at t.dist w)) refl)
    (λ e. choice (λ (z : State). z.current < size g → at z.dist z.current ≤ own + 1) (ltb t.code g.codes) (λ f l'. h)
    (λ f l'. there _ (upcoming-is g cl.wide (closed t) (g.layers - layer g t.current) (layer g t.current) (omega (arith, layer-lt g cl.wide t.current l))) l'))
  where
    w : ℕ
    w = g.next t.current t.code

    n : ℕ
    n = at t.dist t.current + g.price t.current t.code

    stays : w ≢ t.current → at (set t.dist w n) t.current ≤ own + 1
    stays d = omega (arith, at_set_other t.dist w n t.current (λ e. d (sym e)))

    relax : (c : Bool) → eqb (at t.dist w) 0 ≡ c → (d : Bool) → ltb n (at t.dist w) ≡ d
        → at (cond c (lowered g t w n) (cond d (lowered g t w n) t)).dist (cond c (lowered g t w n) (cond d (lowered g t w n) t)).current ≤ own + 1
    relax true e d f = stays (λ p. let q : at t.dist w ≡ at t.dist t.current = ap (at t.dist) p in omega (arith, eqb-true (at t.dist w) 0 e, i.core.cur-met l))
    relax false e true f = stays (λ p. let q : at t.dist w ≡ at t.dist t.current = ap (at t.dist) p in omega (arith, ltb-true n (at t.dist w) f))
    relax false e false f = h

    there : (p : ℕ) → Next g (closed t) (layer g t.current) p → p < size g → at t.dist p ≤ own + 1
    there p (none e f) q = absurd (omega arith)
    there p (found h o f) q = omega (arith, o.near, i.bound.own-le)

pub some-halts : (g : Graph) (own m : ℕ) (cl : Closed g own) (t : State) → Kept g own m cl t → halts g m t ≡ false → (t.current < size g) × (t.settled < size g)
some-halts g own m cl t k e = let l = (goes g m t e).inside in (l, few-settled g own cl t k.inv l)

-- where the next entry gives its position a smaller distance, that position is not settled
pub next-open : (g : Graph) (own : ℕ) (t : State) → Closed g own → Inv g own t → t.current < size g → g.legal t.current t.code ≡ true
    → (1 ≤ at t.dist (g.next t.current t.code) → at t.dist t.current + g.price t.current t.code < at t.dist (g.next t.current t.code))
    → at t.order (g.next t.current t.code) ≡ 0
next-open g own t cl i l al falls =
    falls-open g _ _ _ _ t.current t.code t.settled t.limit i.core (g.next t.current t.code) (at t.dist t.current + g.price t.current t.code) l
    (cl.later t.current t.code al) (omega arith) falls
