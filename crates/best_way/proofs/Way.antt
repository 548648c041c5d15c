-- The way back, counted and written; and that it fits where a search leaves its tables.
use Prim.Native.Nat.{ℕ, zero, suc, ◌+◌, ◌-◌, ◌/◌, ◌%◌, ◌≤◌, ◌<◌}
use mathlib.Core.Path.{◌≡◌, refl, sym, ap, ◌∙◌}
use mathlib.Core.Logic.{◌≢◌}
use mathlib.Core.Bool.{Bool, true, false, cond}
use mathlib.Core.List.{List, [], ◌∷◌, ◌++◌}
use native.Mathlib.Omega.{arith}
use lib.ListN.{length, set, take, drop, take-append-drop}
use lib.Dec.{eqb, leb}
use borrow.Author.Tests.{eq-eqb, ne_eqb}
use Rattle.protocol_types.specs.Lists.{at}
use Rattle.protocol_types.specs.declared.Setup.{Setup}
use Rattle.best_search.specs.Search.{Graph, State, size, trail, forward, route, searched, over, Best}
use Rattle.best_search.proofs.Answer.{best}
use Rattle.best_positions.specs.Position.{entry_number, board}
use Rattle.best_positions.specs.Best.{way_back}
use Rattle.best_positions.proofs.Schedules.{size_is, closed-asks}
use Rattle.best_tries.specs.declared.Progress.{Progress}
use Rattle.best_tries.specs.Progress.{state_at}
use Rattle.best_way.specs.Hops.{hops}

-- ---- counting

pub hops-stop : (n : ℕ) (via : List ℕ) (v : ℕ) → v ≡ 0 → hops n via v ≡ 0
unfolding hops
hops-stop zero via v e = refl
hops-stop (suc n) via v e = rw (eq-eqb v 0 e)

pub hops-on : (m n : ℕ) (via : List ℕ) (v : ℕ) → n < m → v ≢ 0 → hops (m - n) via v ≡ suc (hops (m - (n + 1)) via (at via v / 18))
unfolding hops
hops-on m n via v l d = (let p : m - n ≡ suc (m - (n + 1)) = omega arith in ap (λ z. hops z via v) p) ∙ rw (ne_eqb v 0 d)

pub hops-none : (m n : ℕ) (via : List ℕ) (v : ℕ) → m ≤ n → hops (m - n) via v ≡ 0
unfolding hops
hops-none m n via v h = let p : m - n ≡ 0 = omega arith in ap (λ z. hops z via v) p

-- ---- writing

set_front : (l ys : List ℕ) (j x : ℕ) → j < length l → set (take (suc j) l ++ ys) j x ≡ take j l ++ (x ∷ ys)
set_front [] ys j x h = absurd (omega arith)
set_front (y ∷ l) ys zero x h = refl
set_front (y ∷ l) ys (suc j) x h = ap (λ z. y ∷ z) (set_front l ys j x (omega arith))

module _ (s : Setup) (asks via : List ℕ) where
  -- the entry by which u was reached
  abbrev entry_to : ℕ → ℕ
  entry_to u = entry_number (at via u / 18) (at via u % 18)

  -- what is written of the way back from u, before xs
  unfoldable pub back : ℕ → ℕ → List ℕ → List ℕ
  back n u xs = trail (board s asks) entry_number n via u xs

  -- one more on the way back
  record More (m u j : ℕ) (xs : List ℕ) : Type 0 where
    rest : ℕ
    fewer : hops rest via (at via u / 18) ≡ j
    same-trail : back rest (at via u / 18) (entry_to u ∷ xs) ≡ back m u xs

  one_more : (m u j : ℕ) (xs : List ℕ) → hops m via u ≡ suc j → More m u j xs
  unfolding hops trail back board
  one_more zero u j xs h = absurd (omega arith)
  one_more (suc m) u j xs h = go (eqb u 0) refl h
    where
      go : (c : Bool) → eqb u 0 ≡ c → cond c 0 (suc (hops m via (at via u / 18))) ≡ suc j → More (suc m) u j xs
      go true e f = absurd (omega arith)
      go false e f = record { rest = m; fewer = omega arith; same-trail = rw e }

  trail-length : (n v : ℕ) (xs : List ℕ) → length (back n v xs) ≡ hops n via v + length xs
  unfolding hops trail back board
  trail-length zero v xs = omega arith
  trail-length (suc n) v xs = go (eqb v 0) (trail-length n (at via v / 18) (entry_to v ∷ xs))
    where
      go : (c : Bool) → length (back n (at via v / 18) (entry_to v ∷ xs)) ≡ hops n via (at via v / 18) + suc (length xs)
          → length (cond c xs (back n (at via v / 18) (entry_to v ∷ xs))) ≡ cond c 0 (suc (hops n via (at via v / 18))) + length xs
      go true e = omega arith
      go false e = omega arith

  no_more : (m u : ℕ) (xs : List ℕ) → hops m via u ≡ 0 → back m u xs ≡ xs
  unfolding hops trail back
  no_more zero u xs h = refl
  no_more (suc m) u xs h = go (eqb u 0) _ _ h
    where
      go : (c : Bool) (n : ℕ) (ys : List ℕ) → cond c 0 (suc n) ≡ 0 → cond c xs ys ≡ xs
      go true n ys f = refl
      go false n ys f = absurd (omega arith)

  pub way-length-is : (v : ℕ) → length (way_back s asks via v) ≡ hops 32401 via v
  unfolding way_back back
  way-length-is v = trail-length 32401 v [] ∙ omega arith

  -- j entries are still to be written, from position u back; xs are written
  pub record Filling (old : List ℕ) (v n u j : ℕ) (now : List ℕ) : Type 0 where
    pub xs : List ℕ
    pub m : ℕ
    pub left : hops m via u ≡ j
    pub whole : back m u xs ≡ way_back s asks via v
    pub shows : now ≡ take j old ++ (xs ++ drop n old)

  pub filling-start : (old : List ℕ) (v n : ℕ) → n ≡ hops 32401 via v → Filling old v n v n old
  unfolding way_back back
  filling-start old v n e = record { xs = []; m = 32401; left = sym e; whole = refl; shows = sym (take-append-drop n old) }

  filling-on : (old : List ℕ) (v n u j : ℕ) (list : List ℕ) → j < length old → Filling old v n u (suc j) list → Filling old v n (at via u / 18) j (set list j (entry_to u))
  filling-on old v n u j list l f = go (one_more f.m u j f.xs f.left)
    where
      go : More f.m u j f.xs → Filling old v n (at via u / 18) j (set list j (entry_to u))
      go r =
          record {
            xs = entry_to u ∷ f.xs;
            m = r.rest;
            left = r.fewer;
            whole = r.same-trail ∙ f.whole;
            shows = ap (λ z. set z j (entry_to u)) f.shows ∙ set_front old (f.xs ++ drop n old) j (entry_to u) l;
          }

  pub filling_step : (old : List ℕ) (v n u j : ℕ) (list : List ℕ) (w x : ℕ) → 0 < j → j ≤ length old → w ≡ at via u / 18 → x ≡ entry_to u → Filling old v n u j list
      → Filling old v n w (j - 1) (set list (j - 1) x)
  filling_step old v n u zero list w x h l to is f = absurd (omega arith)
  filling_step old v n u (suc j) list w x h l to is f =
      let p : suc j - 1 ≡ j = omega arith in
      rw (to, is, p) (filling-on old v n u j list l f)

  pub filling-end : (old : List ℕ) (v n u : ℕ) (list : List ℕ) → Filling old v n u 0 list → list ≡ way_back s asks via v ++ drop n old
  filling-end old v n u list f = f.shows ∙ ap (λ z. z ++ drop n old) (sym (no_more f.m u f.xs f.left) ∙ f.whole)

-- ---- the way back from the goal of a search

forward-length : (g : Graph) (u : ℕ) (ks : List ℕ) → length (forward g entry_number u ks) ≡ length ks
forward-length g u [] = refl
forward-length g u (k ∷ ks) = ap suc (forward-length g (g.next u k) ks)

-- where a search leaves these tables and this progress
module _ (s : Setup) (asks : List ℕ) (steps own : ℕ) (few : length asks ≤ 24) (none : length asks ≡ 0 → own ≡ 0) (d o v : List ℕ) (p : Progress)
    (e : state_at d o v p (searched (board s asks) own steps).tries ≡ searched (board s asks) own steps) where
  abbrev t : State
  t = searched (board s asks) own steps

  known : Best (board s asks) own steps
  known = best (board s asks) own steps (closed-asks s asks own few none)

  pub via-is : v ≡ (searched (board s asks) own steps).via
  via-is = ap (λ (z : State). z.via) e

  pub goal-is : p.goal ≡ (searched (board s asks) own steps).goal
  goal-is = ap (λ (z : State). z.goal) e

  pub limit_is : p.limit ≡ (searched (board s asks) own steps).limit
  limit_is = ap (λ (z : State). z.limit) e

  pub least-is : leb 32400 p.current ≡ over (board s asks) (searched (board s asks) own steps)
  unfolding over board size
  least-is = ap (λ (z : State). leb 32400 z.current) e

  pub from-lt : (j : ℕ) → at v j / 18 < 32400
  unfolding board
  from-lt j = rw via-is (omega (arith, known.within-from j, size_is s asks))

  pub goal-lt : p.goal ≢ 32400 → p.goal < 32400
  goal-lt x = omega (arith, goal-is, known.goal-lt (λ y. x (goal-is ∙ y ∙ size_is s asks)), size_is s asks)

  -- it fits the list
  pub way-fits : p.goal ≢ 32400 → hops 32401 v p.goal ≤ 32400
  unfolding board size way_back
  way-fits x =
      let y : t.goal ≢ 32400 = λ y. x (goal-is ∙ y) in
      let q = ap length (known.spelt y entry_number) in
      rw (via-is, goal-is) (omega (arith, sym (way-length-is s asks t.via t.goal), q, forward-length (board s asks) 0 (route (board s asks) 32401 t t.goal []), known.short y))
