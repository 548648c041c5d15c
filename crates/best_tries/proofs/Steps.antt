-- The steps of the search, as the code makes them.
use Prim.Native.Nat.{ℕ, ◌+◌, ◌-◌, ◌*◌, ◌/◌, ◌≤◌, ◌<◌}
use mathlib.Core.Path.{◌≡◌, refl, sym, ap, ◌∙◌}
use mathlib.Core.Bool.{Bool, true, false, ◌&&◌, ◌||◌, cond, true≢false}
use mathlib.Core.List.{List}
use native.Mathlib.Omega.{arith}
use native.Mathlib.Numerals.{add-one}
use lib.ListN.{length, set}
use lib.Dec.{leb, ltb, eqb}
use borrow.Author.Tests.{le-leb, lt-leb, eqb-true, ltb-true}
use Rattle.protocol_types.specs.Lists.{at}
use Rattle.protocol_types.specs.declared.Setup.{Setup}
use Rattle.best_search.specs.Search.{Graph, size, layer, State, Tried, upcoming, past, lowered, relaxed, closed, moved, onward}
use Rattle.best_search.proofs.Loop.{state-path}
use Rattle.best_lowest.specs.Lowest.{nearer, lowest_in, lowest_of}
use Rattle.best_lowest.proofs.Lowest.{lowered-group, settled-group}
use Rattle.best_positions.specs.Position.{board}
use Rattle.best_tries.specs.declared.Progress.{Progress}
use Rattle.best_tries.specs.Progress.{state_at, Falls}

-- ---- past the current entry

pub past_same : (d o v : List ℕ) (p : Progress) (x : ℕ) (ts us : List Tried)
    → state_at d o v (record { current = p.current; code = p.code + 1; settled = p.settled; limit = p.limit; goal = p.goal; used = x }) us ≡ past (state_at d o v p ts) us
unfolding past
past_same d o v p x ts us = state-path refl refl refl refl (add-one p.code) refl refl refl refl

module _ (g : Graph) (d o v : List ℕ) (p : Progress) (w n : ℕ) (ts us : List Tried) (eighteen : g.codes ≡ 18) where
  way : set v w (18 * p.current + p.code) ≡ set v w (g.codes * p.current + p.code)
  way = ap (λ z. set v w (z * p.current + p.code)) (sym eighteen)

  -- r is past the entry, and its limit and goal change with the tables
  pub lower-better : (r : Progress) → ((d o v : List ℕ) (ts us : List Tried) → state_at d o v r us ≡ past (state_at d o v p ts) us) → g.final w ≡ true → n ≤ p.limit
      → state_at (set d w n) o (set v w (18 * p.current + p.code)) (record { current = r.current; code = r.code; settled = r.settled; limit = n - 1; goal = w; used = r.used }) us
      ≡ past (lowered g (state_at d o v p ts) w n) us
  unfolding past lowered
  lower-better r q e l =
      let x = q d o v ts us in
      state-path refl refl way (ap (λ (z : State). z.current) x) (ap (λ (z : State). z.code) x) (ap (λ (z : State). z.settled) x) (rw (e, le-leb n p.limit l)) (rw (e, le-leb n p.limit l)) refl

  -- what is past the entry with the same limit, with the tables changed
  pub lower-same : (r : Progress) → ((d o v : List ℕ) (ts us : List Tried) → state_at d o v r us ≡ past (state_at d o v p ts) us) → (g.final w ≡ true → p.limit < n)
      → state_at (set d w n) o (set v w (18 * p.current + p.code)) r us ≡ past (lowered g (state_at d o v p ts) w n) us
  unfolding past lowered
  lower-same r q h = q (set d w n) o (set v w (18 * p.current + p.code)) ts us
      ∙ state-path refl refl way refl refl refl (sym (ap (λ c. cond c (n - 1) p.limit) dear)) (sym (ap (λ c. cond c w p.goal) dear)) refl
    where
      go : (c : Bool) → g.final w ≡ c → c && leb n p.limit ≡ false
      go true e = lt-leb n p.limit (h e)
      go false e = refl

      dear : g.final w && leb n p.limit ≡ false
      dear = go (g.final w) refl

-- ---- the current position is settled

pub settle-next : (s : Setup) (asks d o v : List ℕ) (p : Progress) (q x : ℕ) (ts : List Tried)
    → q ≡ upcoming 32400 1296 d (set o p.current (p.settled + 1)) p.limit (25 - p.current / 1296) (p.current / 1296)
    → state_at d (set o p.current (p.settled + 1)) v (record { current = q; code = 0; settled = p.settled + 1; limit = p.limit; goal = p.goal; used = x }) ts
    ≡ onward (board s asks) (closed (state_at d o v p ts))
unfolding onward moved closed board size layer
settle-next s asks d o v p q x ts e =
    state-path refl (ap (λ z. set o p.current z) (add-one p.settled)) refl
    (e ∙ ap (λ z. upcoming 32400 1296 d (set o p.current z) p.limit (25 - p.current / 1296) (p.current / 1296)) (add-one p.settled)) refl (add-one p.settled) refl refl refl

-- ---- an entry is tried

module _ (g : Graph) (t : State) (w n : ℕ) (to : w ≡ g.next t.current t.code) (is-n : n ≡ at t.dist t.current + g.price t.current t.code) where
  relaxed-by : (c d : Bool) → eqb (at t.dist w) 0 ≡ c → ltb n (at t.dist w) ≡ d → cond c (lowered g t w n) (cond d (lowered g t w n) t) ≡ relaxed g t
  unfolding relaxed
  relaxed-by c d e f =
      (λ i. cond (sym e i) (lowered g t w n) (cond (sym f i) (lowered g t w n) t))
      ∙ (λ i. cond (eqb (at t.dist (to i)) 0) (lowered g t (to i) (is-n i)) (cond (ltb (is-n i) (at t.dist (to i))) (lowered g t (to i) (is-n i)) t))

  pub relaxed-falls : eqb (at t.dist w) 0 || ltb n (at t.dist w) ≡ true → lowered g t w n ≡ relaxed g t
  relaxed-falls e = go (eqb (at t.dist w) 0) (ltb n (at t.dist w)) refl refl e
    where
      go : (c d : Bool) → eqb (at t.dist w) 0 ≡ c → ltb n (at t.dist w) ≡ d → c || d ≡ true → lowered g t w n ≡ relaxed g t
      go true d p q h = relaxed-by true d p q
      go false true p q h = relaxed-by false true p q
      go false false p q h = absurd (true≢false (sym h))

  pub relaxed-not : eqb (at t.dist w) 0 || ltb n (at t.dist w) ≡ false → t ≡ relaxed g t
  relaxed-not e = go (eqb (at t.dist w) 0) (ltb n (at t.dist w)) refl refl e
    where
      go : (c d : Bool) → eqb (at t.dist w) 0 ≡ c → ltb n (at t.dist w) ≡ d → c || d ≡ false → t ≡ relaxed g t
      go true d p q h = absurd (true≢false h)
      go false true p q h = absurd (true≢false h)
      go false false p q h = relaxed-by false false p q

-- the test that the code makes
pub falls-is : (d : List ℕ) (w n : ℕ) → eqb (at d w) 0 || ltb n (at d w) ≡ true → Falls d w n
falls-is d w n e h = go (eqb (at d w) 0) (ltb n (at d w)) refl refl e
  where
    go : (c b : Bool) → eqb (at d w) 0 ≡ c → ltb n (at d w) ≡ b → c || b ≡ true → n < at d w
    go true b p q f = absurd (omega (arith, eqb-true (at d w) 0 p))
    go false true p q f = ltb-true n (at d w) q
    go false false p q f = absurd (true≢false (sym f))

-- ---- the table of the smallest distances

pub lowered-table : (d o low low' : List ℕ) (w n : ℕ) → w < 32400 → length d ≡ 32400 → 1 ≤ n → Falls d w n → at o w ≡ 0 → low ≡ lowest_of d o
    → low' ≡ set low (w / 36) (nearer (at low (w / 36)) n) → low' ≡ lowest_of (set d w n) o
lowered-table d o low low' w n l long some f free e q =
    q ∙ ap (λ z. set z (w / 36) (nearer (at z (w / 36)) n)) e ∙ sym (lowered-group d o w n l long free some f)

pub settled-table : (d o low low' : List ℕ) (u n : ℕ) → u < 32400 → low ≡ lowest_of d o → low' ≡ set low (u / 36) (lowest_in d (set o u n) (36 * (u / 36)) 36)
    → low' ≡ lowest_of d (set o u n)
settled-table d o low low' u n l e q =
    q ∙ ap (λ z. set z (u / 36) (lowest_in d (set o u n) (36 * (u / 36)) 36)) e ∙ sym (settled-group d o u n l)
