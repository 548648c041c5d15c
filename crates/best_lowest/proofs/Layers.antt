-- The search for the next position: the first of the cheapest open positions is the only one that is open, least and the first of those, and so is what the
-- two stages choose, the nearest group and then the first position there that has its distance.
use Prim.Native.Nat.{ℕ, zero, suc, ◌+◌, ◌-◌, ◌*◌, ◌/◌, ◌≤◌, ◌<◌}
use mathlib.Core.Path.{◌≡◌, refl, sym, ap, ◌∙◌}
use mathlib.Core.Logic.{◌≢◌}
use mathlib.Core.Bool.{Bool, true, false, ◌&&◌, cond, true≢false}
use mathlib.Core.List.{List}
use native.Mathlib.Omega.{arith}
use native.Mathlib.Numerals.{add-one}
use lib.Dec.{leb, ltb, eqb}
use borrow.Author.Tests.{ltb-true, leb-true, eqb-true, eq-eqb, ne_eqb, lt-ltb, le-ltb, le-leb}
use Rattle.std.specs.Prelude.{Option, None, Some, unwrap_or, IfSome}
use Rattle.protocol_types.specs.Lists.{at, first, smaller, argmin_below}
use Rattle.protocol_types.proofs.Laws.{Same, same, apart, same?, Under, under, over, under?, Known, sure, not_so, known, three-true, choice}
use Rattle.protocol_types.proofs.Laws.{first_holds, first-before, first-none, Smallest, smallest-only, Argmin, none_pass, some-pass, argmin-below}
use Rattle.best_search.specs.Search.{open?, cheaper, cheapest, upcoming}
use Rattle.best_lowest.specs.Lowest.{waiting, lowest_of, group_below}
use Rattle.best_lowest.proofs.Lowest.{Lowest, lowest-is, waiting-open, groups-at, group-start, group-end, group-lt}

-- ---- an open position waits, at no more than the limit

pub record Open (dist order : List ℕ) (limit v : ℕ) : Type 0 where
  pub waits : 1 ≤ waiting dist order v
  pub near : waiting dist order v ≤ limit
  pub same : at dist v ≡ waiting dist order v

module _ (dist order : List ℕ) (limit v : ℕ) where
  pub is_open : open? dist order limit v ≡ true → Open dist order limit v
  unfolding open?
  is_open e =
      let h : (ltb 0 (at dist v) ≡ true) × (eqb (at order v) 0 ≡ true) × (leb (at dist v) limit ≡ true) = three-true _ _ _ e in
      let q : waiting dist order v ≡ at dist v = waiting-open dist order v (eqb-true (at order v) 0 h.1) in
      record { waits = omega (arith, q, ltb-true 0 (at dist v) h.0); near = omega (arith, q, leb-true (at dist v) limit h.2); same = sym q }

  pub open_is : 1 ≤ waiting dist order v → waiting dist order v ≤ limit → open? dist order limit v ≡ true
  unfolding open? waiting
  open_is h l = go (same? (at order v) 0)
    where
      go : Same (at order v) 0 → ltb 0 (at dist v) && eqb (at order v) 0 && leb (at dist v) limit ≡ true
      go (same p q) = rw (lt-ltb 0 (at dist v) (rw q at h), q, le-leb (at dist v) limit (rw q at l))
      go (apart p q) = absurd (no (rw q at h))
        where
          no : 1 ≤ 0 → ⊥
          no z = omega arith

-- ---- the first of the cheapest is the only one

module _ (end : ℕ) (dist order : List ℕ) (limit v : ℕ) where
  abbrev P : ℕ → Bool
  P j = open? dist order limit (v + j)

  abbrev w : ℕ → ℕ
  w j = at dist (v + j)

  -- where position k of those from v on is the choice, and `none` is none
  placed : ℕ → ℕ → ℕ
  placed none k = cond (ltb k none) (v + k) end

  at_most : (none m k : ℕ) → m ≤ none → Argmin P w none m k → k ≤ none
  at_most none m k l (none_pass e f) = omega arith
  at_most none m k l (some-pass a) = omega (arith, a.below)

  step : (none k n : ℕ) → n < none → v + none ≤ end → k ≤ none → cheaper end dist order limit (placed none k) (v + n) ≡ placed none (smaller none P w k n)
  unfolding placed cheaper
  step none k n h l u = go (known (P n)) (under? k none)
    where
      go : Known (P n) → Under k none
          → cond (P n) (cond (ltb (cond (ltb k none) (v + k) end) end) (cond (ltb (w n) (at dist (cond (ltb k none) (v + k) end))) (v + n) (cond (ltb k none) (v + k) end)) (v + n)) (cond (ltb k none) (v + k) end)
          ≡ cond (ltb (smaller none P w k n) none) (v + smaller none P w k n) end
      go (not_so e) d = rw e
      go (sure e) (under a b) =
          rw (e, b, lt-ltb (v + k) end (omega arith), ne_eqb k none (omega arith))
          (choice (λ z. cond (ltb (w n) (w k)) (v + n) (v + k) ≡ cond (ltb z none) (v + z) end) (ltb (w n) (w k)) (λ f. rw (f, lt-ltb n none h)) (λ f. rw (f, b)))
      go (sure e) (over a b) = rw (e, b, le-ltb end end (omega arith), eq-eqb k none (omega arith), lt-ltb n none h)

  cheapest-placed : (none n : ℕ) → n ≤ none → v + none ≤ end → cheapest end dist order limit v n ≡ placed none (argmin_below none P w n)
  unfolding cheapest placed
  cheapest-placed none zero h l = rw (le-ltb none none (omega arith))
  cheapest-placed none (suc n) h l =
      ap (λ z. cheaper end dist order limit z (v + n)) (cheapest-placed none n (omega arith) l)
      ∙ step none (argmin_below none P w n) n h l (at_most none n _ (omega arith) (argmin-below P w none n (omega arith)))

  module _ (n : ℕ) (l : v + n ≤ end) where
    whole : cheapest end dist order limit v n ≡ placed n (argmin_below n P w n)
    whole = cheapest-placed n n (omega arith) l

    pub cheapest-only : (k : ℕ) → Smallest P w n k → v + k ≡ cheapest end dist order limit v n
    unfolding placed
    cheapest-only k a = sym (whole ∙ go (argmin_below n P w n) (argmin-below P w n n (omega arith)))
      where
        go : (j : ℕ) → Argmin P w n n j → cond (ltb j n) (v + j) end ≡ v + k
        go j (none_pass e f) = absurd (true≢false (sym a.passes ∙ f k a.below))
        go j (some-pass b) = rw (lt-ltb j n b.below) (ap (λ z. v + z) (smallest-only P w n j k b a))

    pub cheapest-none : ((k : ℕ) → k < n → P k ≡ false) → end ≡ cheapest end dist order limit v n
    unfolding placed
    cheapest-none h = sym (whole ∙ go (argmin_below n P w n) (argmin-below P w n n (omega arith)))
      where
        go : (j : ℕ) → Argmin P w n n j → cond (ltb j n) (v + j) end ≡ end
        go j (none_pass e f) = rw (le-ltb j n (omega arith))
        go j (some-pass b) = absurd (true≢false (sym b.passes ∙ h j b.below))

-- ---- the two stages, over the n groups from position x on, whose smallest distances are L

module _ (dist order : List ℕ) (limit x n : ℕ) (L : ℕ → ℕ) (low : (h : ℕ) → h < n → Lowest (waiting dist order) (x + 36 * h) 36 (L h)) where
  -- what is open in a group is no cheaper than its smallest distance
  above : (j : ℕ) → j < 36 * n → Open dist order limit (x + j) → (1 ≤ L (j / 36)) × (L (j / 36) ≤ waiting dist order (x + j))
  above j u o = (low (j / 36) (group-lt j n u)).least (x + j) (omega (arith, group-start j)) (omega (arith, group-end j)) o.waits

  module _ (far : (h : ℕ) → h < n → 1 ≤ L h → limit < L h) where
    pub none_open : (j : ℕ) → j < 36 * n → open? dist order limit (x + j) ≡ false
    none_open j u = go (known (open? dist order limit (x + j)))
      where
        no : Open dist order limit (x + j) → ⊥
        no o = let a = above j u o in omega (arith, a.1, far (j / 36) (group-lt j n u) a.0, o.near)

        go : Known (open? dist order limit (x + j)) → open? dist order limit (x + j) ≡ false
        go (sure e) = absurd (no (is_open dist order limit (x + j) e))
        go (not_so e) = e

  module _ (g k : ℕ) (nearest : Smallest (λ h. ltb 0 (L h)) L n g) (near : L g ≤ limit) (below : k < 36)
      (here : waiting dist order (x + 36 * g + k) ≡ L g) (before : (j : ℕ) → j < k → waiting dist order (x + 36 * g + j) ≢ L g) where
    here' : waiting dist order (x + (36 * g + k)) ≡ L g
    here' = ap (waiting dist order) (omega arith) ∙ here

    opened : open? dist order limit (x + (36 * g + k)) ≡ true
    opened = open_is dist order limit (x + (36 * g + k)) (omega (arith, here', ltb-true 0 (L g) nearest.passes)) (omega (arith, here'))

    costs : at dist (x + (36 * g + k)) ≡ L g
    costs = (is_open dist order limit (x + (36 * g + k)) opened).same ∙ here'

    pub first-open : Smallest (λ j. open? dist order limit (x + j)) (λ j. at dist (x + j)) (36 * n) (36 * g + k)
    first-open =
        record {
          below = omega (arith, nearest.below);
          passes = opened;
          smallest = λ j u e. least j u (is_open dist order limit (x + j) e);
          lowest = λ j u e. earlier j u (is_open dist order limit (x + j) e) (same? (j / 36) g);
        }
      where
        least : (j : ℕ) → j < 36 * n → Open dist order limit (x + j) → at dist (x + (36 * g + k)) ≤ at dist (x + j)
        least j u o =
            let a = above j u o in
            omega (arith, costs, a.1, o.same, nearest.smallest (j / 36) (group-lt j n u) (lt-ltb 0 (L (j / 36)) a.0))

        within : (j : ℕ) → j < 36 * g + k → j < 36 * n
        within j u = omega (arith, nearest.below)

        -- in the same group
        level : (j : ℕ) → j < 36 * g + k → Open dist order limit (x + j) → j / 36 ≡ g → (i : ℕ) → j ≡ 36 * g + i → at dist (x + (36 * g + k)) < at dist (x + j)
        level j u o e i s =
            let a = above j (within j u) o in
            let q : L (j / 36) ≡ L g = ap L e in
            let z : waiting dist order (x + 36 * g + i) ≡ waiting dist order (x + j) = ap (waiting dist order) (omega arith) in
            let d : waiting dist order (x + j) ≢ L g = λ t. before i (omega arith) (z ∙ t) in
            omega (arith, costs, a.1, o.same, q, d)

        earlier : (j : ℕ) → j < 36 * g + k → Open dist order limit (x + j) → Same (j / 36) g → at dist (x + (36 * g + k)) < at dist (x + j)
        earlier j u o (same e _) = level j u o e (j - 36 * g) (omega (arith, group-start j, e))
        earlier j u o (apart d _) =
            let a = above j (within j u) o in
            omega (arith, costs, a.1, o.same, nearest.lowest (j / 36) (omega (arith, group-start j, d)) (lt-ltb 0 (L (j / 36)) a.0))

-- ---- the two stages in a layer, by the table

pub group-is : (lowest : List ℕ) (start n : ℕ) → n ≤ 36 → Argmin (λ j. ltb 0 (at lowest (start + j))) (λ j. at lowest (start + j)) 36 n (group_below lowest start n)
unfolding group_below
group-is lowest start n l = argmin-below (λ j. ltb 0 (at lowest (start + j))) (λ j. at lowest (start + j)) 36 n l

module _ (dist order lowest : List ℕ) (limit layer g : ℕ) (l : layer < 25) (table : lowest ≡ lowest_of dist order) (is-g : g ≡ group_below lowest (layer * 36) 36) where
  abbrev lows : ℕ → ℕ
  lows h = at lowest (layer * 36 + h)

  low-is : (h : ℕ) → h < 36 → Lowest (waiting dist order) (layer * 1296 + 36 * h) 36 (lows h)
  low-is h u =
      let e : layer * 1296 + 36 * h ≡ 36 * (layer * 36 + h) = omega arith in
      rw (e, table, groups-at 900 dist order (layer * 36 + h) (omega arith)) (lowest-is dist order (36 * (layer * 36 + h)) 36)

  chosen : Argmin (λ h. ltb 0 (lows h)) lows 36 36 g
  chosen = rw is-g (group-is lowest (layer * 36) 36 (omega arith))

  pub layer-far : (g < 36 → limit < lows g) → 32400 ≡ cheapest 32400 dist order limit (layer * 1296) 1296
  layer-far f = cheapest-none 32400 dist order limit (layer * 1296) 1296 (omega arith) (none_open dist order limit (layer * 1296) 36 lows low-is (far chosen))
    where
      far : Argmin (λ h. ltb 0 (lows h)) lows 36 36 g → (h : ℕ) → h < 36 → 1 ≤ lows h → limit < lows h
      far (none_pass e empty) h u s = absurd (true≢false (sym (lt-ltb 0 (lows h) s) ∙ empty h u))
      far (some-pass a) h u s = omega (arith, f a.below, a.smallest h u (lt-ltb 0 (lows h) s))

  module _ (inside : g < 36) (near : lows g ≤ limit) where
    nearest : Smallest (λ h. ltb 0 (lows h)) lows 36 g
    nearest = go chosen
      where
        go : Argmin (λ h. ltb 0 (lows h)) lows 36 36 g → Smallest (λ h. ltb 0 (lows h)) lows 36 g
        go (none_pass e empty) = absurd (omega arith)
        go (some-pass a) = a

    begins : (layer * 36 + g) * 36 ≡ layer * 1296 + 36 * g
    begins = omega arith

    abbrev fits : ℕ → Bool
    fits j = eqb (waiting dist order ((layer * 36 + g) * 36 + j)) (lows g)

    found : first 36 fits < 36
    found = go (under? (first 36 fits) 36) ((low-is g inside).held (ltb-true 0 (lows g) nearest.passes))
      where
        at_place : (v i : ℕ) → v ≡ (layer * 36 + g) * 36 + i → waiting dist order v ≡ lows g → fits i ≡ true
        at_place v i e q = eq-eqb (waiting dist order ((layer * 36 + g) * 36 + i)) (lows g) (sym (ap (waiting dist order) e) ∙ q)

        go : Under (first 36 fits) 36 → (v : ℕ) × (layer * 1296 + 36 * g ≤ v) × (v < layer * 1296 + 36 * g + 36) × (waiting dist order v ≡ lows g) → first 36 fits < 36
        go (under a b) h = a
        go (over a b) h =
            let i = h.0 - (layer * 1296 + 36 * g) in
            absurd (true≢false (sym (at_place h.0 i (omega (arith, h.1)) h.3) ∙ first-none 36 fits a i (omega (arith, h.1, h.2))))

    pub layer-near : (k : ℕ) → k ≡ first 36 fits → (layer * 36 + g) * 36 + k ≡ cheapest 32400 dist order limit (layer * 1296) 1296
    layer-near k e =
        ap (λ z. z + k) begins ∙ assoc
        ∙ cheapest-only 32400 dist order limit (layer * 1296) 1296 (omega arith) (36 * g + k)
        (first-open dist order limit (layer * 1296) 36 lows low-is g k nearest near (omega (arith, found))
        (ap (λ z. waiting dist order (z + k)) (sym begins) ∙ eqb-true _ _ (rw (← e) at (first_holds 36 fits found)))
        (λ j u q. true≢false (sym (eq-eqb (waiting dist order ((layer * 36 + g) * 36 + j)) (lows g) (ap (λ z. waiting dist order (z + j)) begins ∙ q)) ∙ first-before 36 fits j (omega (arith, e)))))
      where
        assoc : layer * 1296 + 36 * g + k ≡ layer * 1296 + (36 * g + k)
        assoc = omega arith

    -- as a position, if there is one; there is
    pub layer-place : (r : Option ℕ) → unwrap_or r ((layer * 36 + g) * 36 + 36) ≡ (layer * 36 + g) * 36 + first 36 fits
        → (unwrap_or r 32400 ≡ cheapest 32400 dist order limit (layer * 1296) 1296) × IfSome r (λ v. v < 32400)
    layer-place None e = absurd (omega (arith, e, found))
    layer-place (Some v) e = (e ∙ layer-near (first 36 fits) refl, omega (arith, e, found, inside, l))

-- ---- one layer after the other

module _ (end width : ℕ) (dist order : List ℕ) (limit n l : ℕ) where
  abbrev here : ℕ
  here = cheapest end dist order limit (l * width) width

  module _ (h : l < n) where
    one_more : upcoming end width dist order limit (n - l) l ≡ cond (ltb here end) here (upcoming end width dist order limit (n - (l + 1)) (l + 1))
    unfolding upcoming
    one_more =
        (let e : n - l ≡ suc (n - (l + 1)) = omega arith in ap (λ z. upcoming end width dist order limit z l) e)
        ∙ sym (ap (λ z. cond (ltb here end) here (upcoming end width dist order limit (n - (l + 1)) z)) (add-one l))

    pub layer-has : here < end → here ≡ upcoming end width dist order limit (n - l) l
    layer-has k = sym (one_more ∙ rw (lt-ltb here end k))

    pub layer-none : end ≤ here → upcoming end width dist order limit (n - (l + 1)) (l + 1) ≡ upcoming end width dist order limit (n - l) l
    layer-none k = sym (one_more ∙ rw (le-ltb here end k))

  pub no-layer : n ≤ l → end ≡ upcoming end width dist order limit (n - l) l
  unfolding upcoming
  no-layer h = sym (let e : n - l ≡ 0 = omega arith in ap (λ z. upcoming end width dist order limit z l) e)
