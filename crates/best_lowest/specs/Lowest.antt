-- The table by which the search finds its next position: for each group of 36 neighbouring positions the smallest distance of those that are reached and
-- not settled. It knows no limit.
use Rattle.std.specs.Prelude.{ℕ, zero, suc, ◌+◌, ◌*◌, cond, List, ltb, eqb}
use Rattle.protocol_types.specs.Lists.{at, listed, argmin_below}

-- the distance of position v while it is reached and not settled; else 0
unfoldable pub waiting : List ℕ → List ℕ → ℕ → ℕ
waiting dist order v = cond (eqb (at order v) 0) (at dist v) 0

-- the smaller of two distances, of which 0 is none
unfoldable pub nearer : ℕ → ℕ → ℕ
nearer a b = cond (eqb b 0) a (cond (eqb a 0) b (cond (ltb b a) b a))

-- the smallest distance of the n positions from v on, where only those that are reached and not settled count; 0 if there is none
unfoldable pub lowest_in : List ℕ → List ℕ → ℕ → ℕ → ℕ
lowest_in dist order v zero = 0
lowest_in dist order v (suc n) = nearer (lowest_in dist order v n) (waiting dist order (v + n))

-- that of each of n groups
unfoldable pub lowest_of_groups : ℕ → List ℕ → List ℕ → List ℕ
lowest_of_groups n dist order = listed n (λ j. lowest_in dist order (36 * j) 36)

-- 25 layers of 36 groups
abbrev pub lowest_of : List ℕ → List ℕ → List ℕ
lowest_of dist order = lowest_of_groups 900 dist order

-- of the first n of the 36 groups from group `start` on, the first that has the smallest distance; 36 if none has any
unfoldable pub group_below : List ℕ → ℕ → ℕ → ℕ
group_below lowest start n = argmin_below 36 (λ j. ltb 0 (at lowest (start + j))) (λ j. at lowest (start + j)) n
