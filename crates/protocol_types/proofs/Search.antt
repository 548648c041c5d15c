-- A search for the first number below n that passes P: at j, what is left from j on finds what the whole search finds.
-- Assumes nothing.
use Prim.Native.Nat.{ℕ, suc, ◌+◌, ◌-◌, ◌≤◌, ◌<◌}
use mathlib.Core.Path.{◌≡◌, sym, ◌∙◌}
use mathlib.Core.Bool.{Bool, true, false}
use native.Mathlib.Nat.{sub-zero}
use native.Mathlib.Numerals.{add-one}
use native.Mathlib.Omega.{arith}
use Rattle.protocol_types.specs.Lists.{first_from, first}

left-suc : (n j : ℕ) → j < n → n - j ≡ suc (n - (j + 1))
left-suc n j h = omega arith

left-none : (n j : ℕ) → n ≤ j → n - j ≡ 0
left-none n j h = omega arith

module _ (P : ℕ → Bool) where
  pub search-started : (n : ℕ) → first_from (n - 0) 0 P ≡ first n P
  unfolding first
  search-started n = rw sub-zero

  -- in the loop r is what the test of j gives, and x what the whole search finds
  module _ (n j x : ℕ) (whole : first_from (n - j) j P ≡ x) where
    pub search-found : (r : Bool) → j < n → r ≡ P j → r ≡ true → j ≡ x
    search-found r h e t = sym (rw (left-suc n j h, sym e ∙ t)) ∙ whole

    pub search-passed : (r : Bool) → j < n → r ≡ P j → r ≡ false → first_from (n - (j + 1)) (j + 1) P ≡ x
    search-passed r h e t = sym (rw (left-suc n j h, sym e ∙ t, add-one j)) ∙ whole

    pub search-ended : n ≤ j → j ≡ x
    search-ended h = sym (rw (left-none n j h)) ∙ whole
