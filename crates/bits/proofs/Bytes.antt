-- What the operations on bytes give: laws of all bytes, by computing them at each; and the same of masks of a test.
use Prim.Native.Nat.{ℕ, ◌-◌, ◌^◌, ◌≤◌, ◌<◌}
use mathlib.Core.Path.{◌≡◌, refl, sym, ap, ◌∙◌}
use mathlib.Core.Logic.{◌≢◌}
use mathlib.Core.Bool.{Bool, true, false, not, ◌&&◌, ◌||◌, and-false}
use native.Mathlib.Omega.{arith}
use lib.Dec.{ltb, eqb}
use lib.Pow.{pow_mono}
use lib.Bits.{bit_or, bit_and}
use lib.Count.{count_trailing_zeros}
use borrow.Author.Tests.{ltb-true, eqb-true, ne_eqb}
use Rattle.protocol_types.specs.Lists.{first, another, all}
use Rattle.protocol_types.specs.Bits.{bit_at, mask_of}
use Rattle.bits.specs.Bits.{with_bit, without_bit, without_lowest}
use Rattle.protocol_types.proofs.Laws.{Under, under, over, under?, all_true, first_holds, first-before}
use Rattle.bits.proofs.Bits.{bit-out, mask_below, mask-bit, is-mask}

-- ---- the code's operations

-- at each bit of a byte
each : (f : ℕ → ℕ → Bool) → all 256 (λ m. all 8 (f m)) ≡ true → (m i : ℕ) → m < 256 → i < 8 → f m i ≡ true
each f e m i l h = all_true 8 (f m) (all_true 256 (λ m. all 8 (f m)) e m l) i h

module _ (m : ℕ) (byte : m < 256) where
  pub with_is : (i : ℕ) → i < 8 → bit_or m (2 ^ i) ≡ with_bit m i
  unfolding with_bit bit_at
  with_is i h = eqb-true _ _ (each (λ m i. eqb (bit_or m (2 ^ i)) (with_bit m i)) refl m i byte h)

  pub without_is : (i : ℕ) → i < 8 → bit_and m (2 ^ 8 - 1 - 2 ^ i) ≡ without_bit m i
  unfolding without_bit bit_at
  without_is i h = eqb-true _ _ (each (λ m i. eqb (bit_and m (2 ^ 8 - 1 - 2 ^ i)) (without_bit m i)) refl m i byte h)

  pub lowest_is : count_trailing_zeros 8 m ≡ first 8 (bit_at m)
  unfolding count_trailing_zeros first bit_at
  lowest_is = eqb-true _ _ (all_true 256 (λ m. eqb (count_trailing_zeros 8 m) (first 8 (bit_at m))) refl m byte)

  pub without_lowest_is : bit_and m (m - 1) ≡ without_lowest m
  unfolding without_lowest without_bit first bit_at
  without_lowest_is = eqb-true _ _ (all_true 256 (λ m. eqb (bit_and m (m - 1)) (without_lowest m)) refl m byte)

-- ---- the lowest set bit

-- i is the lowest set bit of m
pub record Lowest (m i : ℕ) : Type 0 where
  pub small : i < 8
  pub set : bit_at m i ≡ true
  pub before : (j : ℕ) → j < i → bit_at m j ≡ false

-- a byte that is not 0 has one, and gets smaller without it
module _ (m : ℕ) (byte : m < 256) (some : m ≢ 0) where
  has-lowest : (f : ℕ → Bool) → all 256 (λ m. eqb m 0 || f m) ≡ true → f m ≡ true
  has-lowest f e = rw (ne_eqb m 0 some) at (all_true 256 (λ m. eqb m 0 || f m) e m byte)

  lowest-small : first 8 (bit_at m) < 8
  unfolding first bit_at
  lowest-small = ltb-true _ _ (has-lowest (λ m. ltb (first 8 (bit_at m)) 8) refl)

  pub lowest-known : Lowest m (first 8 (bit_at m))
  lowest-known = record { small = lowest-small; set = first_holds 8 (bit_at m) lowest-small; before = first-before 8 (bit_at m) }

  pub without_less : without_lowest m < m
  unfolding without_lowest without_bit first bit_at
  without_less = ltb-true _ _ (has-lowest (λ m. ltb (without_lowest m) m) refl)

-- ---- a bit changed in the mask of a test

pub without_at : (m i j : ℕ) → j < 8 → bit_at (without_bit m i) j ≡ another i (bit_at m) j
unfolding without_bit
without_at m i j h = mask-bit 8 (another i (bit_at m)) j h

module _ (n : ℕ) (few : n ≤ 8) where
  -- each bit of a mask changed by g, which leaves those from n on clear
  changed-mask : (g : ℕ → Bool → Bool) (P : ℕ → Bool) → ((j : ℕ) → n ≤ j → g j false ≡ false)
      → mask_of 8 (λ j. g j (bit_at (mask_of n P) j)) ≡ mask_of n (λ j. g j (P j))
  changed-mask g P out =
      sym (is-mask 8 (λ j. g j (bit_at (mask_of n P) j)) _ (omega (arith, mask_below n (λ j. g j (P j)), pow_mono few)) (λ j u. go j (under? j n)))
    where
      go : (j : ℕ) → Under j n → bit_at (mask_of n (λ j. g j (P j))) j ≡ g j (bit_at (mask_of n P) j)
      go j (under l _) = mask-bit n (λ j. g j (P j)) j l ∙ ap (g j) (sym (mask-bit n P j l))
      go j (over l _) = bit-out n _ j (mask_below n (λ j. g j (P j))) l ∙ sym (ap (g j) (bit-out n _ j (mask_below n P) l) ∙ out j l)

  pub with-mask : (P : ℕ → Bool) (i : ℕ) → i < n → with_bit (mask_of n P) i ≡ mask_of n (λ j. eqb j i || P j)
  unfolding with_bit
  with-mask P i h = changed-mask (λ j b. eqb j i || b) P (λ j l. rw (ne_eqb j i (λ (e : j ≡ i). omega arith)))

  pub without-mask : (P : ℕ → Bool) (i : ℕ) → without_bit (mask_of n P) i ≡ mask_of n (another i P)
  unfolding without_bit
  without-mask P i = changed-mask (λ j b. not (eqb j i) && b) P (λ j l. and-false (not (eqb j i)))

  pub without-below : (m i : ℕ) → m < 2 ^ n → without_bit m i < 2 ^ n
  without-below m i l =
      let e = ap (λ m. without_bit m i) (is-mask n (bit_at m) m l (λ j u. refl)) ∙ without-mask (bit_at m) i in
      rw e (mask_below n (another i (bit_at m)))
