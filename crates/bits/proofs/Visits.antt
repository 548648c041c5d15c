-- A loop over the set bits of a byte, the lowest first: where the byte is the mask of a test, what does not change at numbers that fail does
-- not change from one set bit to the next.
use Prim.Native.Nat.{ℕ, zero, suc, ◌^◌, ◌≤◌, ◌<◌}
use mathlib.Core.Path.{◌≡◌, refl, sym, ◌∙◌}
use mathlib.Core.Logic.{◌≢◌}
use mathlib.Core.Bool.{Bool, true, false, true≢false}
use native.Mathlib.Omega.{arith}
use lib.Pow.{pow_mono}
use borrow.Author.Tests.{ne_eqb}
use Rattle.protocol_types.specs.Lists.{first, another}
use Rattle.protocol_types.specs.Bits.{bit_at, mask_of}
use Rattle.bits.specs.Bits.{without_lowest}
use Rattle.protocol_types.proofs.Laws.{Same, same, apart, same?, Under, under, over, under?}
use Rattle.bits.proofs.Bits.{bit-out, mask-bit}
use Rattle.bits.proofs.Bytes.{Lowest, lowest-known, without_at, without_less}

-- of m, which has bits below n only, the bits below upto are visited, and left has the others
pub record Visited (n m upto left : ℕ) : Type 0 where
  pub few : n ≤ 8
  pub bounded : m < 2 ^ n
  pub within : upto ≤ n
  pub byte : left < 256
  pub gone : (j : ℕ) → j < upto → bit_at left j ≡ false
  pub kept : (j : ℕ) → upto ≤ j → j < 8 → bit_at left j ≡ bit_at m j

-- F does not change where the test fails
abbrev pub Steady : (n : ℕ) (P : ℕ → Bool) {A : Type 0} → (ℕ → A) → Type 0
Steady n P F = (j : ℕ) → j < n → P j ≡ false → F (suc j) ≡ F j

-- a turn visits bit i: where m is the mask of a test, i is the next number from upto on that passes
pub record Turn (n m upto left i : ℕ) : Type 1 where
  pub below : i < n
  pub passes : (P : ℕ → Bool) → m ≡ mask_of n P → P i ≡ true
  pub reached : (P : ℕ → Bool) → m ≡ mask_of n P → {A : Type 0} (F : ℕ → A) → Steady n P F → F upto ≡ F i
  pub less : without_lowest left < left
  pub next : Visited n m (suc i) (without_lowest left)

module _ (n m : ℕ) (P : ℕ → Bool) (e : m ≡ mask_of n P) where
  -- the mask's bits are the test
  test : (j : ℕ) → j < n → bit_at m j ≡ P j
  test j h = rw e (mask-bit n P j h)

  steady : {A : Type 0} (F : ℕ → A) → Steady n P F → (a b : ℕ) → a ≤ b → b ≤ n → ((j : ℕ) → a ≤ j → j < b → bit_at m j ≡ false) → F a ≡ F b
  steady F s zero zero h l f = refl
  steady F s (suc a) zero h l f = absurd (omega arith)
  steady F s a (suc b) h l f = go (same? a (suc b)) (λ h'. steady F s a b h' (omega arith) (λ j u v. f j u (omega arith)))
    where
      go : Same a (suc b) → (a ≤ b → F a ≡ F b) → F a ≡ F (suc b)
      go (same e _) before = rw e
      go (apart d _) before = before (omega arith) ∙ sym (s b (omega arith) (sym (test b (omega arith)) ∙ f b (omega arith) (omega arith)))

pub visits-start : (n m : ℕ) → n ≤ 8 → m < 2 ^ n → Visited n m 0 m
visits-start n m h l =
    record {
      few = h;
      bounded = l;
      within = omega arith;
      byte = omega (arith, pow_mono h);
      gone = λ j u. absurd (omega arith);
      kept = λ j u v. refl;
    }

module _ {n m upto left : ℕ} (v : Visited n m upto left) where
  -- the lowest bit of what is left is the next one that is set
  module _ (some : left ≢ 0) {i : ℕ} (e : i ≡ first 8 (bit_at left)) where
    low : Lowest left i
    low = rw e (lowest-known left v.byte some)

    ahead : Under i upto → upto ≤ i
    ahead (under l _) = absurd (true≢false (sym low.set ∙ v.gone i l))
    ahead (over l _) = l

    is_set : bit_at m i ≡ true
    is_set = sym (v.kept i (ahead (under? i upto)) low.small) ∙ low.set

    inside : Under i n → i < n
    inside (under l _) = l
    inside (over l _) = absurd (true≢false (sym is_set ∙ bit-out n m i v.bounded l))

    passed : (j : ℕ) → Same j i → j < suc i → another i (bit_at left) j ≡ false
    passed j (same _ e) u = rw e
    passed j (apart d e) u = rw e (low.before j (omega arith))

    others : (j : ℕ) → j < 8 → bit_at (without_lowest left) j ≡ another i (bit_at left) j
    unfolding without_lowest
    others j h = rw (← e) (without_at left i j h)

    pub turn : Turn n m upto left i
    turn =
        let a = ahead (under? i upto) in
        let l = inside (under? i n) in
        let s = low.small in
        let d = without_less left v.byte some in
        record {
          below = l;
          passes = λ P e. sym (test n m P e i l) ∙ is_set;
          reached = λ P e F f. steady n m P e F f upto i a (omega arith) (λ j u h. sym (v.kept j u (omega arith)) ∙ low.before j h);
          less = d;
          next = record {
            few = v.few;
            bounded = v.bounded;
            within = l;
            byte = omega (arith, v.byte);
            gone = λ j u. others j (omega arith) ∙ passed j (same? j i) u;
            kept = λ j u h. others j h ∙ rw (ne_eqb j i (λ (e : j ≡ i). omega arith)) (v.kept j (omega arith) h);
          };
        }

  pub visits-end : left ≡ 0 → (P : ℕ → Bool) → m ≡ mask_of n P → {A : Type 0} (F : ℕ → A) → Steady n P F → F upto ≡ F n
  visits-end none P e F f =
      steady n m P e F f upto n v.within (omega arith)
      (λ j u h. sym (v.kept j u (omega (arith, v.few))) ∙ rw none (bit-out 0 0 j (omega arith) (omega arith)))
