-- The bits of a number, lowest first, and the number whose bits are a test.
use Prim.Native.Nat.{ℕ, zero, suc, ◌+◌, ◌*◌, ◌/◌, ◌%◌, ◌^◌, ◌≤◌, ◌<◌}
use mathlib.Core.Path.{◌≡◌, refl, sym, ap, ◌∙◌}
use mathlib.Core.Bool.{Bool, true, false, cond}
use native.Mathlib.Nat.{pow-succ', div-one, div-div-eq-div-mul, div-eq_of_lt, lt_of_lt_of_le, zero-lt-suc}
use native.Mathlib.Omega.{arith}
use lib.Dec.{eqb}
use lib.Pow.{pow_mono}
use borrow.Author.Tests.{eq-eqb, ne_eqb}
use Rattle.protocol_types.specs.Bits.{bit_at, mask_of}
use Rattle.protocol_types.proofs.Laws.{Same, same, apart, same?}

-- ---- a bit

bit-zero : (m : ℕ) → bit_at m 0 ≡ eqb (m % 2) 1
unfolding bit_at
bit-zero m = rw (div-one m)

bit-suc : (m i : ℕ) → bit_at m (suc i) ≡ bit_at (m / 2) i
unfolding bit_at
bit-suc m i = rw (pow-succ' 2 i, ← (div-div-eq-div-mul m 2 (2 ^ i)))

-- no bit is set from n on
pub bit-out : (n m i : ℕ) → m < 2 ^ n → n ≤ i → bit_at m i ≡ false
unfolding bit_at
bit-out n m i l h = rw (div-eq_of_lt (lt_of_lt_of_le l (pow_mono h)))

lowest-digit : (m : ℕ) → m % 2 ≡ cond (bit_at m 0) 1 0
lowest-digit m = rw (bit-zero m) (go (same? (m % 2) 1))
  where
    go : Same (m % 2) 1 → m % 2 ≡ cond (eqb (m % 2) 1) 1 0
    go (same e p) = rw p e
    go (apart d p) = rw p (omega arith)

-- ---- the mask of a test

pub mask_below : (n : ℕ) (P : ℕ → Bool) → mask_of n P < 2 ^ n
mask_below zero P = zero-lt-suc 0
mask_below (suc n) P = rw (pow-succ' 2 n) (go (P 0) (mask_below n (λ i. P (suc i))))
  where
    go : (b : Bool) {k p : ℕ} → k < p → cond b 1 0 + 2 * k < 2 * p
    go true l = omega arith
    go false l = omega arith

-- its bits are the test
pub mask-bit : (n : ℕ) (P : ℕ → Bool) (i : ℕ) → i < n → bit_at (mask_of n P) i ≡ P i
mask-bit zero P i h = absurd (omega arith)
mask-bit (suc n) P zero h = bit-zero _ ∙ go (P 0) (mask_of n (λ i. P (suc i)))
  where
    go : (b : Bool) (k : ℕ) → eqb ((cond b 1 0 + 2 * k) % 2) 1 ≡ b
    go true k = eq-eqb ((1 + 2 * k) % 2) 1 (omega arith)
    go false k = ne_eqb ((0 + 2 * k) % 2) 1 (λ (e : (0 + 2 * k) % 2 ≡ 1). omega arith)
mask-bit (suc n) P (suc i) h = bit-suc _ i ∙ rw (half (P 0) (mask_of n (λ i. P (suc i)))) (mask-bit n (λ i. P (suc i)) i (omega arith))
  where
    half : (b : Bool) (k : ℕ) → (cond b 1 0 + 2 * k) / 2 ≡ k
    half true k = omega arith
    half false k = omega arith

-- a number below 2 ^ n with the bits of the test is its mask
pub is-mask : (n : ℕ) (P : ℕ → Bool) (m : ℕ) → m < 2 ^ n → ((i : ℕ) → i < n → bit_at m i ≡ P i) → m ≡ mask_of n P
is-mask zero P m l e = let l' : m < 1 = l in omega arith
is-mask (suc n) P m l e =
    let l' : m < 2 * 2 ^ n = rw (pow-succ' 2 n) at l in
    let lowest : m % 2 ≡ cond (P 0) 1 0 = lowest-digit m ∙ ap (λ b. cond b 1 0) (e 0 (omega arith)) in
    let others = is-mask n (λ i. P (suc i)) (m / 2) (omega arith) (λ i u. sym (bit-suc m i) ∙ e (suc i) (omega arith)) in
    omega arith

-- the test counts below n only
pub mask-same : (n : ℕ) (P Q : ℕ → Bool) → ((i : ℕ) → i < n → P i ≡ Q i) → mask_of n P ≡ mask_of n Q
mask-same n P Q e = is-mask n Q (mask_of n P) (mask_below n P) (λ i u. mask-bit n P i u ∙ e i u)

-- ---- one number more

pub mask-suc : (n : ℕ) (P : ℕ → Bool) → mask_of (suc n) P ≡ mask_of n P + cond (P n) (2 ^ n) 0
mask-suc zero P = go (P 0)
  where
    go : (b : Bool) → cond b 1 0 + 2 * 0 ≡ 0 + cond b (2 ^ 0) 0
    go true = refl
    go false = refl
mask-suc (suc n) P = go (P (suc n)) (cond (P 0) 1 0) (mask_of n (λ i. P (suc i))) (mask-suc n (λ i. P (suc i)))
  where
    go : (b : Bool) (d k : ℕ) {l : ℕ} → l ≡ k + cond b (2 ^ n) 0 → d + 2 * l ≡ d + 2 * k + cond b (2 ^ suc n) 0
    go true d k e = rw (pow-succ' 2 n) (omega arith)
    go false d k e = omega arith

-- with one bit more it is still a byte
pub mask-room : (n : ℕ) (P : ℕ → Bool) → n < 8 → mask_of n P + 2 ^ n < 256
mask-room n P h =
    let p : 2 ^ suc n ≤ 2 ^ 8 = pow_mono h in
    let q : 2 * 2 ^ n ≤ 2 ^ 8 = rw (pow-succ' 2 n) at p in
    omega (arith, mask_below n P)
