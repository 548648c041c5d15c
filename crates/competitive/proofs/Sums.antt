-- Sums over the numbers below n, and their laws.
use Prim.Native.Nat.{ℕ, zero, suc, ◌+◌, ◌≤◌, ◌<◌}
use mathlib.Core.Path.{◌≡◌, refl, sym}
use mathlib.Core.Logic.{◌≢◌}
use native.Mathlib.Omega.{arith}
use Rattle.protocol_types.proofs.Laws.{Same, same, apart, same?}

-- the sum of φ over the numbers below n
abbrev pub sum : ℕ → (ℕ → ℕ) → ℕ
sum zero φ = zero
sum (suc n) φ = sum n φ + φ n

pub sum-le : (n : ℕ) (φ ψ : ℕ → ℕ) → ((k : ℕ) → k < n → φ k ≤ ψ k) → sum n φ ≤ sum n ψ
sum-le zero φ ψ h = omega arith
sum-le (suc n) φ ψ h = omega (arith, sum-le n φ ψ (λ k l. h k (omega arith)), h n (omega arith))

-- two sums that differ at one place
pub sum_one : (n : ℕ) (φ ψ : ℕ → ℕ) (a x y : ℕ) → a < n → φ a + x ≤ ψ a + y → ((k : ℕ) → k < n → k ≢ a → φ k ≤ ψ k)
    → sum n φ + x ≤ sum n ψ + y
sum_one zero φ ψ a x y l e h = absurd (omega arith)
sum_one (suc n) φ ψ a x y l e h = go (λ l'. sum_one n φ ψ a x y l' e (λ k m d. h k (omega arith) d)) (same? a n)
  where
    go : (a < n → sum n φ + x ≤ sum n ψ + y) → Same a n → sum n φ + φ n + x ≤ sum n ψ + ψ n + y
    go f (same p q) =
        let e' : φ n + x ≤ ψ n + y = rw p at e in
        omega (arith, sum-le n φ ψ (λ k m. h k (omega arith) (λ c. omega arith)))
    go f (apart p q) = omega (arith, f (omega arith), h n (omega arith) (λ c. p (sym c)))

pub sum-zero : (n : ℕ) (φ : ℕ → ℕ) → ((k : ℕ) → k < n → φ k ≡ 0) → sum n φ ≡ 0
sum-zero zero φ h = refl
sum-zero (suc n) φ h = omega (arith, sum-zero n φ (λ k l. h k (omega arith)), h n (omega arith))
