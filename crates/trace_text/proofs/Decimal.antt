-- `decimal n` is what `TextBuffer::put_number` appends of n: the ASCII digits that denote n, with no zero in front.
use Prim.Native.Nat.{ℕ, zero, suc, ◌+◌, ◌-◌, ◌*◌, ◌/◌, ◌%◌, ◌^◌, ◌≤◌, ◌<◌}
use mathlib.Core.Path.{◌≡◌, refl, sym, ap, ◌∙◌}
use mathlib.Core.List.{List, [], ◌∷◌, ◌++◌}
use mathlib.Core.Logic.{⊎_elim}
use native.Mathlib.Omega.{arith}
use native.Mathlib.Nat.{pow-succ', pow-le-pow_right, eq-or-lt_of_le, le_antisymm, lt_of_not-le}
use lib.Dec.{ltb, lit<}
use lib.ListN.{length, get_or, length-append, get_or-append}
use lib.Seq.{get_or_at}
use borrow.Author.Tests.{ltb-true, ltb-false, lt-ltb}
use Rattle.trace_text.specs.Digits.{last_digits, hex_digit_ascii, IsDigitCount}
use Rattle.protocol_types.proofs.Laws.{choice}
use Rattle.trace_text.specs.Text.{places, number_width, decimal, denoted}

-- ---- how many digits

power : (k : ℕ) → 10 ^ suc k ≡ 10 * 10 ^ k
power k = pow-succ' 10 k

-- p digits hold n / 10, so p + 1 hold n
one_more : (n p : ℕ) → 10 ≤ n → IsDigitCount 10 1 (n / 10) p → IsDigitCount 10 1 n (suc p)
one_more n p h f = (omega arith, omega (arith, f.1, power p), λ _. rw drop-one (⊎_elim (λ (e : 1 ≡ p). rw (← e) (omega arith)) above (eq-or-lt_of_le f.0)))
  where
    drop-one : suc p - 1 ≡ p
    drop-one = omega arith

    above : 1 < p → 10 ^ p ≤ n
    above l = let e : suc (p - 1) ≡ p = omega arith in rw (← e) (omega (arith, f.2 l, power (p - 1)))

places-fewest : (k n : ℕ) → n < 10 ^ suc k → IsDigitCount 10 1 n (places k n)
places-fewest zero n h = (omega arith, h, λ l. absurd (omega arith))
places-fewest (suc k) n h =
    choice (IsDigitCount 10 1 n) (ltb n 10) (λ e. (omega arith, ltb-true n 10 e, λ l. absurd (omega arith)))
    (λ e. one_more n (places k (n / 10)) (ltb-false n 10 e) (places-fewest k (n / 10) (omega (arith, power (suc k)))))

not-fewer : (n j k : ℕ) → IsDigitCount 10 1 n j → IsDigitCount 10 1 n k → j < k → ⊥
not-fewer n j k p q h =
    let b : 10 ^ j ≤ 10 ^ (k - 1) = pow-le-pow_right (lit< tt) (omega arith) in
    let m : 10 ^ (k - 1) ≤ n = q.2 (omega (arith, p.0)) in omega (arith, p.1)

no_more : (n j k : ℕ) → IsDigitCount 10 1 n j → IsDigitCount 10 1 n k → k ≤ j
no_more n j k p q = let h : k < suc j = lt_of_not-le (not-fewer n j k p q) in omega arith

only-fewest : (n j k : ℕ) → IsDigitCount 10 1 n j → IsDigitCount 10 1 n k → j ≡ k
only-fewest n j k p q = le_antisymm (no_more n k j q p) (no_more n j k p q)

below : (n : ℕ) → n < 2 ^ 64 → n < 10 ^ 20
below n h = omega arith

decimal-fewest : (n : ℕ) → n < 2 ^ 64 → IsDigitCount 10 1 n (places 19 n)
decimal-fewest n h = places-fewest 19 n (below n h)

-- what `digits::write_digits` writes where it is given `digit_count` places
pub fewest_decimal : (n k : ℕ) → n < 2 ^ 64 → IsDigitCount 10 1 n k → last_digits 10 k n ≡ decimal n
unfolding decimal
fewest_decimal n k h f = ap (λ (j : ℕ). last_digits 10 j n) (only-fewest n k (places 19 n) f (decimal-fewest n h))

places-most : (k n : ℕ) → places k n ≤ suc k
places-most zero n = omega arith
places-most (suc k) n = choice (λ (p : ℕ). p ≤ suc (suc k)) (ltb n 10) (λ _. omega arith) (λ _. omega (arith, places-most k (n / 10)))

length_digits : (k n : ℕ) → length (last_digits 10 k n) ≡ k
length_digits zero n = refl
length_digits (suc k) n = length-append (last_digits 10 k (n / 10)) _ ∙ omega (arith, length_digits k (n / 10))

pub decimal-length : (n : ℕ) → length (decimal n) ≤ number_width
unfolding decimal
decimal-length n = omega (arith, length_digits (places 19 n) n, places-most 19 n)

-- ---- what they denote

denoted-append : (n : ℕ) (xs ys : List ℕ) → denoted n (xs ++ ys) ≡ denoted (denoted n xs) ys
denoted-append n [] ys = refl
denoted-append n (x ∷ xs) ys = denoted-append (n * 10 + (x - 48)) xs ys

-- the last digit
glyph-of : (n : ℕ) → hex_digit_ascii (n % 10) ≡ 48 + n % 10
glyph-of n = rw (lt-ltb (n % 10) 10 (omega arith))

digits-denote : (k n : ℕ) → n < 10 ^ k → denoted 0 (last_digits 10 k n) ≡ n
digits-denote zero n h = omega arith
digits-denote (suc k) n h =
    denoted-append 0 (last_digits 10 k (n / 10)) (hex_digit_ascii (n % 10) ∷ [])
    ∙ ap (λ (m : ℕ). m * 10 + (hex_digit_ascii (n % 10) - 48)) (digits-denote k (n / 10) (omega (arith, power k)))
    ∙ omega (arith, glyph-of n)

pub decimal-denotes : (n : ℕ) → n < 2 ^ 64 → denoted 0 (decimal n) ≡ n
unfolding decimal
decimal-denotes n h = digits-denote (places 19 n) n (decimal-fewest n h).1

-- the first digit is above that of 0
digits-lead : (k n : ℕ) → 10 ^ k ≤ n → n < 10 ^ suc k → 48 < get_or (last_digits 10 (suc k) n) 0 0
digits-lead zero n h l = omega (arith, glyph-of n)
digits-lead (suc k) n h l =
    let in-front : 0 < length (last_digits 10 (suc k) (n / 10)) = omega (arith, length_digits (suc k) (n / 10)) in
    rw (get_or-append (last_digits 10 (suc k) (n / 10)) (hex_digit_ascii (n % 10) ∷ []) 0 0 in-front) (digits-lead k (n / 10) (omega (arith, power k)) (omega (arith, power (suc k))))

fewest-lead : (n p : ℕ) → 0 < n → IsDigitCount 10 1 n p → 48 < get_or (last_digits 10 p n) 0 0
fewest-lead n zero pos f = absurd (omega (arith, f.0))
fewest-lead n (suc zero) pos f = digits-lead zero n pos f.1
fewest-lead n (suc (suc p)) pos f =
    let e : suc (suc p) - 1 ≡ suc p = omega arith in digits-lead (suc p) n (rw e at (f.2 (omega arith))) f.1

pub decimal-leads : (n : ℕ) → 0 < n → n < 2 ^ 64 → 48 < get_or (decimal n) 0 0
unfolding decimal
decimal-leads n pos h = fewest-lead n (places 19 n) pos (decimal-fewest n h)

pub decimal-zero : decimal 0 ≡ 48 ∷ []
unfolding decimal
decimal-zero = refl

-- each is a digit
Digit : ℕ → Type 0
Digit d = (48 ≤ d) × (d < 58)

digits-each : (k n i : ℕ) → i < k → Digit (get_or (last_digits 10 k n) i 0)
unfolding Digit
digits-each zero n i h = absurd (omega arith)
digits-each (suc k) n i h =
    ⊎_elim (λ (e : i ≡ k). rw (get_or_at (last_digits 10 k (n / 10)) (hex_digit_ascii (n % 10)) [] 0 i (length_digits k (n / 10) ∙ sym e)) (omega (arith, glyph-of n)))
    (λ (l : i < k). rw (get_or-append (last_digits 10 k (n / 10)) (hex_digit_ascii (n % 10) ∷ []) 0 i (omega (arith, length_digits k (n / 10)))) (digits-each k (n / 10) i l))
    (eq-or-lt_of_le (omega arith))

pub decimal-each : (n i : ℕ) → i < length (decimal n) → (48 ≤ get_or (decimal n) i 0) × (get_or (decimal n) i 0 < 58)
unfolding decimal Digit
decimal-each n i h = digits-each (places 19 n) n i (omega (arith, length_digits (places 19 n) n))
