-- Laws of the digits of a position.
use Prim.Native.Nat.{ℕ, zero, suc, ◌+◌, ◌-◌, ◌*◌, ◌/◌, ◌%◌, ◌≤◌, ◌<◌}
use mathlib.Core.Path.{◌≡◌}
use native.Mathlib.Omega.{arith}
use borrow.Author.Tests.{ne_eqb}
use Rattle.best_positions.specs.Position.{weight, digit, with_digit}

weight-last : (b : ℕ) → weight (suc (suc (suc b))) ≡ 216
unfolding weight
weight-last b = rw (ne_eqb (suc (suc (suc b))) 0 (omega arith), ne_eqb (suc (suc (suc b))) 1 (omega arith), ne_eqb (suc (suc (suc b))) 2 (omega arith))

-- a digit's part of the number, and a position stays one
record Digit (u b : ℕ) : Type 0 where
  part : digit u b * weight b ≤ u
  stays : (d : ℕ) → u < 32400 → d < 6 → with_digit u b d < 32400

digit-of : (u b : ℕ) → Digit u b
unfolding digit weight with_digit
digit-of u zero = record { part = omega arith; stays = λ d h l. omega arith }
digit-of u (suc zero) = record { part = omega arith; stays = λ d h l. omega arith }
digit-of u (suc (suc zero)) = record { part = omega arith; stays = λ d h l. omega arith }
digit-of u (suc (suc (suc b))) = record { part = go-part (weight (suc (suc (suc b)))) (weight-last b); stays = λ d. go-stays d (weight (suc (suc (suc b)))) (weight-last b) }
  where
    go-part : (w : ℕ) → w ≡ 216 → u / w % 6 * w ≤ u
    go-part w e = rw e (omega arith)

    go-stays : (d w : ℕ) → w ≡ 216 → u < 32400 → d < 6 → u - u / w % 6 * w + d * w < 32400
    go-stays d w e h l = rw e (omega arith)

pub digit-part : (u b : ℕ) → digit u b * weight b ≤ u
digit-part u b = (digit-of u b).part

pub with-lt : (u b d : ℕ) → u < 32400 → d < 6 → with_digit u b d < 32400
with-lt u b = (digit-of u b).stays
