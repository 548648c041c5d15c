-- The cases of the definitions that test a number, and the next turn of those that go over n cells.
-- Assumes nothing.
use Rattle.std.proofs.Common.{◌≡◌, ℕ, ◌+◌, ◌*◌, ◌/◌, ◌%◌, ◌<◌, ◌≤◌, List, get_or, set, refl, lt_of_le_of_lt, le_of_lt, mul-le-mul_left, mul-lt-mul_of_pos_right, add-one, arith, le-ltb, lt-ltb, eq-eqb, ne_eqb}
use Rattle.trials_cells.specs.Cells.{size, unlike, summed, multiplied, divided, reduced, cell, with, wiped, copied, differing}
use Rattle.trials_cells.specs.declared.state.Kind.{Kind}
use Rattle.trials_cells.specs.State.{following, count_place, totalled}

-- the product of two numbers of 16 bits fits in 32
pub fits : {a b : ℕ} → a < 65536 → b < 65536 → a * b < 4294967296
fits {a} {b} ha hb = lt_of_le_of_lt (mul-le-mul_left a (le_of_lt hb)) (mul-lt-mul_of_pos_right ha (omega arith))

pub multiplied-small : (a b : ℕ) → a < 65536 → b < 65536 → a * b ≡ multiplied a b
unfolding multiplied
multiplied-small a b ha hb = rw (lt-ltb a 65536 ha, lt-ltb b 65536 hb)

pub multiplied-right : (a b : ℕ) → a < 65536 → 65536 ≤ b → 0 ≡ multiplied a b
unfolding multiplied
multiplied-right a b ha hb = rw (lt-ltb a 65536 ha, le-ltb b 65536 hb)

pub multiplied-left : (a b : ℕ) → 65536 ≤ a → 0 ≡ multiplied a b
unfolding multiplied
multiplied-left a b ha = rw (le-ltb a 65536 ha)

pub cell-inside : (cells : List ℕ) (f k : ℕ) → summed f k < size → get_or cells (summed f k) 0 ≡ cell cells f k
unfolding cell
cell-inside cells f k h = rw (lt-ltb (summed f k) size h)

pub cell-outside : (cells : List ℕ) (f k : ℕ) → size ≤ summed f k → 0 ≡ cell cells f k
unfolding cell
cell-outside cells f k h = rw (le-ltb (summed f k) size h)

pub with-inside : (cells : List ℕ) (f k x : ℕ) → summed f k < size → set cells (summed f k) x ≡ with cells f k x
unfolding with
with-inside cells f k x h = rw (lt-ltb (summed f k) size h)

pub with-outside : (cells : List ℕ) (f k x : ℕ) → size ≤ summed f k → cells ≡ with cells f k x
unfolding with
with-outside cells f k x h = rw (le-ltb (summed f k) size h)

pub unlike-same : (x y : ℕ) → x ≡ y → 0 ≡ unlike x y
unfolding unlike
unlike-same x y h = rw (eq-eqb x y h)

pub unlike-other : (x y : ℕ) → (x ≡ y → ⊥) → 1 ≡ unlike x y
unfolding unlike
unlike-other x y h = rw (ne_eqb x y h)

pub following-is : (s : ℕ) → s * 48271 % 2147483647 ≡ following s
unfolding following
following-is s = refl

pub divided-none : (a b : ℕ) → b ≡ 0 → 0 ≡ divided a b
unfolding divided
divided-none a b h = rw (eq-eqb b 0 h)

pub divided-some : (a b : ℕ) → (b ≡ 0 → ⊥) → a / b ≡ divided a b
unfolding divided
divided-some a b h = rw (ne_eqb b 0 h)

pub reduced-none : (a b : ℕ) → b ≡ 0 → 0 ≡ reduced a b
unfolding reduced
reduced-none a b h = rw (eq-eqb b 0 h)

pub reduced-some : (a b : ℕ) → (b ≡ 0 → ⊥) → a % b ≡ reduced a b
unfolding reduced
reduced-some a b h = rw (ne_eqb b 0 h)

pub wiped-more : (cells : List ℕ) (f n : ℕ) → wiped cells f (n + 1) ≡ with (wiped cells f n) f n 0
wiped-more cells f n = rw (add-one n)

pub copied_more : (cells : List ℕ) (a b n : ℕ) → copied cells a b (n + 1) ≡ with (copied cells a b n) b n (cell (copied cells a b n) a n)
copied_more cells a b n = rw (add-one n)

pub differing-more : (cells : List ℕ) (a b n : ℕ) → differing cells a b (n + 1) ≡ summed (differing cells a b n) (unlike (cell cells a n) (cell cells b n))
differing-more cells a b n = rw (add-one n)

pub totalled_more : (cells : List ℕ) (kind : Kind) (n : ℕ) → totalled cells kind (n + 1) ≡ summed (totalled cells kind n) (cell cells 0 (count_place kind n))
totalled_more cells kind n = rw (add-one n)
