-- Numbers in cells: sums and quotients that have a value for all numbers, and what is read and written by them.
use Rattle.std.specs.Prelude.{ℕ, zero, suc, ◌+◌, ◌*◌, ◌/◌, ◌%◌, ◌^◌, cond, ◌&&◌, List, ◌==◌, nat_lt, slice_index, slice_set}

-- a sum of 32 bits
abbrev pub summed : ℕ → ℕ → ℕ
summed a b = (a + b) % 2 ^ 32

-- the product of two numbers below 65,536; 0 of others
unfoldable pub multiplied : ℕ → ℕ → ℕ
multiplied a b = cond (nat_lt a 65536 && nat_lt b 65536) (a * b) 0

-- a / b, and 0 where b is 0
unfoldable pub divided : ℕ → ℕ → ℕ
divided a b = cond (b == 0) 0 (a / b)

-- a mod b, and 0 where b is 0
unfoldable pub reduced : ℕ → ℕ → ℕ
reduced a b = cond (b == 0) 0 (a % b)

-- the number of cells
abbrev pub size : ℕ
size = 40612

-- cell k of the part that begins at f; 0 outside the cells
unfoldable pub cell : List ℕ → ℕ → ℕ → ℕ
cell cells f k = cond (nat_lt (summed f k) size) (slice_index cells (summed f k)) 0

-- the cells with x there; outside the cells nothing changes
unfoldable pub with : List ℕ → ℕ → ℕ → ℕ → List ℕ
with cells f k x = cond (nat_lt (summed f k) size) (slice_set cells (summed f k) x) cells

-- the cells with 0 in the n from f on
abbrev pub wiped : List ℕ → ℕ → ℕ → List ℕ
wiped cells f zero = cells
wiped cells f (suc n) = with (wiped cells f n) f n 0

-- the cells with the n from b on written, in turn, with those from a on
abbrev pub copied : List ℕ → ℕ → ℕ → ℕ → List ℕ
copied cells a b zero = cells
copied cells a b (suc n) = with (copied cells a b n) b n (cell (copied cells a b n) a n)

-- 1 if two numbers differ, 0 if not
unfoldable pub unlike : ℕ → ℕ → ℕ
unlike x y = cond (x == y) 0 1

-- how many of the n cells from a on differ from those from b on
abbrev pub differing : List ℕ → ℕ → ℕ → ℕ → ℕ
differing cells a b zero = 0
differing cells a b (suc n) = summed (differing cells a b n) (unlike (cell cells a n) (cell cells b n))
