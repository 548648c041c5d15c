-- The bits of a number, of which bit i has weight 2 ^ i.
use Rattle.std.specs.Prelude.{ℕ, zero, suc, ◌+◌, ◌*◌, ◌/◌, ◌%◌, ◌^◌, Bool, cond, eqb}

-- bit i is set
unfoldable pub bit_at : ℕ → ℕ → Bool
bit_at m i = eqb (m / 2 ^ i % 2) 1

-- the number below 2 ^ n whose bit i is set exactly if i passes
abbrev pub mask_of : ℕ → (ℕ → Bool) → ℕ
mask_of zero P = 0
mask_of (suc n) P = cond (P 0) 1 0 + 2 * mask_of n (λ i. P (suc i))
