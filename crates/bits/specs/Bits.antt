-- A byte with one bit changed.
use Rattle.std.specs.Prelude.{ℕ, ◌||◌, eqb}
use Rattle.protocol_types.specs.Lists.{first, another}
use Rattle.protocol_types.specs.Bits.{bit_at, mask_of}

-- with bit i set
unfoldable pub with_bit : ℕ → ℕ → ℕ
with_bit m i = mask_of 8 (λ j. eqb j i || bit_at m j)

-- with bit i clear
unfoldable pub without_bit : ℕ → ℕ → ℕ
without_bit m i = mask_of 8 (another i (bit_at m))

-- without its lowest set bit
unfoldable pub without_lowest : ℕ → ℕ
without_lowest m = without_bit m (first 8 (bit_at m))
