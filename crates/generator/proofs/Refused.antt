-- The order of the checks by example.
use Prim.Native.Nat.{ℕ}
use mathlib.Core.Path.{◌≡◌, refl}
use mathlib.Core.List.{[], ◌∷◌}
use Rattle.protocol_types.specs.Board.{sizes_in_range, prices_in_range, setup_refusal}
use Rattle.protocol.specs.Generator.{generate_refusal}
use Rattle.protocol_types.specs.declared.Setup.{Setup}
use Rattle.host_decoding.specs.Records.{whole, partial_refusal}
use Rattle.generator.specs.Numbers.{generate_numbers_refusal}

-- ---- the order, by example: 2 before 11, 10 before 2, and 11 once the list is whole

abbrev priced : ℕ → Setup
priced f = record { processors = 4; lines = 8; words = 4; blocks = 64; fetch_price = f; write_back_price = 4 }

pub two-before-eleven : generate_numbers_refusal (priced 4) 0 (7 ∷ []) ≡ 2
unfolding generate_numbers_refusal whole partial_refusal setup_refusal sizes_in_range prices_in_range
two-before-eleven = refl

pub ten-before-two : generate_numbers_refusal (priced 33) 0 (7 ∷ []) ≡ 10
unfolding generate_numbers_refusal whole partial_refusal setup_refusal sizes_in_range prices_in_range
ten-before-two = refl

pub eleven : generate_numbers_refusal (priced 4) 0 (7 ∷ 7 ∷ 7 ∷ 7 ∷ []) ≡ 11
unfolding generate_numbers_refusal generate_refusal whole setup_refusal sizes_in_range prices_in_range
eleven = refl
