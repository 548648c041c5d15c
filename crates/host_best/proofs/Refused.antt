-- What 2 says of lists of numbers, and the order of the checks by example. Assumes nothing.
use Prim.Native.Nat.{ℕ, ◌%◌}
use mathlib.Core.Path.{◌≡◌, refl}
use mathlib.Core.Bool.{Bool, true, false, cond}
use mathlib.Core.List.{List, [], ◌∷◌}
use native.Mathlib.Omega.{arith}
use lib.ListN.{length}
use borrow.Author.Tests.{eqb-true}
use Rattle.protocol_types.specs.Board.{sizes_in_range, prices_in_range, setup_refusal}
use Rattle.protocol_types.specs.declared.Setup.{Setup}
use Rattle.protocol_types.proofs.Laws.{both_true}
use Rattle.best_positions.specs.Best.{SearchTables, search_tables, searchable, search_sized, search_refusal, best_refusal}
use Rattle.best_steps.proofs.Checks.{tables-sized}
use Rattle.host_decoding.specs.Records.{request_width, entry_width, whole, both_whole, entries_of}
use Rattle.host_decoding.proofs.Decoding.{entries_counted}
use Rattle.host_best.specs.Numbers.{entries_lent, numbers_sized, best_numbers_refusal}

-- 2 lets only whole requests and exactly 97,200 numbers of a schedule through
pub sized-numbers : (x : SearchTables) (ns ms : List ℕ) → numbers_sized x ns ms ≡ true → (whole request_width ns ≡ true) × (length ms ≡ 97200)
unfolding entries_lent whole
sized-numbers x ns ms e = go (both_whole ns ms) refl (tables-sized x (entries_lent ns ms) e).1
  where
    go : (c : Bool) → both_whole ns ms ≡ c → cond c (length (entries_of ms)) 0 ≡ 32400 → (whole request_width ns ≡ true) × (length ms ≡ 97200)
    go true w h =
        let b = both_true (whole request_width ns) (whole entry_width ms) w in
        (b.0, omega (arith, h, entries_counted ms, eqb-true (length ms % entry_width) 0 b.1))
    go false w h = absurd (omega (arith, h))

-- ---- the order, by example: 10 before 12, 12 before 2, and 2 before 3

abbrev priced : ℕ → ℕ → Setup
priced n f = record { processors = n; lines = 8; words = 4; blocks = 4; fetch_price = f; write_back_price = 4 }

abbrev nothing_lent : SearchTables
nothing_lent = search_tables [] [] [] []

pub ten-before-twelve : best_numbers_refusal (priced 3 33) nothing_lent (7 ∷ []) [] ≡ 10
unfolding best_numbers_refusal best_refusal search_refusal setup_refusal sizes_in_range prices_in_range
ten-before-twelve = refl

pub twelve-before-two : best_numbers_refusal (priced 3 4) nothing_lent (7 ∷ []) [] ≡ 12
unfolding best_numbers_refusal best_refusal search_refusal setup_refusal sizes_in_range prices_in_range searchable
twelve-before-two = refl

-- processor 7 is refused by 3, once the lists have their lengths
pub two-before-three : best_numbers_refusal (priced 2 4) nothing_lent (7 ∷ 0 ∷ 0 ∷ 0 ∷ []) [] ≡ 2
unfolding best_numbers_refusal best_refusal search_refusal setup_refusal sizes_in_range prices_in_range searchable search_sized
two-before-three = refl
