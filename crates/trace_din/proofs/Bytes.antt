-- Which bytes are what, for all 256 of them.
use Prim.Native.Nat.{ℕ, zero, suc}
use mathlib.Core.Path.{◌≡◌, refl}
use mathlib.Core.Bool.{Bool, cond}
use mathlib.Core.List.{List, [], ◌∷◌, ◌++◌}
use lib.ListN.{replicate}
use Rattle.trace_din.specs.Lines.{is_text, is_digit, is_blank, is_gap, hex_value}

-- f of each of the k numbers from n on
abbrev pub table : (ℕ → ℕ) → ℕ → ℕ → List ℕ
table f n zero = []
table f n (suc k) = f n ∷ table f (suc n) k

abbrev pub test : (ℕ → Bool) → List ℕ
test P = table (λ b. cond (P b) 1 0) 0 256

pub hex-bytes : table hex_value 0 256 ≡
    replicate 48 16 ++ (0 ∷ 1 ∷ 2 ∷ 3 ∷ 4 ∷ 5 ∷ 6 ∷ 7 ∷ 8 ∷ 9 ∷ []) ++ replicate 7 16 ++ (10 ∷ 11 ∷ 12 ∷ 13 ∷ 14 ∷ 15 ∷ [])
    ++ replicate 26 16 ++ (10 ∷ 11 ∷ 12 ∷ 13 ∷ 14 ∷ 15 ∷ []) ++ replicate 153 16
unfolding hex_value
hex-bytes = refl

pub digit-bytes : test is_digit ≡ replicate 48 0 ++ replicate 10 1 ++ replicate 198 0
unfolding is_digit
digit-bytes = refl

pub blank-bytes : test is_blank ≡ replicate 9 0 ++ (1 ∷ []) ++ replicate 22 0 ++ (1 ∷ []) ++ replicate 223 0
unfolding is_blank
blank-bytes = refl

pub gap-bytes : test is_gap ≡ replicate 9 0 ++ (1 ∷ []) ++ replicate 3 0 ++ (1 ∷ []) ++ replicate 18 0 ++ (1 ∷ []) ++ replicate 223 0
unfolding is_gap is_blank
gap-bytes = refl

pub text-bytes : test is_text ≡ replicate 10 1 ++ (0 ∷ []) ++ replicate 245 1
unfolding is_text
text-bytes = refl
