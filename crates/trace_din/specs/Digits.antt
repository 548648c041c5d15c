-- The digits of an address, as the code takes them one by one. That of 1 to 8 digits this is `hex_number` is proved in proofs/Leading.antt.
use Rattle.std.specs.Prelude.{ℕ, ◌+◌, ◌*◌, ◌%◌, List, [], ◌∷◌}
use Rattle.trace_din.specs.Lines.{hex_value}

-- one hexadecimal digit more; of at most 8 digits none is lost
abbrev pub shifted : ℕ → ℕ → ℕ
shifted v h = v % 268435456 * 16 + h

-- the digits of a list, behind those that made v
abbrev pub shifted_all : ℕ → List ℕ → ℕ
shifted_all v [] = v
shifted_all v (b ∷ bs) = shifted_all (shifted v (hex_value b)) bs
