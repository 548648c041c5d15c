-- What the engine does for two processors and at most four blocks, as entries by number (best_positions/specs/Position): part by part.
use Rattle.std.specs.Prelude.{ℕ, zero, suc, ◌+◌, ◌*◌, cond, List, [], ◌∷◌, ◌++◌, ltb, eqb}
use Rattle.protocol_types.specs.Board.{line_of}
use Rattle.protocol_types.specs.declared.Setup.{Setup}
use Rattle.best_positions.specs.Position.{block_no, has, digit, in_line}

-- ---- entries by number

-- processor i fetches block b, or writes it back
abbrev pub move_code : ℕ → ℕ → ℕ
move_code i b = 8 * i + 2 * b

abbrev pub drop_code : ℕ → ℕ → ℕ
drop_code i b = 8 * i + 2 * b + 1

abbrev pub complete_code : ℕ
complete_code = 16

-- ---- what the engine does for a request that finds it at position u. What a line of processor i holds is told by u alone: nothing before it changes that line

-- rule 1: block b is written back if it is marked, then dropped
unfoldable pub leaving_codes : ℕ → ℕ → ℕ → List ℕ
leaving_codes u i b = cond (eqb (digit u b) (4 + i)) (move_code i b ∷ drop_code i b ∷ []) (drop_code i b ∷ [])

-- the block in line l of processor i; an empty line needs no entry
unfoldable pub evicting_codes : Setup → ℕ → ℕ → ℕ → List ℕ
evicting_codes s u i l = cond (ltb (in_line s u i l) s.blocks) (leaving_codes u i (in_line s u i l)) []

-- rules 1 and 2: on a miss processor i empties the line and fetches block b
unfoldable pub obtaining_codes : Setup → ℕ → ℕ → ℕ → List ℕ
obtaining_codes s u i b = cond (has i (digit u b)) [] (evicting_codes s u i (line_of s (block_no b)) ++ move_code i b ∷ [])

-- a clear: the first n lines, from line 0 up
abbrev pub clearing_codes : Setup → ℕ → ℕ → ℕ → List ℕ
clearing_codes s u i zero = []
clearing_codes s u i (suc n) = clearing_codes s u i n ++ evicting_codes s u i n
