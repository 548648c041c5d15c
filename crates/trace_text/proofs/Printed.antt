-- The definition on document 01's example, and on numbers that all differ.
use mathlib.Core.Path.{◌≡◌, refl}
use mathlib.Core.List.{[], ◌∷◌, ◌++◌}
use Rattle.trace_text.specs.Text.{decimal, field, line, account_lines, text}

-- "requests 4", "fetch 8", "write-back 0", "update 2", "total 10", "ended 0 0"
pub printed : text (record { account = record { requests = 4; fetch = 8; write_back = 0; update = 2 }; refusal = 0; line = 0 }) ≡
    (114 ∷ 101 ∷ 113 ∷ 117 ∷ 101 ∷ 115 ∷ 116 ∷ 115 ∷ 32 ∷ 52 ∷ 10 ∷ [])
    ++ (102 ∷ 101 ∷ 116 ∷ 99 ∷ 104 ∷ 32 ∷ 56 ∷ 10 ∷ [])
    ++ (119 ∷ 114 ∷ 105 ∷ 116 ∷ 101 ∷ 45 ∷ 98 ∷ 97 ∷ 99 ∷ 107 ∷ 32 ∷ 48 ∷ 10 ∷ [])
    ++ (117 ∷ 112 ∷ 100 ∷ 97 ∷ 116 ∷ 101 ∷ 32 ∷ 50 ∷ 10 ∷ [])
    ++ (116 ∷ 111 ∷ 116 ∷ 97 ∷ 108 ∷ 32 ∷ 49 ∷ 48 ∷ 10 ∷ [])
    ++ (101 ∷ 110 ∷ 100 ∷ 101 ∷ 100 ∷ 32 ∷ 48 ∷ 32 ∷ 48 ∷ 10 ∷ [])
unfolding text account_lines line field decimal
printed = refl

-- the same with six numbers that all differ: "requests 9", "fetch 16", "write-back 4", "update 3", "total 23", "ended 7 10"
pub printed-refused : text (record { account = record { requests = 9; fetch = 16; write_back = 4; update = 3 }; refusal = 7; line = 10 }) ≡
    (114 ∷ 101 ∷ 113 ∷ 117 ∷ 101 ∷ 115 ∷ 116 ∷ 115 ∷ 32 ∷ 57 ∷ 10 ∷ [])
    ++ (102 ∷ 101 ∷ 116 ∷ 99 ∷ 104 ∷ 32 ∷ 49 ∷ 54 ∷ 10 ∷ [])
    ++ (119 ∷ 114 ∷ 105 ∷ 116 ∷ 101 ∷ 45 ∷ 98 ∷ 97 ∷ 99 ∷ 107 ∷ 32 ∷ 52 ∷ 10 ∷ [])
    ++ (117 ∷ 112 ∷ 100 ∷ 97 ∷ 116 ∷ 101 ∷ 32 ∷ 51 ∷ 10 ∷ [])
    ++ (116 ∷ 111 ∷ 116 ∷ 97 ∷ 108 ∷ 32 ∷ 50 ∷ 51 ∷ 10 ∷ [])
    ++ (101 ∷ 110 ∷ 100 ∷ 101 ∷ 100 ∷ 32 ∷ 55 ∷ 32 ∷ 49 ∷ 48 ∷ 10 ∷ [])
unfolding text account_lines line field decimal
printed-refused = refl
