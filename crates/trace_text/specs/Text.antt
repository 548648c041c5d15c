-- The bytes that the trace program prints of a report (document 01, "The trace program").
use Rattle.std.specs.Prelude.{ℕ, zero, suc, ◌+◌, ◌-◌, ◌*◌, ◌/◌, cond, List, [], ◌∷◌, ◌++◌, ltb, length}
use Rattle.trace_text.specs.Digits.{last_digits}
use Rattle.protocol.specs.Accounts.{cycles_of}
use Rattle.protocol_types.specs.declared.Account.{Account}
use Rattle.trace_din.specs.Lines.{newline}
use Rattle.trace_lines.specs.declared.ReportNumbers.{ReportNumbers}

-- ---- numbers

-- how many decimal digits n has, if at most k + 1
abbrev pub places : ℕ → ℕ → ℕ
places zero n = 1
places (suc k) n = cond (ltb n 10) 1 (suc (places k (n / 10)))

-- a number below 2^64 has at most 20 digits
abbrev pub number_width : ℕ
number_width = 20

-- it in ASCII
unfoldable pub decimal : ℕ → List ℕ
decimal n = last_digits 10 (places 19 n) n

-- the number that ASCII digits denote, after digits that denote n
abbrev pub denoted : ℕ → List ℕ → ℕ
denoted n [] = n
denoted n (d ∷ ds) = denoted (n * 10 + (d - 48)) ds

-- ---- the words with which the lines begin

-- requests
abbrev pub requests_word : List ℕ
requests_word = 114 ∷ 101 ∷ 113 ∷ 117 ∷ 101 ∷ 115 ∷ 116 ∷ 115 ∷ []

-- fetch
abbrev pub fetch_word : List ℕ
fetch_word = 102 ∷ 101 ∷ 116 ∷ 99 ∷ 104 ∷ []

-- write-back
abbrev pub write_back_word : List ℕ
write_back_word = 119 ∷ 114 ∷ 105 ∷ 116 ∷ 101 ∷ 45 ∷ 98 ∷ 97 ∷ 99 ∷ 107 ∷ []

-- update
abbrev pub update_word : List ℕ
update_word = 117 ∷ 112 ∷ 100 ∷ 97 ∷ 116 ∷ 101 ∷ []

-- total
abbrev pub total_word : List ℕ
total_word = 116 ∷ 111 ∷ 116 ∷ 97 ∷ 108 ∷ []

-- ended
abbrev pub ended_word : List ℕ
ended_word = 101 ∷ 110 ∷ 100 ∷ 101 ∷ 100 ∷ []

-- ---- lines

abbrev pub blank : ℕ
blank = 32

-- a word and a number
unfoldable pub field : List ℕ → ℕ → List ℕ
field word n = word ++ blank ∷ decimal n

-- a line of a word and a number
unfoldable pub line : List ℕ → ℕ → List ℕ
line word n = field word n ++ newline ∷ []

-- "The lines are requests taken, cycles of each kind, their sum"
unfoldable pub account_lines : Account → List ℕ
account_lines a =
    line requests_word a.requests
    ++ line fetch_word a.fetch
    ++ line write_back_word a.write_back
    ++ line update_word a.update
    ++ line total_word (cycles_of a)

-- "then refusal number and line number"
unfoldable pub text : ReportNumbers → List ℕ
text r = account_lines r.account ++ line (field ended_word r.refusal) r.line

-- ---- the most bytes that they are

abbrev pub field_width : List ℕ → ℕ
field_width word = length word + (1 + number_width)

abbrev pub line_width : List ℕ → ℕ
line_width word = field_width word + 1

abbrev pub account_width : ℕ
account_width = line_width requests_word + line_width fetch_word + line_width write_back_word + line_width update_word + line_width total_word

-- what a report's buffer holds
abbrev pub text_width : ℕ
text_width = account_width + (field_width ended_word + line_width [])
