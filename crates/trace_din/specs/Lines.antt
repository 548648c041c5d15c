-- The lines of a din trace, as document 01, "The trace program", has them.
use Rattle.std.specs.Prelude.{ℕ, ◌+◌, ◌-◌, ◌*◌, Bool, true, false, not, ◌&&◌, cond, Option, Some, None, List, [], ◌∷◌, length, leb, ltb, eqb}
use Rattle.trace_din.specs.declared.Parsed.{Parsed}

-- ---- the lines of a trace

abbrev pub newline : ℕ
newline = 10

-- one byte more at the front of the first line
abbrev pub ahead : ℕ → List (List ℕ) → List (List ℕ)
ahead b [] = (b ∷ []) ∷ []
ahead b (l ∷ ls) = (b ∷ l) ∷ ls

-- the bytes between newlines: "a last line may lack its newline, and input that ends right after a newline has no further line"
abbrev pub lines_of : List ℕ → List (List ℕ)
lines_of [] = []
lines_of (b ∷ bs) = cond (eqb b newline) ([] ∷ lines_of bs) (ahead b (lines_of bs))

-- a byte that is no newline
unfoldable pub is_text : ℕ → Bool
is_text b = not (eqb b newline)

-- ---- the bytes of a line

-- a decimal digit
unfoldable pub is_digit : ℕ → Bool
is_digit b = cond (ltb b 48) false (leb b 57)

-- a blank or a tab
unfoldable pub is_blank : ℕ → Bool
is_blank b = cond (eqb b 32) true (eqb b 9)

-- "a blank, tab or carriage return"
unfoldable pub is_gap : ℕ → Bool
is_gap b = cond (is_blank b) true (eqb b 13)

-- the value of a hexadecimal digit of either case; 16 of any other byte
unfoldable pub hex_value : ℕ → ℕ
hex_value b =
    cond (ltb b 48) 16
    (cond (leb b 57) (b - 48) (cond (ltb b 65) 16 (cond (leb b 70) (b - 55) (cond (ltb b 97) 16 (cond (leb b 102) (b - 87) 16)))))

-- a hexadecimal digit
unfoldable pub is_hex : ℕ → Bool
is_hex b = ltb (hex_value b) 16

-- its value, if it is one
abbrev pub hex_digit : ℕ → Option ℕ
hex_digit b = cond (is_hex b) (Some (hex_value b)) None

-- ---- the parts of a line

-- the leading bytes that pass
abbrev pub leading : (ℕ → Bool) → List ℕ → List ℕ
leading P [] = []
leading P (b ∷ bs) = cond (P b) (b ∷ leading P bs) []

-- the bytes from the first on that does not pass
abbrev pub behind : (ℕ → Bool) → List ℕ → List ℕ
behind P [] = []
behind P (b ∷ bs) = cond (P b) (behind P bs) (b ∷ bs)

-- the number of hexadecimal digits, with n for those before
abbrev pub hex_number : ℕ → List ℕ → ℕ
hex_number n [] = n
hex_number n (b ∷ bs) = hex_number (n * 16 + hex_value b) bs

-- "the line's end, or a blank, tab or carriage return and ignored text"
abbrev pub ends : List ℕ → Bool
ends [] = true
ends (b ∷ bs) = is_gap b

-- ---- a line

-- what it says: nothing, or a label and an address
abbrev pub malformed : Option Parsed
malformed = None

abbrev pub labelled : ℕ → ℕ → Option Parsed
labelled d a = Some (record { label = d; address = a })

-- "1 to 8 hexadecimal digits of either case"
abbrev pub address_digits : ℕ
address_digits = 8

-- where the label is d
unfoldable pub addressed : ℕ → List ℕ → Option Parsed
addressed d l =
    cond (leb 1 (length (leading is_hex l)) && leb (length (leading is_hex l)) address_digits && ends (behind is_hex l))
    (labelled d (hex_number 0 (leading is_hex l))) malformed

-- "one or more blanks or tabs"
unfoldable pub separated : ℕ → List ℕ → Option Parsed
separated d l = cond (leb 1 (length (leading is_blank l))) (addressed d (behind is_blank l)) malformed

-- "one decimal digit"; empty lines are malformed
abbrev pub parsed_line : List ℕ → Option Parsed
parsed_line [] = malformed
parsed_line (b ∷ l) = cond (is_digit b) (separated (b - 48) l) malformed

-- "Lines over 80 bytes without their newline … are malformed"
abbrev pub line_limit : ℕ
line_limit = 80

unfoldable pub parsed : List ℕ → Option Parsed
parsed l = cond (leb (length l) line_limit) (parsed_line l) malformed
