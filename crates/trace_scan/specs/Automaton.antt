-- A line read byte by byte. That this gives `parsed` of the line's bytes is proved in proofs/Reading.antt.
use Rattle.std.specs.Prelude.{ℕ, ◌+◌, ◌-◌, cond, Option, List, [], ◌∷◌, ltb}
use Rattle.trace_din.specs.Lines.{is_digit, is_blank, is_gap, hex_value, is_hex, address_digits, malformed, labelled, line_limit}
use Rattle.trace_din.specs.Digits.{shifted}
use Rattle.trace_scan.specs.declared.Scan.{Scan}
use Rattle.trace_scan.specs.declared.Scan.TheVariants.{Start, Label, Blanks, Digits, Rest, Bad}
use Rattle.trace_scan.specs.declared.Line.{Line}
use Rattle.trace_din.specs.declared.Parsed.{Parsed}

-- ---- one byte more, by what stands before it

unfoldable pub after_blanks : ℕ → ℕ → Scan
after_blanks d b = cond (is_blank b) (Blanks d) (cond (is_hex b) (Digits d 1 (hex_value b)) Bad)

unfoldable pub after_digits : ℕ → ℕ → ℕ → ℕ → Scan
after_digits d n v b = cond (is_hex b) (cond (ltb n address_digits) (Digits d (n + 1) (shifted v (hex_value b))) Bad) (cond (is_gap b) (Rest d v) Bad)

unfoldable pub scanned_byte : Scan → ℕ → Scan
scanned_byte Start b = cond (is_digit b) (Label (b - 48)) Bad
scanned_byte (Label d) b = cond (is_blank b) (Blanks d) Bad
scanned_byte (Blanks d) b = after_blanks d b
scanned_byte (Digits d n v) b = after_digits d n v b
scanned_byte (Rest d v) b = Rest d v
scanned_byte Bad b = Bad

-- ---- a line

-- a line of no bytes
abbrev pub new_line : Line
new_line = record { width = 0; scan = Start }

-- the line with one byte more; past the limit only that it is too long is kept
unfoldable pub with_byte : Line → ℕ → Line
with_byte x b = cond (ltb x.width line_limit) (record { width = x.width + 1; scan = scanned_byte x.scan b }) (record { width = line_limit; scan = Bad })

-- the line with more bytes
abbrev pub with_bytes : Line → List ℕ → Line
with_bytes x [] = x
with_bytes x (b ∷ bs) = with_bytes (with_byte x b) bs

-- what a line is, if it ends here
unfoldable pub scan_parsed : Scan → Option Parsed
scan_parsed Start = malformed
scan_parsed (Label d) = malformed
scan_parsed (Blanks d) = malformed
scan_parsed (Digits d n v) = labelled d v
scan_parsed (Rest d v) = labelled d v
scan_parsed Bad = malformed
