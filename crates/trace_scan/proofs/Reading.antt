-- A line read byte by byte is what `parsed` says of its bytes.
use Prim.Native.Nat.{ℕ, suc, ◌+◌, ◌-◌, ◌*◌, ◌^◌, ◌≤◌, ◌<◌}
use mathlib.Core.Path.{◌≡◌, refl, sym, ap, ◌∙◌}
use mathlib.Core.Bool.{Bool, true, false, ◌&&◌, cond}
use mathlib.Core.List.{List, [], ◌∷◌, ◌++◌}
use native.Mathlib.Omega.{arith}
use lib.ListN.{length}
use lib.Dec.{leb, ltb}
use borrow.Author.Tests.{lt-ltb, le-ltb, le-leb, lt-leb, ltb-true, ltb-false}
use Rattle.trace_din.specs.Lines.{is_digit, is_blank, is_gap, hex_value, is_hex, leading, behind, hex_number, ends, address_digits, malformed, labelled, addressed, separated, parsed_line, line_limit, parsed}
use Rattle.trace_din.proofs.Leading.{shifted_fits, hex-lt}
use Rattle.trace_scan.specs.Automaton.{after_blanks, after_digits, scanned_byte, new_line, with_byte, with_bytes, scan_parsed}
use Rattle.trace_scan.specs.declared.Scan.{Scan}
use Rattle.trace_scan.specs.declared.Scan.TheVariants.{Start, Label, Blanks, Digits, Rest, Bad}
use Rattle.trace_scan.specs.declared.Line.{Line}
use Rattle.trace_din.specs.declared.Parsed.{Parsed}
use Rattle.std.specs.Prelude.{Option, fold}

-- the bytes of a line, its width apart
abbrev scanned : Scan → List ℕ → Scan
scanned x [] = x
scanned x (b ∷ l) = scanned (scanned_byte x b) l

rest-stays : (d v : ℕ) (l : List ℕ) → scanned (Rest d v) l ≡ Rest d v
unfolding scanned_byte
rest-stays d v [] = refl
rest-stays d v (b ∷ l) = rest-stays d v l

bad-stays : (l : List ℕ) → scanned Bad l ≡ Bad
unfolding scanned_byte
bad-stays [] = refl
bad-stays (b ∷ l) = bad-stays l

-- ---- the digits

-- what is parsed from here on, where n digits made v
abbrev digits_parsed : ℕ → ℕ → ℕ → List ℕ → Option Parsed
digits_parsed d n v l = cond (leb (n + length (leading is_hex l)) address_digits && ends (behind is_hex l)) (labelled d (hex_number v (leading is_hex l))) malformed

abbrev Digits-law : List ℕ → Type 0
Digits-law l =
    (d n v : ℕ) → n ≤ address_digits → v < 16 ^ n
    → scan_parsed (scanned (Digits d n v) l)
    ≡ digits_parsed d n v l

digits-none : Digits-law []
unfolding scan_parsed
digits-none d n v hn hv = simp (le-leb (n + 0) address_digits (omega arith))

digit-taken : (b : ℕ) (l : List ℕ) → Digits-law l → is_hex b ≡ true → (d n v : ℕ) → n < address_digits → v < 16 ^ n
    → scan_parsed (scanned (Digits d n v) (b ∷ l))
    ≡ digits_parsed d n v (b ∷ l)
unfolding scanned_byte after_digits
digit-taken b l law h d n v hn hv =
    let fit = shifted_fits n v (hex_value b) hn hv (hex-lt b h) in
    let m : n + 1 + length (leading is_hex l) ≡ n + suc (length (leading is_hex l)) = omega arith in
    simp (h, lt-ltb n address_digits hn, fit.0, sym m) (law d (n + 1) (v * 16 + hex_value b) (omega arith) fit.1)

digit-over : (b : ℕ) (l : List ℕ) → is_hex b ≡ true → (d n v : ℕ) → address_digits ≤ n
    → scan_parsed (scanned (Digits d n v) (b ∷ l))
    ≡ digits_parsed d n v (b ∷ l)
unfolding scanned_byte after_digits scan_parsed
digit-over b l h d n v hn =
    let m : leb (n + suc (length (leading is_hex l))) address_digits ≡ false = lt-leb (n + suc (length (leading is_hex l))) address_digits (omega arith) in
    simp (h, le-ltb n address_digits hn, m) (ap scan_parsed (bad-stays l))

digits-end : (b : ℕ) (l : List ℕ) → is_hex b ≡ false → (e : Bool) → is_gap b ≡ e → (d n v : ℕ) → n ≤ address_digits
    → scan_parsed (scanned (Digits d n v) (b ∷ l))
    ≡ digits_parsed d n v (b ∷ l)
unfolding scanned_byte after_digits scan_parsed
digits-end b l h true g d n v hn = simp (h, g, le-leb (n + 0) address_digits (omega arith)) (ap scan_parsed (rest-stays d v l))
digits-end b l h false g d n v hn = simp (h, g, le-leb (n + 0) address_digits (omega arith)) (ap scan_parsed (bad-stays l))

digits_more : (b : ℕ) (l : List ℕ) → Digits-law l → (e : Bool) → is_hex b ≡ e → Digits-law (b ∷ l)
digits_more b l law false h d n v hn hv = digits-end b l h (is_gap b) refl d n v hn
digits_more b l law true h d n v hn hv = go (ltb n address_digits) refl
  where
    go : (f : Bool) → ltb n address_digits ≡ f
        → scan_parsed (scanned (Digits d n v) (b ∷ l))
        ≡ digits_parsed d n v (b ∷ l)
    go true f = digit-taken b l law h d n v (ltb-true _ _ f) hv
    go false f = digit-over b l h d n v (ltb-false _ _ f)

digits : (l : List ℕ) → Digits-law l
digits [] = digits-none
digits (b ∷ l) = digits_more b l (digits l) (is_hex b) refl

-- ---- the blanks, the label and the whole line

some : (n : ℕ) → leb 1 (suc n) ≡ true
some n = le-leb 1 (suc n) (omega arith)

-- the first digit, or none
address-start : (d b : ℕ) (l : List ℕ) → is_blank b ≡ false → (e : Bool) → is_hex b ≡ e → scan_parsed (scanned (Blanks d) (b ∷ l)) ≡ addressed d (b ∷ l)
unfolding scanned_byte after_blanks scan_parsed addressed
address-start d b l k true h =
    let m : 1 + length (leading is_hex l) ≡ suc (length (leading is_hex l)) = omega arith in
    let z : hex_value b ≡ 0 + hex_value b = omega arith in
    let law = simp m at (digits l d 1 (hex_value b) (omega arith) (hex-lt b h)) in
    simp (k, h, some (length (leading is_hex l)))
    (law ∙ ap (λ (v : ℕ). cond (leb (suc (length (leading is_hex l))) address_digits && ends (behind is_hex l)) (labelled d (hex_number v (leading is_hex l))) malformed) z)
address-start d b l k false h = simp (k, h) (ap scan_parsed (bad-stays l))

blanks-more : (d b : ℕ) (l : List ℕ) → scan_parsed (scanned (Blanks d) l) ≡ addressed d (behind is_blank l) → (e : Bool) → is_blank b ≡ e
    → scan_parsed (scanned (Blanks d) (b ∷ l)) ≡ addressed d (behind is_blank (b ∷ l))
unfolding scanned_byte after_blanks
blanks-more d b l ih true k = simp k ih
blanks-more d b l ih false k = address-start d b l k (is_hex b) refl ∙ ap (addressed d) (sym here)
  where
    here : behind is_blank (b ∷ l) ≡ b ∷ l
    here = simp k

blanks : (d : ℕ) (l : List ℕ) → scan_parsed (scanned (Blanks d) l) ≡ addressed d (behind is_blank l)
unfolding scan_parsed addressed
blanks d [] = refl
blanks d (b ∷ l) = blanks-more d b l (blanks d l) (is_blank b) refl

blank-first : (d b : ℕ) (l : List ℕ) (e : Bool) → is_blank b ≡ e → scan_parsed (scanned (Label d) (b ∷ l)) ≡ separated d (b ∷ l)
unfolding scanned_byte scan_parsed separated
blank-first d b l true k = simp (k, some (length (leading is_blank l))) (blanks d l)
blank-first d b l false k = simp k (ap scan_parsed (bad-stays l))

label : (d : ℕ) (l : List ℕ) → scan_parsed (scanned (Label d) l) ≡ separated d l
unfolding scan_parsed separated
label d [] = refl
label d (b ∷ l) = blank-first d b l (is_blank b) refl

digit-first : (b : ℕ) (l : List ℕ) (e : Bool) → is_digit b ≡ e → scan_parsed (scanned Start (b ∷ l)) ≡ parsed_line (b ∷ l)
unfolding scanned_byte scan_parsed
digit-first b l true k = simp k (label (b - 48) l)
digit-first b l false k = simp k (ap scan_parsed (bad-stays l))

line : (l : List ℕ) → scan_parsed (scanned Start l) ≡ parsed_line l
unfolding scan_parsed
line [] = refl
line (b ∷ l) = digit-first b l (is_digit b) refl

-- ---- the width

-- past the limit a line is malformed
abbrev Width-law : List ℕ → Type 0
Width-law l = (w : ℕ) (x : Scan) → w ≤ line_limit → (with_bytes (record { width = w; scan = x }) l).scan ≡ cond (leb (w + length l) line_limit) (scanned x l) Bad

width-more : (b : ℕ) (l : List ℕ) → Width-law l → (w : ℕ) (x : Scan) → w ≤ line_limit → (e : Bool) → ltb w line_limit ≡ e
    → (with_bytes (record { width = w; scan = x }) (b ∷ l)).scan ≡ cond (leb (w + suc (length l)) line_limit) (scanned (scanned_byte x b) l) Bad
unfolding with_byte
width-more b l law w x hw true e =
    let m : w + 1 + length l ≡ w + suc (length l) = omega arith in
    simp (e, sym m) (law (w + 1) (scanned_byte x b) (omega (arith, ltb-true w line_limit e)))
width-more b l law w x hw false e =
    let m : leb (w + suc (length l)) line_limit ≡ false = lt-leb (w + suc (length l)) line_limit (omega (arith, ltb-false w line_limit e)) in
    simp (e, m) (law line_limit Bad (omega arith) ∙ same (leb (line_limit + length l) line_limit))
  where
    same : (c : Bool) → cond c (scanned Bad l) Bad ≡ Bad
    same true = bad-stays l
    same false = refl

widths : (l : List ℕ) → Width-law l
widths [] = λ w x hw. simp (le-leb (w + 0) line_limit (omega arith))
widths (b ∷ l) = λ w x hw. width-more b l (widths l) w x hw (ltb w line_limit) refl

-- ---- what `Line` gives

within-width : (l : List ℕ) (e : Bool) → leb (length l) line_limit ≡ e → scan_parsed (cond (leb (length l) line_limit) (scanned Start l) Bad) ≡ parsed l
unfolding parsed scan_parsed
within-width l true e = simp e (line l)
within-width l false e = simp e

-- a line's bytes, one after the other, and then `parsed()`: `parsed` of the bytes
pub read-parsed : (l : List ℕ) → scan_parsed (with_bytes new_line l).scan ≡ parsed l
read-parsed l =
    let z : 0 + length l ≡ length l = omega arith in
    ap scan_parsed (simp z at (widths l 0 Start (omega arith))) ∙ within-width l (leb (length l) line_limit) refl

-- one byte more at the end of a line
pub read_more : (x : Line) (l : List ℕ) (b : ℕ) → with_bytes x (l ++ b ∷ []) ≡ with_byte (with_bytes x l) b
read_more x [] b = refl
read_more x (a ∷ l) b = read_more (with_byte x a) l b

-- a line that has a byte has a width
width_positive : (x : Line) (b : ℕ) (e : Bool) → ltb x.width line_limit ≡ e → 0 < (with_byte x b).width
unfolding with_byte
width_positive x b true e = simp e (omega arith)
width_positive x b false e = simp e (omega arith)

pub width_some : (x : Line) (b : ℕ) (l : List ℕ) → 0 < (with_bytes x (b ∷ l)).width
width_some x b [] = width_positive x b (ltb x.width line_limit) refl
width_some x b (a ∷ l) = width_some (with_byte x b) a l

-- ---- a line that takes bytes

-- as the library takes them
pub bytes_fold : (x : Line) (l : List ℕ) → fold with_byte x l ≡ with_bytes x l
bytes_fold x [] = refl
bytes_fold x (b ∷ l) = bytes_fold (with_byte x b) l
