-- The first line of some bytes, parsed in place: what each test of `first_line` and `rest_of_line` tells.
use Prim.Native.Nat.{ℕ, zero, suc, ◌+◌, ◌-◌, ◌≤◌, ◌<◌}
use mathlib.Core.Path.{◌≡◌, refl, sym, ap, ◌∙◌}
use mathlib.Core.Bool.{Bool, true, false, cond}
use mathlib.Core.List.{List, [], ◌∷◌}
use native.Mathlib.Omega.{arith}
use lib.ListN.{length, drop, get_or, length-drop}
use lib.Seq.{drop-cons}
use lib.Dec.{leb}
use borrow.Author.Tests.{le-leb, lt-leb, eqb-true, not-false}
use Rattle.std.specs.Prelude.{Option}
use Rattle.trace_din.specs.Lines.{newline, is_text, is_digit, is_blank, is_gap, hex_value, is_hex, leading, behind, ends, address_digits, malformed, labelled, addressed, separated, parsed_line, line_limit, parsed}
use Rattle.trace_din.specs.Digits.{shifted_all}
use Rattle.trace_din.specs.Places.{EndsAt}
use Rattle.trace_din.specs.declared.Parsed.{Parsed}
use Rattle.trace_din.proofs.Leading.{leads, rest_at, drop-leading, leading-short, leading-within, digit-bounds, digits-kept, is-text}

-- ---- bytes that pass a test that no newline passes stand in the first line

-- a byte that ends a line does not pass
newline-fails : (P : ℕ → Bool) → P newline ≡ false → (b : ℕ) → is_text b ≡ false → P b ≡ false
unfolding is_text
newline-fails P n b e = ap P (eqb-true b newline (not-false _ e)) ∙ n

leading-more : (P : ℕ → Bool) (b : ℕ) (l : List ℕ) → leading P (leading is_text l) ≡ leading P l → P newline ≡ false → (c : Bool) → is_text b ≡ c
    → leading P (leading is_text (b ∷ l)) ≡ leading P (b ∷ l)
leading-more P b l ih n true e = simp (e, ih)
leading-more P b l ih n false e = simp (e, newline-fails P n b e)

leading-text : (P : ℕ → Bool) → P newline ≡ false → (l : List ℕ) → leading P (leading is_text l) ≡ leading P l
leading-text P n [] = refl
leading-text P n (b ∷ l) = leading-more P b l (leading-text P n l) n (is_text b) refl

behind_more : (P : ℕ → Bool) (b : ℕ) (l : List ℕ) → behind P (leading is_text l) ≡ leading is_text (behind P l) → P newline ≡ false → (c d : Bool) → is_text b ≡ c → P b ≡ d
    → behind P (leading is_text (b ∷ l)) ≡ leading is_text (behind P (b ∷ l))
behind_more P b l ih n true true e f = simp (e, f, ih)
behind_more P b l ih n true false e f = simp (e, f)
behind_more P b l ih n false d e f = simp (e, newline-fails P n b e)

behind-text : (P : ℕ → Bool) → P newline ≡ false → (l : List ℕ) → behind P (leading is_text l) ≡ leading is_text (behind P l)
behind-text P n [] = refl
behind-text P n (b ∷ l) = behind_more P b l (behind-text P n l) n (is_text b) (P b) refl refl

-- the line ends where it is found to end from behind those bytes on
same_end : (P : ℕ → Bool) → P newline ≡ false → (s : List ℕ) (i e : ℕ) → EndsAt P s i e
    → e + length (leading is_text (drop e s)) ≡ i + length (leading is_text (drop i s))
same_end P n s i e h =
    let l = leading is_text (drop i s) in
    let few : length (leading P l) ≤ length l = leading-short P l in
    let rest : length (behind P l) ≡ length l - length (leading P l) = sym (ap length (drop-leading P l)) ∙ length-drop (length (leading P l)) l in
    let same : length (leading P l) ≡ length (leading P (drop i s)) = ap length (leading-text P n (drop i s)) in
    let tail : length (behind P l) ≡ length (leading is_text (drop e s)) = ap length (behind-text P n (drop i s) ∙ ap (leading is_text) (rest_at P s i e h)) in
    omega (arith, h, few, rest, same, tail)

-- no newline is a hexadecimal digit, and none is a blank
hex-newline : is_hex newline ≡ false
unfolding is_hex hex_value
hex-newline = refl

blank-newline : is_blank newline ≡ false
unfolding is_blank
blank-newline = refl

pub digits-line : (s : List ℕ) (i e z : ℕ) → EndsAt is_hex s i e → EndsAt is_text s e z → EndsAt is_text s i z
digits-line s i e z h k = k ∙ same_end is_hex hex-newline s i e h

-- ---- the byte at the front of a line

front-more : (b : ℕ) (l : List ℕ) (c : Bool) → is_text b ≡ c → 0 < length (leading is_text (b ∷ l)) → ends (leading is_text (b ∷ l)) ≡ is_gap b
front-more b l true e = simp e (λ h. refl)
front-more b l false e = simp e (λ h. absurd (omega (arith, h)))

front : (l : List ℕ) → 0 < length (leading is_text l) → ends (leading is_text l) ≡ is_gap (get_or l 0 0)
front [] = λ h. absurd (omega (arith, h))
front (b ∷ l) = front-more b l (is_text b) refl

no_front : (l : List ℕ) → length l ≡ 0 → ends l ≡ true
no_front [] h = refl
no_front (b ∷ l) h = absurd (omega arith)

-- ---- the address from place i on, whose digits end at place e, in a line that ends at place z

-- the rest of a line from its address on
abbrev pub address_at : ℕ → List ℕ → ℕ → Option Parsed
address_at d s i = addressed d (leading is_text (drop i s))

pub address-none : (d : ℕ) (s : List ℕ) (i e : ℕ) → EndsAt is_hex s i e → e - i < 1 → malformed ≡ address_at d s i
unfolding addressed
address-none d s i e z h =
    simp (leading-text is_hex hex-newline (drop i s), lt-leb 1 (length (leading is_hex (drop i s))) (omega (arith, z, h)))

pub address-long : (d : ℕ) (s : List ℕ) (i e : ℕ) → EndsAt is_hex s i e → address_digits < e - i → malformed ≡ address_at d s i
unfolding addressed
address-long d s i e z h =
    let n = length (leading is_hex (drop i s)) in
    simp (leading-text is_hex hex-newline (drop i s), le-leb 1 n (omega (arith, z, h)), lt-leb n address_digits (omega (arith, z, h)))

-- 1 to 8 digits, and what stands behind them
digits-few : (d : ℕ) (s : List ℕ) (i e : ℕ) → EndsAt is_hex s i e → 1 ≤ e - i → e - i ≤ address_digits
    → address_at d s i ≡ cond (ends (leading is_text (drop e s))) (labelled d (shifted_all 0 (leading is_hex (drop i s)))) malformed
unfolding addressed
digits-few d s i e z h k =
    let n : length (leading is_hex (drop i s)) ≤ address_digits = omega (arith, z, k) in
    simp (
      leading-text is_hex hex-newline (drop i s),
      behind-text is_hex hex-newline (drop i s),
      rest_at is_hex s i e z,
      le-leb 1 (length (leading is_hex (drop i s))) (omega (arith, z, h)),
      le-leb (length (leading is_hex (drop i s))) address_digits n,
    )
    (ap (λ (v : ℕ). cond (ends (leading is_text (drop e s))) (labelled d v) malformed) (sym (digits-kept (drop i s) n)))

-- the byte behind the digits, if the line has one
pub within-line : (s : List ℕ) (i e z : ℕ) → i ≤ length s → EndsAt is_hex s i e → EndsAt is_text s e z → e < z → e < length s
within-line s i e z h x y k =
    let w : e ≤ length s = omega (arith, x, leading-within is_hex s i h) in
    omega (arith, y, k, leading-within is_text s e w)

ends-within : (s : List ℕ) (e z : ℕ) → e < length s → EndsAt is_text s e z → e < z → ends (leading is_text (drop e s)) ≡ is_gap (get_or s e 0)
ends-within s e z k y h = front (drop e s) (omega (arith, y, h)) ∙ ap (λ (l : List ℕ). is_gap (get_or l 0 0)) (drop-cons s e 0 k)

pub address-bad : (d : ℕ) (s : List ℕ) (i e z : ℕ) → i ≤ length s → EndsAt is_hex s i e → EndsAt is_text s e z → 1 ≤ e - i → e - i ≤ address_digits → e < z → is_gap (get_or s e 0) ≡ false
    → malformed ≡ address_at d s i
address-bad d s i e z l x y h k m g = sym (digits-few d s i e x h k ∙ simp (ends-within s e z (within-line s i e z l x y m) y m ∙ g))

pub address-good : (d : ℕ) (s : List ℕ) (i e z v : ℕ) → i ≤ length s → EndsAt is_hex s i e → EndsAt is_text s e z → 1 ≤ e - i → e - i ≤ address_digits → e < z → is_gap (get_or s e 0) ≡ true
    → v ≡ shifted_all 0 (leading is_hex (drop i s)) → labelled d v ≡ address_at d s i
address-good d s i e z v l x y h k m g n = ap (labelled d) n ∙ sym (digits-few d s i e x h k ∙ simp (ends-within s e z (within-line s i e z l x y m) y m ∙ g))

pub address-last : (d : ℕ) (s : List ℕ) (i e z v : ℕ) → EndsAt is_hex s i e → EndsAt is_text s e z → 1 ≤ e - i → e - i ≤ address_digits → z ≤ e
    → v ≡ shifted_all 0 (leading is_hex (drop i s)) → labelled d v ≡ address_at d s i
address-last d s i e z v x y h k m n = ap (labelled d) n ∙ sym (digits-few d s i e x h k ∙ simp (no_front (leading is_text (drop e s)) (omega (arith, y, m))))

-- ---- the line

width-test : (l : List ℕ) (c : Bool) → leb (length l) line_limit ≡ c → parsed l ≡ cond c (parsed_line l) malformed
unfolding parsed
width-test l c e = ap (λ (b : Bool). cond b (parsed_line l) malformed) e

narrow : (l : List ℕ) → length l ≤ line_limit → parsed_line l ≡ parsed l
narrow l h = sym (width-test l true (le-leb (length l) line_limit h))

too_wide : (l : List ℕ) → line_limit < length l → malformed ≡ parsed l
too_wide l h = sym (width-test l false (lt-leb (length l) line_limit h))

narrow-or-wide : (l : List ℕ) → parsed_line l ≡ malformed → (c : Bool) → leb (length l) line_limit ≡ c → malformed ≡ parsed l
narrow-or-wide l h true e = sym (width-test l true e ∙ h)
narrow-or-wide l h false e = sym (width-test l false e)

-- whatever its width
malformed-line : (l : List ℕ) → parsed_line l ≡ malformed → malformed ≡ parsed l
malformed-line l h = narrow-or-wide l h (leb (length l) line_limit) refl

-- the first line of the bytes s: no bytes at all
pub no_bytes : (s : List ℕ) → length s < 1 → (0 ≡ length (leading is_text s)) × (malformed ≡ parsed (leading is_text s))
no_bytes [] h = (refl, malformed-line [] refl)
no_bytes (b ∷ l) h = absurd (omega arith)

label-more : (b : ℕ) (l : List ℕ) (c : Bool) → is_text b ≡ c → is_digit b ≡ false → parsed_line (leading is_text (b ∷ l)) ≡ malformed
label-more b l true e h = simp (e, h)
label-more b l false e h = simp e

-- no label
pub no_label : (s : List ℕ) → is_digit (get_or s 0 0) ≡ false → malformed ≡ parsed (leading is_text s)
no_label [] h = malformed-line [] refl
no_label (b ∷ l) h = malformed-line (leading is_text (b ∷ l)) (label-more b l (is_text b) refl h)

-- a label stands at its front
abbrev pub Labels : List ℕ → Type 0
Labels s = (1 ≤ length s) × (is_digit (get_or s 0 0) ≡ true)

label-first : (s : List ℕ) → Labels s → leading is_text s ≡ get_or s 0 0 ∷ leading is_text (drop 1 s)
label-first s h = leads is_text s 0 h.0 (is-text (get_or s 0 0) (λ (z : get_or s 0 0 ≡ newline). omega (arith, z, (digit-bounds (get_or s 0 0) h.1).0)))

-- the line ends where it is found to end from behind the label on
pub label-line : (s : List ℕ) (z : ℕ) → Labels s → EndsAt is_text s 1 z → z ≡ length (leading is_text s)
label-line s z h y = y ∙ sym (ap length (label-first s h) ∙ omega arith)

-- no blank behind the label
pub no-blank : (s : List ℕ) → Labels s → length (leading is_blank (drop 1 s)) ≡ 0 → malformed ≡ parsed (leading is_text s)
unfolding separated
no-blank s h z =
    malformed-line (leading is_text s)
    (ap parsed_line (label-first s h) ∙ simp (h.1, leading-text is_blank blank-newline (drop 1 s), z))

-- blanks up to place i, from which on the line ends at place z
pub same_line : (s : List ℕ) (i z : ℕ) → Labels s → EndsAt is_blank s 1 i → EndsAt is_text s i z → z ≡ length (leading is_text s)
same_line s i z h x y = label-line s z h (y ∙ same_end is_blank blank-newline s 1 i x)

an-address : (s : List ℕ) (i : ℕ) → Labels s → EndsAt is_blank s 1 i → (i ≡ 1 → ⊥) → address_at (get_or s 0 0 - 48) s i ≡ parsed_line (leading is_text s)
unfolding separated
an-address s i h x n =
    let some : 1 ≤ length (leading is_blank (drop 1 s)) = more (length (leading is_blank (drop 1 s))) (λ (y : length (leading is_blank (drop 1 s)) ≡ 0). n (omega (arith, x, y))) in
    sym
    (ap parsed_line (label-first s h)
    ∙ simp (h.1, leading-text is_blank blank-newline (drop 1 s), behind-text is_blank blank-newline (drop 1 s), rest_at is_blank s 1 i x, le-leb 1 (length (leading is_blank (drop 1 s))) some))
  where
    more : (k : ℕ) → (k ≡ 0 → ⊥) → 1 ≤ k
    more zero y = absurd (y refl)
    more (suc k) y = omega arith

pub wide-line : (s : List ℕ) (i z : ℕ) → Labels s → EndsAt is_blank s 1 i → EndsAt is_text s i z → line_limit < z → malformed ≡ parsed (leading is_text s)
wide-line s i z h x y w = too_wide (leading is_text s) (omega (arith, w, same_line s i z h x y))

pub narrow-line : (s : List ℕ) (i z : ℕ) → Labels s → EndsAt is_blank s 1 i → (i ≡ 1 → ⊥) → EndsAt is_text s i z → z ≤ line_limit
    → address_at (get_or s 0 0 - 48) s i ≡ parsed (leading is_text s)
narrow-line s i z h x n y w = an-address s i h x n ∙ narrow (leading is_text s) (omega (arith, w, same_line s i z h x y))
