-- A line's bytes place by place: the leading ones that pass, and their number.
use Prim.Native.Nat.{ℕ, ◌+◌, ◌-◌, ◌*◌, ◌^◌, ◌≤◌, ◌<◌}
use mathlib.Core.Path.{◌≡◌, refl, sym, ap, ◌∙◌}
use mathlib.Core.Bool.{Bool, true, false, cond}
use mathlib.Core.List.{List, [], ◌∷◌}
use native.Mathlib.Numerals.{add-one}
use native.Mathlib.Nat.{mod-eq_of_lt, pow-suc, pow-le-pow_right}
use native.Mathlib.Omega.{arith}
use lib.ListN.{length, take, drop, get_or, length-drop}
use lib.Seq.{drop-cons, drop-length, drop-drop, take_all}
use lib.Dec.{leb, ltb}
use borrow.Author.Tests.{ltb-true, ltb-false, leb-true, ne_eqb}
use Rattle.std.specs.Prelude.{Some, None}
use Rattle.std.specs.List.{prefix_len}
use Rattle.trace_din.specs.Lines.{newline, is_text, is_digit, hex_value, is_hex, hex_digit, leading, behind, hex_number, address_digits}
use Rattle.trace_din.specs.Digits.{shifted, shifted_all}
use Rattle.trace_din.specs.Places.{EndsAt}

-- ---- from a place on

-- the part of a list from place i on
pub rest_part : (l : List ℕ) (i : ℕ) → take (length l - i) (drop i l) ≡ drop i l
rest_part l i = take_all (length l - i) (drop i l) (omega (arith, length-drop i l))

-- the byte at the place passes
pub leads : (P : ℕ → Bool) (l : List ℕ) (i : ℕ) → i < length l → P (get_or l i 0) ≡ true → leading P (drop i l) ≡ get_or l i 0 ∷ leading P (drop (i + 1) l)
leads P l i h e = ap (leading P) (drop-cons l i 0 h) ∙ simp (e, add-one)

-- it does not
pub leads-not : (P : ℕ → Bool) (l : List ℕ) (i : ℕ) → i < length l → P (get_or l i 0) ≡ false → leading P (drop i l) ≡ []
leads-not P l i h e = ap (leading P) (drop-cons l i 0 h) ∙ simp e

-- the list ends there
pub leads-end : (P : ℕ → Bool) (l : List ℕ) (i : ℕ) → i ≡ length l → leading P (drop i l) ≡ []
leads-end P l i e = ap (λ (k : ℕ). leading P (drop k l)) e ∙ ap (leading P) (drop-length l)

-- ---- the leading bytes and the rest are parts of the list

take_more : (P : ℕ → Bool) (b : ℕ) (l : List ℕ) → take (length (leading P l)) l ≡ leading P l → (c : Bool) → P b ≡ c
    → take (length (leading P (b ∷ l))) (b ∷ l) ≡ leading P (b ∷ l)
take_more P b l ih true e = simp (e, ih)
take_more P b l ih false e = simp e

pub take-leading : (P : ℕ → Bool) (l : List ℕ) → take (length (leading P l)) l ≡ leading P l
take-leading P [] = refl
take-leading P (b ∷ l) = take_more P b l (take-leading P l) (P b) refl

drop_more : (P : ℕ → Bool) (b : ℕ) (l : List ℕ) → drop (length (leading P l)) l ≡ behind P l → (c : Bool) → P b ≡ c
    → drop (length (leading P (b ∷ l))) (b ∷ l) ≡ behind P (b ∷ l)
drop_more P b l ih true e = simp (e, ih)
drop_more P b l ih false e = simp e

pub drop-leading : (P : ℕ → Bool) (l : List ℕ) → drop (length (leading P l)) l ≡ behind P l
drop-leading P [] = refl
drop-leading P (b ∷ l) = drop_more P b l (drop-leading P l) (P b) refl

pub rest_at : (P : ℕ → Bool) (l : List ℕ) (i e : ℕ) → EndsAt P l i e → behind P (drop i l) ≡ drop e l
rest_at P l i e h = sym (drop-leading P (drop i l)) ∙ drop-drop (length (leading P (drop i l))) i l ∙ ap (λ (k : ℕ). drop k l) (sym h)

-- the byte behind them does not pass
fails_more : (P : ℕ → Bool) (b : ℕ) (l : List ℕ) → (0 < length (behind P l) → P (get_or (behind P l) 0 0) ≡ false) → (c : Bool) → P b ≡ c
    → 0 < length (behind P (b ∷ l)) → P (get_or (behind P (b ∷ l)) 0 0) ≡ false
fails_more P b l ih true e = simp e ih
fails_more P b l ih false e = simp e (λ h. refl)

behind-fails : (P : ℕ → Bool) (l : List ℕ) → 0 < length (behind P l) → P (get_or (behind P l) 0 0) ≡ false
behind-fails P [] = λ h. absurd (omega arith)
behind-fails P (b ∷ l) = fails_more P b l (behind-fails P l) (P b) refl

pub fails-at : (P : ℕ → Bool) (l : List ℕ) (i e : ℕ) → EndsAt P l i e → e < length l → P (get_or l e 0) ≡ false
fails-at P l i e h k =
    let r = rest_at P l i e h ∙ drop-cons l e 0 k in
    let z : 0 < length (behind P (drop i l)) = rw r (omega arith) in
    sym (ap (λ (m : List ℕ). P (get_or m 0 0)) r) ∙ behind-fails P (drop i l) z

-- as many as the library counts
prefix-more : (P : ℕ → Bool) (b : ℕ) (l : List ℕ) → prefix_len P l ≡ length (leading P l) → (c : Bool) → P b ≡ c → prefix_len P (b ∷ l) ≡ length (leading P (b ∷ l))
prefix-more P b l ih true e = simp e (omega (arith, ih))
prefix-more P b l ih false e = simp e

pub leading-length : (P : ℕ → Bool) (l : List ℕ) → prefix_len P l ≡ length (leading P l)
leading-length P [] = refl
leading-length P (b ∷ l) = prefix-more P b l (leading-length P l) (P b) refl

leading-more : (P : ℕ → Bool) (b : ℕ) (l : List ℕ) → length (leading P l) ≤ length l → (c : Bool) → P b ≡ c → length (leading P (b ∷ l)) ≤ length (b ∷ l)
leading-more P b l ih true e = simp e (omega (arith, ih))
leading-more P b l ih false e = simp e (omega arith)

pub leading-short : (P : ℕ → Bool) (l : List ℕ) → length (leading P l) ≤ length l
leading-short P [] = omega arith
leading-short P (b ∷ l) = leading-more P b l (leading-short P l) (P b) refl

-- they end within the list
pub leading-within : (P : ℕ → Bool) (l : List ℕ) (i : ℕ) → i ≤ length l → i + length (leading P (drop i l)) ≤ length l
leading-within P l i h = omega (arith, h, leading-short P (drop i l), length-drop i l)

-- ---- digits

digit-between : (b : ℕ) (c : Bool) → ltb b 48 ≡ c → cond c false (leb b 57) ≡ true → (48 ≤ b) × (b ≤ 57)
digit-between b true e h = let z : ◌≡◌ {A = ℕ} 0 1 = cc in absurd (omega arith)
digit-between b false e h = (ltb-false b 48 e, leb-true b 57 h)

pub digit-bounds : (b : ℕ) → is_digit b ≡ true → (48 ≤ b) × (b ≤ 57)
unfolding is_digit
digit-bounds b h = digit-between b (ltb b 48) refl h

-- what a search for a digit tells: one was found, or none
found-hex : (b d : ℕ) (c : Bool) → is_hex b ≡ c → Some d ≡ cond c (Some (hex_value b)) None → (is_hex b ≡ true) × (d ≡ hex_value b)
found-hex b d true h e = (h, cc)
found-hex b d false h e = absurd cc

pub is-hex : (b d : ℕ) → Some d ≡ hex_digit b → (is_hex b ≡ true) × (d ≡ hex_value b)
is-hex b d e = found-hex b d (is_hex b) refl e

no-hex : (b : ℕ) (c : Bool) → is_hex b ≡ c → None ≡ cond c (Some (hex_value b)) None → is_hex b ≡ false
no-hex b true h e = absurd cc
no-hex b false h e = h

pub not-hex : (b : ℕ) → None ≡ hex_digit b → is_hex b ≡ false
not-hex b e = no-hex b (is_hex b) refl e

-- of at most 8 digits none is lost
pub shifted_fits : (n v h : ℕ) → n < address_digits → v < 16 ^ n → h < 16 → (shifted v h ≡ v * 16 + h) × (v * 16 + h < 16 ^ (n + 1))
shifted_fits n v h hn hv hh =
    let small : v < 268435456 = omega (arith, pow-le-pow_right {n = 16} (omega arith) {i = n} {j = 7} (omega arith)) in
    (ap (λ (x : ℕ). x * 16 + h) (mod-eq_of_lt small), rw add-one (omega (arith, pow-suc 16 n)))

pub hex-lt : (b : ℕ) → is_hex b ≡ true → hex_value b < 16
unfolding is_hex
hex-lt b h = ltb-true _ _ h

abbrev Kept : List ℕ → Type 0
Kept l = (n v : ℕ) → n + length (leading is_hex l) ≤ address_digits → v < 16 ^ n → shifted_all v (leading is_hex l) ≡ hex_number v (leading is_hex l)

kept_more : (b : ℕ) (l : List ℕ) → Kept l → (c : Bool) → is_hex b ≡ c → Kept (b ∷ l)
kept_more b l ih true e n v h k =
    let z = simp e at h in
    let fit = shifted_fits n v (hex_value b) (omega (arith, z)) k (hex-lt b e) in
    simp e (ap (λ (x : ℕ). shifted_all x (leading is_hex l)) fit.0 ∙ ih (n + 1) (v * 16 + hex_value b) (omega (arith, z)) fit.1)
kept_more b l ih false e n v h k = simp e

kept : (l : List ℕ) → Kept l
kept [] = λ n v h k. refl
kept (b ∷ l) = kept_more b l (kept l) (is_hex b) refl

pub digits-kept : (l : List ℕ) → length (leading is_hex l) ≤ address_digits → shifted_all 0 (leading is_hex l) ≡ hex_number 0 (leading is_hex l)
digits-kept l h = kept l 0 0 (omega (arith, h)) (omega arith)

-- ---- newlines

-- the test of a newline, as the code makes it
pub is-text : (b : ℕ) → (b ≡ newline → ⊥) → is_text b ≡ true
unfolding is_text
is-text b d = simp (ne_eqb b newline d)
