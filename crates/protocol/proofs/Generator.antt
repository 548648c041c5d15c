-- Laws of the generator: its draws are numbers of 32 bits, no two of these have one next draw, and only 0 is followed by 0; its requests one by one, their
-- number, that a longer list begins with the shorter one, that N, M × p and the seed alone play a part, and that every request is valid.
use Prim.Native.Nat.{ℕ, zero, suc, ◌+◌, ◌*◌, ◌/◌, ◌%◌, ◌^◌, ◌≤◌, ◌<◌}
use mathlib.Core.Path.{◌≡◌, refl, sym, ap, ◌∙◌}
use mathlib.Core.Logic.{◌≢◌}
use mathlib.Core.Bool.{Bool, true, false, cond}
use mathlib.Core.List.{List, [], ◌∷◌, ◌++◌}
use native.Mathlib.Nat.{suc-mul, mod-lt, mul-mod_left, add-zero, mul-le-mul}
use native.Mathlib.Numerals.{unary_clauses}
use native.Mathlib.Omega.{arith}
use lib.Arith.{bin_ind}
use lib.Pow.{shl-shr, mod-pow-add, mod-mod-pow, shr_le}
use lib.Bits.{bit_xor, xor_zero_r, xor_shr, xor_mod, xor_add_and, xor_lt}
use lib.ListN.{length, take}
use lib.Dec.{leb, eqb}
use borrow.Author.Tests.{leb-true, eqb-true, eqb-false, ne_eqb}
use Rattle.protocol_types.specs.Lists.{Each}
use Rattle.protocol_types.specs.Refusals.{no_refusal}
use Rattle.protocol_types.specs.Board.{setup_refusal, Fits, variables}
use Rattle.protocol_types.specs.Conditions.{Named, Valid, AllValid}
use Rattle.protocol.specs.Generator.{shift_left, xor_left, xor_right, xorshift, draws, even, request_drawn, workload, third_draw, request_after, generate_limit, generate_refusal, generated}
use Rattle.protocol_types.specs.declared.Setup.{Setup}
use Rattle.protocol_types.specs.declared.Request.{Request}
use Rattle.protocol_types.proofs.Laws.{choice}

-- ---- a draw has 32 bits

left_lt : (k x : ℕ) → x < 2 ^ 32 → xor_left k x < 2 ^ 32
unfolding xor_left
left_lt k x h = xor_lt 32 x (shift_left k x) h (mod-lt (x * 2 ^ k) (omega arith))

right_lt : (k x : ℕ) → x < 2 ^ 32 → xor_right k x < 2 ^ 32
unfolding xor_right
right_lt k x h = xor_lt 32 x (x / 2 ^ k) h (omega (arith, shr_le x k))

pub xorshift-lt : (x : ℕ) → x < 2 ^ 32 → xorshift x < 2 ^ 32
unfolding xorshift
xorshift-lt x h = left_lt 5 (xor_right 17 (xor_left 13 x)) (right_lt 17 (xor_left 13 x) (left_lt 13 x h))

-- ---- no two numbers of 32 bits have one next draw

-- `bit_xor` with c cancels: halves by induction, the lowest digit by parity
xor-cancel : (c a b : ℕ) → bit_xor a c ≡ bit_xor b c → a ≡ b
xor-cancel =
    bin_ind (λ (c : ℕ). (a b : ℕ) → bit_xor a c ≡ bit_xor b c → a ≡ b) (λ a b e. sym (xor_zero_r a) ∙ e ∙ xor_zero_r b)
    (λ c ih a b e.
    let h : a / 2 ≡ b / 2 = ih (a / 2) (b / 2) (sym (xor_shr a c 1) ∙ ap (λ (z : ℕ). z / 2) e ∙ xor_shr b c 1) in
    omega (arith, h, e, xor_add_and a c, xor_add_and b c))

-- the m + 1 low digits of a number shifted left come from its m low digits
shifted-low : (k m x : ℕ) → x * 2 ^ suc k % 2 ^ suc m ≡ x % 2 ^ m * 2 ^ suc k % 2 ^ suc m
shifted-low k m x =
    let n : ℕ = x * 2 ^ suc k in
    let e : k + suc m ≡ m + suc k = omega arith in
    sym (mod-mod-pow n k (suc m)) ∙ ap (λ (z : ℕ). n % 2 ^ z % 2 ^ suc m) e
    ∙ rw (mod-pow-add n m (suc k), shl-shr x (suc k), mul-mod_left x (2 ^ suc k), add-zero (x % 2 ^ m * 2 ^ suc k))

shift_left-low : (k m j x : ℕ) → j + suc m ≡ 32 → shift_left (suc k) x % 2 ^ suc m ≡ x % 2 ^ m * 2 ^ suc k % 2 ^ suc m
shift_left-low k m j x e =
    ap (λ (z : ℕ). x * 2 ^ suc k % 2 ^ z % 2 ^ suc m) (sym e) ∙ mod-mod-pow (x * 2 ^ suc k) j (suc m) ∙ shifted-low k m x

-- digit by digit from the lowest
left-agree : (k x y : ℕ) → xor_left (suc k) x ≡ xor_left (suc k) y → (m j : ℕ) → j + m ≡ 32 → x % 2 ^ m ≡ y % 2 ^ m
unfolding xor_left
left-agree k x y e zero j s = omega arith
left-agree k x y e (suc m) j s =
    let t : ℕ = 2 ^ suc m in
    let h : x % 2 ^ m ≡ y % 2 ^ m = left-agree k x y e m (suc j) (omega arith) in
    let g : shift_left (suc k) x % t ≡ shift_left (suc k) y % t =
    shift_left-low k m j x s ∙ ap (λ (z : ℕ). z * 2 ^ suc k % t) h ∙ sym (shift_left-low k m j y s) in
    xor-cancel (shift_left (suc k) x % t) (x % t) (y % t)
    (sym (xor_mod x (shift_left (suc k) x) (suc m)) ∙ ap (λ (z : ℕ). z % t) e ∙ xor_mod y (shift_left (suc k) y) (suc m) ∙ ap (bit_xor (y % t)) (sym g))

left-injective : (k x y : ℕ) → x < 2 ^ 32 → y < 2 ^ 32 → xor_left (suc k) x ≡ xor_left (suc k) y → x ≡ y
left-injective k x y hx hy e = omega (arith, left-agree k x y e 32 0 refl)

-- the 17 top digits stay, and give the others
right17-top : (x : ℕ) → x < 2 ^ 32 → xor_right 17 x / 2 ^ 15 ≡ x / 2 ^ 15
unfolding xor_right
right17-top x h =
    let z : x / 2 ^ 17 / 2 ^ 15 ≡ 0 = omega arith in
    xor_shr x (x / 2 ^ 17) 15 ∙ ap (bit_xor (x / 2 ^ 15)) z ∙ xor_zero_r (x / 2 ^ 15)

right17-injective : (x y : ℕ) → x < 2 ^ 32 → y < 2 ^ 32 → xor_right 17 x ≡ xor_right 17 y → x ≡ y
unfolding xor_right
right17-injective x y hx hy e =
    let t : x / 2 ^ 15 ≡ y / 2 ^ 15 = sym (right17-top x hx) ∙ ap (λ (z : ℕ). z / 2 ^ 15) e ∙ right17-top y hy in
    let s : x / 2 ^ 17 ≡ y / 2 ^ 17 = omega arith in
    xor-cancel (x / 2 ^ 17) x y (e ∙ ap (bit_xor y) (sym s))

pub xorshift-injective : (x y : ℕ) → x < 2 ^ 32 → y < 2 ^ 32 → xorshift x ≡ xorshift y → x ≡ y
unfolding xorshift
xorshift-injective x y hx hy e =
    let lx = left_lt 13 x hx in
    let ly = left_lt 13 y hy in
    left-injective 12 x y hx hy
    (right17-injective (xor_left 13 x) (xor_left 13 y) lx ly
    (left-injective 4 (xor_right 17 (xor_left 13 x)) (xor_right 17 (xor_left 13 y)) (right_lt 17 (xor_left 13 x) lx) (right_lt 17 (xor_left 13 y) ly) e))

-- ---- only 0 is followed by 0, so that no draw of a seed that is not refused is 0

xorshift-zero : xorshift 0 ≡ 0
unfolding xorshift xor_left xor_right
xorshift-zero = refl

xorshift-nonzero : (x : ℕ) → x < 2 ^ 32 → x ≢ 0 → xorshift x ≢ 0
xorshift-nonzero x h n e = n (xorshift-injective x 0 h (omega arith) (e ∙ sym xorshift-zero))

pub draws-nonzero : (seed n : ℕ) → seed < 2 ^ 32 → seed ≢ 0 → Each (λ d. (d < 2 ^ 32) × (d ≢ 0)) (draws seed n)
draws-nonzero x zero h e = tt
draws-nonzero x (suc n) h e =
    let l = xorshift-lt x h in
    let d = xorshift-nonzero x h e in
    ((l, d), draws-nonzero (xorshift x) n l d)

-- ---- request by request

pub workload-suc : (s : Setup) (x n : ℕ) → workload s x (suc n) ≡ request_after s x ∷ workload s (third_draw x) n
unfolding workload request_after
workload-suc s x n = simp (suc-mul, unary_clauses)

pub workload-zero : (s : Setup) (x : ℕ) → workload s x 0 ≡ []
unfolding workload
workload-zero s x = refl

pub length-workload : (s : Setup) (x n : ℕ) → length (workload s x n) ≡ n
length-workload s x zero = ap length (workload-zero s x)
length-workload s x (suc n) = ap length (workload-suc s x n) ∙ ap suc (length-workload s (third_draw x) n)

-- the last draw that n requests used
abbrev pub draw_after : ℕ → ℕ → ℕ
draw_after x zero = x
draw_after x (suc n) = draw_after (third_draw x) n

pub draw_after-suc : (x n : ℕ) → draw_after x (suc n) ≡ third_draw (draw_after x n)
draw_after-suc x zero = refl
draw_after-suc x (suc n) = draw_after-suc (third_draw x) n

pub workload-more : (s : Setup) (x n : ℕ) → workload s x (suc n) ≡ workload s x n ++ (request_after s (draw_after x n) ∷ [])
workload-more s x zero = rw (workload-suc s x 0, workload-zero s (third_draw x), workload-zero s x)
workload-more s x (suc n) =
    rw (workload-suc s x (suc n), workload-suc s x n) (ap (λ (l : List Request). request_after s x ∷ l) (workload-more s (third_draw x) n))

-- ---- a longer list begins with the shorter one

pub workload-begins : (s : Setup) (seed n m : ℕ) → take n (workload s seed (n + m)) ≡ workload s seed n
workload-begins s x zero m = sym (workload-zero s x)
workload-begins s x (suc n) m =
    let e : suc n + m ≡ suc (n + m) = omega arith in
    rw (e, workload-suc s x (n + m), workload-suc s x n) (ap (λ (l : List Request). request_after s x ∷ l) (workload-begins s (third_draw x) n m))

-- ---- N, M × p and the seed alone play a part

same-request : (s t : Setup) (x : ℕ) → s.processors ≡ t.processors → variables s ≡ variables t → request_after s x ≡ request_after t x
unfolding request_after request_drawn
same-request s t x e f = rw (e, f)

pub workload-same : (s t : Setup) (seed n : ℕ) → s.processors ≡ t.processors → variables s ≡ variables t → workload s seed n ≡ workload t seed n
workload-same s t x zero e f = workload-zero s x ∙ sym (workload-zero t x)
workload-same s t x (suc n) e f =
    rw (workload-suc s x n, workload-suc t x n, same-request s t x e f) (ap (λ (l : List Request). request_after t x ∷ l) (workload-same s t (third_draw x) n e f))

-- ---- every request is valid

pub some-variable : (s : Setup) → Fits s → 0 < variables s
some-variable s ok = mul-le-mul ok.some_block ok.some_word

valid-after : (s : Setup) → Fits s → (x : ℕ) → Valid s (request_after s x)
unfolding request_after request_drawn
valid-after s ok x = record {
  processor = mod-lt _ ok.some-processor;
  operation = choice (Named s) (even (third_draw x)) (λ e. mod-lt _ (some-variable s ok)) (λ e. mod-lt _ (some-variable s ok));
}

pub workload-valid : (s : Setup) → Fits s → (seed n : ℕ) → AllValid s (workload s seed n)
workload-valid s ok x zero = rw (workload-zero s x) tt
workload-valid s ok x (suc n) = rw (workload-suc s x n) (valid-after s ok x, workload-valid s ok (third_draw x) n)

-- ---- what 1, 10, 11 and 5 let through

pub record Passed (s : Setup) (seed n : ℕ) : Type 0 where
  pub accepted : setup_refusal s ≡ no_refusal
  pub seeded : seed ≢ 0
  pub few : n ≤ generate_limit

pub generate-passed : (s : Setup) (seed n : ℕ) → generate_refusal s seed n ≡ no_refusal → Passed s seed n
unfolding generate_refusal
generate-passed s seed n e = go (eqb (setup_refusal s) 0) (eqb seed 0) (leb n generate_limit) refl refl refl
  where
    go : (a b c : Bool) → eqb (setup_refusal s) 0 ≡ a → eqb seed 0 ≡ b → leb n generate_limit ≡ c → Passed s seed n
    go true false true h k l = record { accepted = eqb-true _ _ h; seeded = eqb-false _ _ k; few = leb-true _ _ l }
    go true false false h k l = absurd (omega (arith, simp (h, k, l) at e))
    go true true c h k l = absurd (omega (arith, simp (h, k) at e))
    go false b c h k l = absurd (eqb-false (setup_refusal s) 0 h (simp h at e))

-- ---- what a refusal leaves

pub generated-stays : (s : Setup) (seed : ℕ) (lent : List Request) → generate_refusal s seed (length lent) ≢ no_refusal → generated s seed lent ≡ lent
unfolding generated
generated-stays s seed lent refused =
    ap (λ (c : Bool). cond c (workload s seed (length lent)) lent) (ne_eqb (generate_refusal s seed (length lent)) no_refusal refused)
