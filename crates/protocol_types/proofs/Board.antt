-- Laws of the board: the setup's range as facts, and the arithmetic of blocks, slots and words.
use Prim.Native.Nat.{ℕ, suc, ◌+◌, ◌*◌, ◌/◌, ◌%◌, ◌≤◌, ◌<◌}
use mathlib.Core.Path.{◌≡◌, refl, sym, ap, ◌∙◌}
use mathlib.Core.Logic.{◌≢◌}
use mathlib.Core.Bool.{Bool, true, false}
use native.Mathlib.Omega.{arith}
use native.Mathlib.Nat.{mod-lt, mul-le-mul, mul-le-mul_right, suc-mul, div-lt_iff_lt-mul, mul-add-mod_self_right, mod-eq_of_lt, mul-add-div_right, div-eq_of_lt, add-zero, div-add-mod'}
use lib.Dec.{leb}
use borrow.Author.Tests.{leb-true}
use Rattle.protocol_types.specs.Refusals.{no_refusal}
use Rattle.protocol_types.specs.Board.{sizes_in_range, price_limit, prices_in_range, setup_refusal, Fits, variables, slots, line_slot, slot, word_index, block_of, offset_of, line_of, fetch_price, write_back_price, most_write_back}
use Rattle.protocol_types.specs.declared.Setup.{Setup}
use Rattle.protocol_types.specs.declared.Variable.{Variable}
use Rattle.protocol_types.specs.declared.Block.{Block}
use Rattle.protocol_types.proofs.Laws.{both_true, Same, same, apart, same?}

-- ---- the range

in-range-fits : (s : Setup) → sizes_in_range s ≡ true → prices_in_range s ≡ true → Fits s
unfolding sizes_in_range prices_in_range fetch_price write_back_price most_write_back
in-range-fits s e prices =
    let e1 = both_true _ _ e in
    let e2 = both_true _ _ e1.0 in
    let e3 = both_true _ _ e2.0 in
    let n = both_true (leb 1 s.processors) (leb s.processors 8) e3.0 in
    let l = both_true (leb 1 s.lines) (leb s.lines 64) e3.1 in
    let p = both_true (leb 1 s.words) (leb s.words 16) e2.1 in
    let m = both_true (leb 1 s.blocks) (leb s.blocks 256) e1.1 in
    let fg = both_true _ _ prices in
    let f = both_true (leb 1 s.fetch_price) (leb s.fetch_price price_limit) fg.0 in
    let g = both_true (leb 1 s.write_back_price) (leb s.write_back_price s.fetch_price) fg.1 in
    let few = leb-true s.fetch_price price_limit f.1 in
    let cheaper = leb-true s.write_back_price s.fetch_price g.1 in
    let low : s.write_back_price ≤ price_limit = omega (arith, few, cheaper) in
    record {
      some-processor = leb-true _ _ n.0;
      few-processors = leb-true _ _ n.1;
      some-line = leb-true _ _ l.0;
      few-lines = leb-true _ _ l.1;
      some_word = leb-true _ _ p.0;
      few_words = leb-true _ _ p.1;
      some_block = leb-true _ _ m.0;
      few-blocks = leb-true _ _ m.1;
      some-fetch = leb-true _ _ f.0;
      few-fetch = few;
      some-write-back = leb-true _ _ g.0;
      write-back-le-fetch = cheaper;
      few-write-back = omega (arith, low, mul-le-mul low (leb-true s.lines 64 l.1));
    }

pub setup-fits : (s : Setup) → setup_refusal s ≡ no_refusal → Fits s
unfolding setup_refusal
setup-fits s e = go (sizes_in_range s) (prices_in_range s) refl refl
  where
    go : (a b : Bool) → sizes_in_range s ≡ a → prices_in_range s ≡ b → Fits s
    go true true h k = in-range-fits s h k
    go true false h k = absurd (omega (arith, simp (h, k) at e))
    go false true h k = absurd (omega (arith, simp (h, k) at e))
    go false false h k = absurd (omega (arith, simp (h, k) at e))

-- ---- rows of width n: row i, column x

-- the index is in range, and two are equal only if both parts are
pub row_lt : (i m n x : ℕ) → i < m → x < n → i * n + x < m * n
row_lt i m n x h l = omega (arith, mul-le-mul_right {m = suc i} {n = m} n h, suc-mul i n)

pub row-div : (i n x : ℕ) → x < n → (i * n + x) / n ≡ i
row-div i n x l = mul-add-div_right {m = n} (omega arith) i x ∙ ap (λ z. i + z) (div-eq_of_lt l) ∙ add-zero i

pub row-mod : (i n x : ℕ) → x < n → (i * n + x) % n ≡ x
row-mod i n x l = mul-add-mod_self_right i n x ∙ mod-eq_of_lt l

pub row-inj : (i j n x y : ℕ) → x < n → y < n → i * n + x ≡ j * n + y → (i ≡ j) × (x ≡ y)
row-inj i j n x y h l e =
    (sym (row-div i n x h) ∙ ap (λ z. z / n) e ∙ row-div j n y l, sym (row-mod i n x h) ∙ ap (λ z. z % n) e ∙ row-mod j n y l)

-- ---- blocks and variables by their numbers

pub block-path : {b c : Block} → b.0 ≡ c.0 → b ≡ c
block-path e = λ i. record { 0 = e i }

pub variable-path : {v w : Variable} → v.0 ≡ w.0 → v ≡ w
variable-path e = λ i. record { 0 = e i }

pub block-number : {b c : Block} → b ≡ c → b.0 ≡ c.0
block-number e = ap (λ (z : Block). z.0) e

-- whether two blocks are one
pub data SameBlock (b c : Block) : Type 0 where
  one : b ≡ c → SameBlock b c
  two : b ≢ c → SameBlock b c

pub same-block? : (b c : Block) → SameBlock b c
same-block? b c = go (same? b.0 c.0)
  where
    go : Same b.0 c.0 → SameBlock b c
    go (same p q) = one (block-path p)
    go (apart p q) = two (λ e. p (block-number e))

-- ---- slots and words

module _ (s : Setup) (ok : Fits s) where
  pub line-lt : (b : Block) → line_of s b < s.lines
  unfolding line_of
  line-lt b = mod-lt b.0 ok.some-line

  -- the numbers of slots, words of lines, and variables
  pub few-slots : slots s ≤ 512
  unfolding slots
  few-slots = mul-le-mul ok.few-processors ok.few-lines

  pub few-line-words : slots s * s.words ≤ 8192
  few-line-words = mul-le-mul few-slots ok.few_words

  pub few-variables : variables s ≤ 4096
  few-variables = mul-le-mul ok.few-blocks ok.few_words

  pub line_slot-lt : (i l : ℕ) → i < s.processors → l < s.lines → line_slot s i l < slots s
  unfolding slots
  line_slot-lt i l h u = row_lt i s.processors s.lines l h u

  pub slot_lt : (i : ℕ) (b : Block) → i < s.processors → slot s i b < slots s
  unfolding slot slots
  slot_lt i b h = row_lt i s.processors s.lines (line_of s b) h (line-lt b)

  pub slot-inj : (i j : ℕ) (b c : Block) → slot s i b ≡ slot s j c → i ≡ j
  unfolding slot
  slot-inj i j b c e = (row-inj i j s.lines (line_of s b) (line_of s c) (line-lt b) (line-lt c) e).0

  pub slot-proper : (i : ℕ) (b : Block) → slot s i b % s.lines ≡ line_of s b
  unfolding slot
  slot-proper i b = row-mod i s.lines (line_of s b) (line-lt b)

  pub processor-lt : (k : ℕ) → k < slots s → k / s.lines < s.processors
  unfolding slots
  processor-lt k h = (div-lt_iff_lt-mul ok.some-line).1 h

  -- a slot whose block stands in its proper line is that block's slot at its processor
  pub slot_of : (k : ℕ) (b : Block) → k % s.lines ≡ line_of s b → slot s (k / s.lines) b ≡ k
  unfolding slot
  slot_of k b e = ap (λ x. k / s.lines * s.lines + x) (sym e) ∙ div-add-mod' k s.lines

  pub word_index-inj : (k m o u : ℕ) → o < s.words → u < s.words → word_index s k o ≡ word_index s m u → (k ≡ m) × (o ≡ u)
  unfolding word_index
  word_index-inj k m o u h l e = row-inj k m s.words o u h l e

  pub word_index-lt : (k n o : ℕ) → k < n → o < s.words → word_index s k o < n * s.words
  unfolding word_index
  word_index-lt k n o h l = row_lt k n s.words o h l

  pub offset-lt : (v : Variable) → offset_of s v < s.words
  unfolding offset_of
  offset-lt v = mod-lt v.0 ok.some_word

  pub block-lt : (v : Variable) → v.0 < variables s → (block_of s v).0 < s.blocks
  unfolding block_of
  block-lt v h = (div-lt_iff_lt-mul ok.some_word).1 h

-- a variable is known by its block and its offset
pub same-variable : (s : Setup) (v w : Variable) → block_of s v ≡ block_of s w → offset_of s v ≡ offset_of s w → v ≡ w
unfolding block_of offset_of
same-variable s v w e f =
    variable-path
    (sym (div-add-mod' v.0 s.words) ∙ ap (λ (z : Block). z.0 * s.words + v.0 % s.words) e ∙ ap (λ z. w.0 / s.words * s.words + z) f
    ∙ div-add-mod' w.0 s.words)
