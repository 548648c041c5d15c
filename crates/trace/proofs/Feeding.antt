-- The laws of `fed`: byte by byte along a line (`leading`, `behind`), line by line along a list, and chunk by chunk.
use Prim.Native.Nat.{ℕ, suc, ◌+◌, ◌≤◌, ◌<◌}
use native.Mathlib.Omega.{arith}
use mathlib.Core.Path.{◌≡◌, refl, sym, ap, ◌∙◌}
use mathlib.Core.Bool.{Bool, true, false}
use mathlib.Core.List.{List, [], ◌∷◌, ◌++◌}
use native.Mathlib.Numerals.{add-one}
use lib.ListN.{length, take, drop, get_or}
use lib.Seq.{drop-cons, drop-length, take_all, take-length}
use lib.Dec.{eqb}
use borrow.Author.Tests.{not-true, not-false, eq-eqb}
use Rattle.protocol_types.specs.Refusals.{no_refusal}
use Rattle.trace_din.specs.Lines.{newline, is_text, leading, behind, parsed}
use Rattle.trace_din.specs.Places.{EndsAt}
use Rattle.trace_din.specs.declared.Parsed.{Parsed}
use Rattle.trace_din.proofs.Leading.{take-leading, drop-leading, leading-short, fails-at}
use Rattle.trace_scan.specs.Automaton.{with_bytes, scan_parsed}
use Rattle.trace_scan.specs.declared.Line.{Line}
use Rattle.trace_scan.proofs.Reading.{read-parsed}
use Rattle.trace_lines.specs.Trace.{interpreted}
use Rattle.trace_count.specs.Counting.{CountNumbers, CountStage, stage, lengthened, line_ended, Countable, AtStart}
use Rattle.std.specs.Prelude.{Option}
use Rattle.trace.specs.Feeding.{current_ended, extended, stepped, fed}
use Rattle.trace.proofs.Laws.{countable-stepped, ended-as, counted-extended}

-- where the input is cut plays no part
pub fed-append : (x : CountStage) (a b : List ℕ) → fed x (a ++ b) ≡ fed (fed x a) b
fed-append x [] b = refl
fed-append x (y ∷ a) b = fed-append (stepped x y) a b

pub countable-fed : (x : CountStage) (s : List ℕ) → Countable x → Countable (fed x s)
countable-fed x [] r = r
countable-fed x (b ∷ s) r = countable-fed (stepped x b) s (countable-stepped x b r)

-- after a refusal nothing changes any more
refused-byte : (x : CountStage) (b : ℕ) → eqb x.count.refusal no_refusal ≡ false → stepped x b ≡ x
unfolding stepped
refused-byte x b e = simp e

pub refused-stays : (x : CountStage) (s : List ℕ) → eqb x.count.refusal no_refusal ≡ false → fed x s ≡ x
refused-stays x [] e = refl
refused-stays x (b ∷ s) e = ap (λ (y : CountStage). fed y s) (refused-byte x b e) ∙ refused-stays x s e

-- ---- a line

-- bytes that are no newline lengthen the line
text-byte : (x : CountStage) (b : ℕ) → eqb x.count.refusal no_refusal ≡ true → is_text b ≡ true → stepped x b ≡ extended x (b ∷ [])
unfolding stepped is_text
text-byte x b e t = simp (e, not-true (eqb b newline) t)

abbrev TextFed : List ℕ → Type 0
TextFed l = (x : CountStage) → eqb x.count.refusal no_refusal ≡ true → fed x l ≡ fed (extended x (leading is_text l)) (behind is_text l)

text-more : (b : ℕ) (l : List ℕ) → TextFed l → (c : Bool) → is_text b ≡ c → TextFed (b ∷ l)
text-more b l ih true t x e = simp t (ap (λ (y : CountStage). fed y l) (text-byte x b e t) ∙ ih (extended x (b ∷ [])) e)
text-more b l ih false t x e = simp t

text-fed : (l : List ℕ) → TextFed l
text-fed [] = λ x e. refl
text-fed (b ∷ l) = text-more b l (text-fed l) (is_text b) refl

-- a newline ends it
newline-byte : (x : CountStage) (b : ℕ) → eqb x.count.refusal no_refusal ≡ true → is_text b ≡ false → stepped x b ≡ current_ended x
unfolding stepped is_text
newline-byte x b e t = simp (e, not-false (eqb b newline) t)

-- bytes that are no newline, up to the end
fed-cut : (x : CountStage) (s : List ℕ) → x.count.refusal ≡ no_refusal → length (leading is_text s) ≡ length s → fed x s ≡ extended x s
fed-cut x s z h =
    let rest : behind is_text s ≡ [] = sym (drop-leading is_text s) ∙ ap (λ (n : ℕ). drop n s) h ∙ drop-length s in
    let whole : leading is_text s ≡ s = sym (take-leading is_text s) ∙ ap (λ (n : ℕ). take n s) h ∙ take-length s in
    text-fed s x (eq-eqb _ _ z) ∙ ap (fed (extended x (leading is_text s))) rest ∙ ap (extended x) whole

-- a line that ends at place e
fed-line : (x : CountStage) (s : List ℕ) (e : ℕ) → x.count.refusal ≡ no_refusal → e ≡ length (leading is_text s) → e < length s
    → fed x s ≡ fed (current_ended (extended x (leading is_text s))) (drop (e + 1) s)
fed-line x s e z h k =
    let y = extended x (leading is_text s) in
    let rest : behind is_text s ≡ get_or s e 0 ∷ drop (suc e) s = sym (drop-leading is_text s) ∙ ap (λ (n : ℕ). drop n s) (sym h) ∙ drop-cons s e 0 k in
    text-fed s x (eq-eqb _ _ z)
    ∙ ap (fed y) rest
    ∙ ap (λ (v : CountStage). fed v (drop (suc e) s)) (newline-byte y (get_or s e 0) (eq-eqb _ _ z) (fails-at is_text s 0 e (h ∙ omega arith) k))
    ∙ ap (λ (n : ℕ). fed (current_ended y) (drop n s)) (sym (add-one e))

-- ---- from the start of a line on

-- a line that is cut
pub fed-within : (x : CountStage) (s : List ℕ) → AtStart x.count → length s ≤ length (leading is_text s) → extended x s ≡ fed x s
fed-within x s a h = sym (fed-cut x s a.refusal (omega (arith, h, leading-short is_text s)))

-- a line that ends at place e
pub fed-whole : (x : CountStage) (s : List ℕ) (e : ℕ) (y : Option Parsed) → AtStart x.count → e ≡ length (leading is_text s) → e < length s
    → y ≡ parsed (leading is_text s) → fed x s ≡ fed (line_ended x y) (drop (e + 1) s)
fed-whole x s e y a h k p =
    let l = leading is_text s in
    let is_y : scan_parsed (with_bytes x.count.line l).scan ≡ y = ap (λ (m : Line). scan_parsed (with_bytes m l).scan) a.line ∙ read-parsed l ∙ sym p in
    fed-line x s e a.refusal h k
    ∙ ap (λ (v : CountStage). fed v (drop (e + 1) s)) (ended-as (extended x l) y is_y ∙ counted-extended x l (interpreted x.count.line_number y))

-- ---- from within a line on, whose newline, or the bytes' end, stands at place e; c is the count with the bytes before it

module _ (x : CountStage) (s : List ℕ) (e : ℕ) (c : CountNumbers) (z : x.count.refusal ≡ no_refusal) (h : EndsAt is_text s 0 e) (p : c ≡ lengthened x.count (take e s)) where
  -- the line is cut
  pub fed-more : length s ≤ e → stage c x.tables ≡ fed x s
  fed-more k =
      let all : take e s ≡ s = take_all e s k in
      simp (p, all) (sym (fed-cut x s z (omega (arith, h, k, leading-short is_text s))))

  -- it ends
  pub fed-ends : (y : Option Parsed) → e < length s → y ≡ scan_parsed c.line.scan → fed x s ≡ fed (line_ended (stage c x.tables) y) (drop (e + 1) s)
  fed-ends y k q =
      let n : e ≡ length (leading is_text s) = omega (arith, h) in
      let same : lengthened x.count (leading is_text s) ≡ c = ap (lengthened x.count) (sym (take-leading is_text s) ∙ ap (λ (m : ℕ). take m s) (sym n)) ∙ sym p in
      fed-line x s e z n k
      ∙ ap (λ (v : CountNumbers). fed (current_ended (stage v x.tables)) (drop (e + 1) s)) same
      ∙ ap (λ (v : CountStage). fed v (drop (e + 1) s)) (ended-as (stage c x.tables) y (sym q))
