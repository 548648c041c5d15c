-- `lines_of` splits at each newline and nowhere else: lines without newlines, written with one behind each and a last line that lacks it, come back.
use Prim.Native.Nat.{ℕ}
use mathlib.Core.Path.{◌≡◌, refl, ap, ◌∙◌}
use mathlib.Core.Bool.{false}
use mathlib.Core.List.{List, [], ◌∷◌, ◌++◌}
use lib.Dec.{eqb}
use Rattle.trace_din.specs.Lines.{newline, ahead, lines_of}

-- bytes without a newline
abbrev pub Text : List ℕ → Type 0
Text [] = Unit {0}
Text (b ∷ l) = (eqb b newline ≡ false) × Text l

abbrev pub AllText : List (List ℕ) → Type 0
AllText [] = Unit {0}
AllText (l ∷ ls) = Text l × AllText ls

-- each line with its newline, then the last one without
abbrev pub written : List (List ℕ) → List ℕ → List ℕ
written [] last = last
written (l ∷ ls) last = l ++ (newline ∷ written ls last)

-- input that ends right after a newline has no further line
abbrev pub with_last : List (List ℕ) → List ℕ → List (List ℕ)
with_last [] [] = []
with_last [] (b ∷ l) = (b ∷ l) ∷ []
with_last (l ∷ ls) last = l ∷ with_last ls last

split-line : (l rest : List ℕ) → Text l → lines_of (l ++ (newline ∷ rest)) ≡ l ∷ lines_of rest
split-line [] rest t = refl
split-line (b ∷ l) rest t = simp t.0 (ap (ahead b) (split-line l rest t.1))

split-last : (l : List ℕ) → Text l → lines_of l ≡ with_last [] l
split-last [] t = refl
split-last (b ∷ l) t = simp t.0 (ap (ahead b) (split-last l t.1) ∙ first l)
  where
    first : (m : List ℕ) → ahead b (with_last [] m) ≡ (b ∷ m) ∷ []
    first [] = refl
    first (a ∷ m) = refl

pub splits : (ls : List (List ℕ)) (last : List ℕ) → AllText ls → Text last → lines_of (written ls last) ≡ with_last ls last
splits [] last ts t = split-last last t
splits (l ∷ ls) last ts t = split-line l (written ls last) ts.0 ∙ ap (l ∷◌) (splits ls last ts.1 t)
