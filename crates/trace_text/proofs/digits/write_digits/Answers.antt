use native.Mathlib.Omega.{arith}
use mathlib.Core.Path.{◌≡◌, refl, sym, ap, ◌∙◌}
use mathlib.Core.List.{List, ◌∷◌, ◌++◌, append-nil}
use Prim.Native.Nat.{ℕ, zero, suc, ◌-◌, ◌/◌, ◌%◌, ◌≤◌, ◌<◌}
use lib.ListN.{length, drop, set, length-set}
use lib.Seq.{drop-length, append_snoc}
use native.Mathlib.Nat.{le_refl, not-suc-le-zero}
use native.Mathlib.Numerals.{sub-one, add-one}
use Rattle.std.proofs.lemmas.List.{drop-set}
use Rattle.trace_text.specs.Digits.{hex_digit_ascii, last_digits}
use Rattle.trace_text.proofs.digits.write_digits.Goals as goal

-- a turn moves the last of the digits that are still to write to the front of those that are written
digits_step : (b i rest g : ℕ) (out : List ℕ) → 0 < i → i ≤ length out → g ≡ hex_digit_ascii (rest % b)
    → last_digits b (i - 1) (rest / b) ++ drop (i - 1) (set out (i - 1) g) ≡ last_digits b i rest ++ drop i out
digits_step b zero rest g out some h e = absurd (not-suc-le-zero some)
digits_step b (suc j) rest g out some h e =
    let todo = last_digits b j (rest / b) in
    let done = drop (suc j) out in
    ap (λ (m : ℕ). last_digits b m (rest / b) ++ drop m (set out m g)) (sub-one (suc j))
    ∙ ap (λ (l : List ℕ). todo ++ l) (drop-set out j g h ∙ ap (λ (m : ℕ). g ∷ drop m out) (add-one j))
    ∙ ap (λ (x : ℕ). todo ++ x ∷ done) e
    ∙ sym (append_snoc todo (hex_digit_ascii (rest % b)) done)

pub loop-i-init : goal.loop-i-init
loop-i-init c =
    let out = c.args.out.now in
    let all = last_digits 10 (length out) c.args.n in
    (refl, le_refl (length out), ap (λ (l : List ℕ). all ++ l) (drop-length out) ∙ append-nil all)

pub loop-i-preserved : goal.loop-i-preserved
loop-i-preserved c =
    let l = c.loop-i in (
      simp length-set l.invariant.0,
      simp length-set (omega arith),
      simp length-set (digits_step 10 l.i l.rest c.digit_to_ascii.result l.out c.loop-i-test.true l.invariant.1 c.digit_to_ascii.ensures ∙ l.invariant.2),
    )
