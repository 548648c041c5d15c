-- Fed with all the bytes of a trace, byte by byte, and finished: what the definition by lines reports. The bytes of an unfinished line stand
-- in front of the lines of what follows; a byte joins them (`read_more`), a newline or the end makes them a line (`read-parsed`).
use Prim.Native.Nat.{ℕ, ◌+◌}
use mathlib.Core.Path.{◌≡◌, refl, sym, ap, ◌∙◌}
use mathlib.Core.Bool.{Bool, true, false, cond}
use mathlib.Core.List.{List, [], ◌∷◌, ◌++◌}
use native.Mathlib.Omega.{arith}
use lib.Dec.{eqb}
use borrow.Author.Tests.{ne_eqb}
use Rattle.protocol_types.specs.Refusals.{no_refusal}
use Rattle.protocol.specs.Tables.{Tables, fresh}
use Rattle.protocol.specs.Accounts.{fresh_account}
use Rattle.protocol.specs.Engines.{State}
use Rattle.protocol.specs.Runs.{opening}
use Rattle.trace_din.specs.Lines.{newline, ahead, lines_of, parsed}
use Rattle.trace_scan.specs.Automaton.{new_line, with_bytes}
use Rattle.trace_scan.proofs.Reading.{read-parsed, read_more, width_some}
use Rattle.trace_lines.specs.Trace.{trace_setup, interpreted, line_refusal, after_line, Ended, ended_at, traced, ended}
use Rattle.std.specs.Prelude.{Result}
use Rattle.protocol_types.specs.declared.Refusal.{Refusal}
use Rattle.protocol_types.specs.declared.Request.{Request}
use Rattle.trace_count.specs.Counting.{CountStage, stage, state_of, fresh_count, line_refused, going_on, line_counted, reported}
use Rattle.trace.specs.Feeding.{current_ended, extended, stepped, fed, closed, reporting, finished}
use Rattle.trace.proofs.Laws.{ended-as, counted-extended}
use Rattle.trace.proofs.Feeding.{refused-stays}

-- ---- the bytes p of an unfinished line, in front of the lines of what follows

abbrev joined : List ℕ → List (List ℕ) → List (List ℕ)
joined [] ls = ls
joined (b ∷ p) ls = ahead b (joined p ls)

joined-more : (p : List ℕ) (b : ℕ) (ls : List (List ℕ)) → joined (p ++ b ∷ []) ls ≡ joined p (ahead b ls)
joined-more [] b ls = refl
joined-more (a ∷ p) b ls = ap (ahead a) (joined-more p b ls)

joined_line : (p : List ℕ) (ls : List (List ℕ)) → joined p ([] ∷ ls) ≡ p ∷ ls
joined_line [] ls = refl
joined_line (b ∷ p) ls = ap (ahead b) (joined_line p ls)

joined-none : (b : ℕ) (p : List ℕ) → joined (b ∷ p) [] ≡ (b ∷ p) ∷ []
joined-none b [] = refl
joined-none b (a ∷ p) = ap (ahead b) (joined-none a p)

-- ---- a line

-- within line n, of which the bytes p have come
abbrev within : List ℕ → ℕ → State Tables → CountStage
within p n w = extended (going_on n w) p

line-ended : (p : List ℕ) (n : ℕ) (w : State Tables) → current_ended (within p n w) ≡ line_counted (going_on n w) (interpreted n (parsed p))
line-ended p n w = ended-as (within p n w) (parsed p) (read-parsed p) ∙ counted-extended (going_on n w) p (interpreted n (parsed p))

-- what a stage reports, with its tables
abbrev told : CountStage → Ended
told x = reporting (reported x.count) x.tables

-- a line that asks for y ends, after the stage x
module _ (x : CountStage) (y : Result Request Refusal) where
  abbrev refusal : ℕ
  refusal = line_refusal (state_of x) y

  -- the end of the input
  last_line : (e : Bool) → eqb refusal no_refusal ≡ e
      → told (line_counted x y) ≡ cond (eqb refusal no_refusal) (ended_at (after_line (state_of x) y) no_refusal 0) (ended_at (state_of x) refusal x.count.line_number)
  unfolding line_counted reported
  last_line true e = simp e
  last_line false e = simp e

  refused-finished : eqb refusal no_refusal ≡ false
      → finished (stage (line_refused refusal x.count) x.tables) ≡ ended_at (state_of x) refusal x.count.line_number
  unfolding finished closed reported
  refused-finished e = simp e

  -- more bytes
  more-lines : (bs : List ℕ)
      → ((v : State Tables) → finished (fed (going_on (x.count.line_number + 1) v) bs) ≡ traced v (x.count.line_number + 1) (lines_of bs))
      → (e : Bool) → eqb refusal no_refusal ≡ e
      → finished (fed (line_counted x y) bs)
      ≡ cond (eqb refusal no_refusal) (traced (after_line (state_of x) y) (x.count.line_number + 1) (lines_of bs)) (ended_at (state_of x) refusal x.count.line_number)
  unfolding line_counted
  more-lines bs ih true e = simp e (ih (after_line (state_of x) y))
  more-lines bs ih false e =
      simp e (ap finished (refused-stays (stage (line_refused refusal x.count) x.tables) bs e) ∙ refused-finished e)

-- within line n after the state w
module _ (n : ℕ) (w : State Tables) where
  -- ---- one byte within a line

  newline-byte : (p : List ℕ) (b : ℕ) → eqb b newline ≡ true → stepped (within p n w) b ≡ current_ended (within p n w)
  unfolding stepped
  newline-byte p b e = simp e

  line-byte : (p : List ℕ) (b : ℕ) → eqb b newline ≡ false → stepped (within p n w) b ≡ within (p ++ b ∷ []) n w
  unfolding stepped
  line-byte p b e = simp (e, read_more)

  -- ---- the end of the input

  empty-finished : finished (within [] n w) ≡ ended_at w no_refusal 0
  unfolding finished closed reported
  empty-finished = refl

  line-finished : (p : List ℕ) → eqb (with_bytes new_line p).width 0 ≡ false → finished (within p n w) ≡ told (current_ended (within p n w))
  unfolding finished closed
  line-finished p e = simp e

-- ---- all bytes

-- from within a line
abbrev Law : List ℕ → Type 0
Law bs = (p : List ℕ) (n : ℕ) (w : State Tables) → finished (fed (within p n w) bs) ≡ traced w n (joined p (lines_of bs))

whole-none : Law []
whole-none [] n w = empty-finished n w
whole-none (b ∷ p) n w =
    let y = interpreted n (parsed (b ∷ p)) in
    rw joined-none
    (line-finished n w (b ∷ p) (ne_eqb _ _ (λ (z : (with_bytes new_line (b ∷ p)).width ≡ 0). omega (arith, z, width_some new_line b p)))
    ∙ ap told (line-ended (b ∷ p) n w)
    ∙ last_line (going_on n w) y (eqb (line_refusal w y) no_refusal) refl)

whole-more : (b : ℕ) (bs : List ℕ) → Law bs → (e : Bool) → eqb b newline ≡ e → Law (b ∷ bs)
whole-more b bs ih true e p n w =
    let y = interpreted n (parsed p) in
    ap (λ (x : CountStage). finished (fed x bs)) (newline-byte n w p b e ∙ line-ended p n w)
    ∙ more-lines (going_on n w) y bs (ih [] (n + 1)) (eqb (line_refusal w y) no_refusal) refl
    ∙ ap (traced w n) (sym (ap (joined p) (simp e) ∙ joined_line p (lines_of bs)))
whole-more b bs ih false e p n w =
    ap (λ (x : CountStage). finished (fed x bs)) (line-byte n w p b e)
    ∙ ih (p ++ b ∷ []) n w
    ∙ ap (traced w n) (joined-more p b (lines_of bs) ∙ ap (joined p) (simp e))

whole : (bs : List ℕ) → Law bs
whole [] = whole-none
whole (b ∷ bs) = whole-more b bs (whole bs) (eqb b newline) refl

-- fed from the start, and finished: the report and the tables of the definition by lines
pub fed-ended : (bs : List ℕ) → finished (fed (stage fresh_count (fresh trace_setup)) bs) ≡ ended bs
unfolding ended
fed-ended bs = whole bs [] 1 (opening trace_setup fresh_account)
