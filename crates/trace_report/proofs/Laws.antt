-- Reads one after another: the count is that of all their bytes (`fed-append`), so that it can go on (`countable-fed`), and its report is that of the
-- bytes (`fed-ended`).
use Prim.Native.Nat.{ℕ, ◌+◌, ◌-◌, ◌^◌}
use mathlib.Core.Path.{◌≡◌, refl, sym, ap, ◌∙◌, subst}
use mathlib.Core.Bool.{Bool, true, false, cond, true≢false}
use mathlib.Core.List.{List, [], ◌∷◌}
use native.Mathlib.Omega.{arith}
use lib.Dec.{eqb}
use lib.ListN.{length, take}
use borrow.Author.Tests.{eq-eqb, ne_eqb, eqb-true}
use Rattle.std.specs.Prelude.{Option, Some, unwrap_or, is_none, Result, is_err}
use Rattle.protocol_types.specs.Refusals.{no_refusal}
use Rattle.protocol.specs.Tables.{Tables, fresh}
use Rattle.trace_lines.specs.Trace.{trace_setup, Ended, report_numbers, report}
use Rattle.trace_lines.specs.declared.Report.{Report}
use Rattle.trace_count.specs.Counting.{CountNumbers, CountStage, stage, fresh_count, Countable}
use Rattle.trace.specs.Feeding.{fed, reporting, finished}
use Rattle.trace.proofs.Laws.{first-stage, countable-first}
use Rattle.trace.proofs.Feeding.{fed-append, countable-fed}
use Rattle.trace.proofs.Whole.{fed-ended}
use Rattle.trace_report.specs.declared.ReadFailed.{ReadFailed}
use Rattle.trace_report.specs.Reading.{Read, read_of, is_last, brought, Reading, counted, after_read, Took, after_reads, all_brought, InTurn, Reached, so_far, Reported}

-- ---- one read

-- it answered got, which is o
module _ (x : CountStage) (buffer : List ℕ) (got o : Option ℕ) (h : got ≡ o) where
  -- it brought no byte
  pub read-none : unwrap_or o 0 ≡ 0 → record { going = false; failed = is_none o; stage = x } ≡ after_read x (read_of got buffer)
  unfolding after_read
  read-none e = subst (λ (k : Option ℕ). record { going = false; failed = is_none o; stage = x } ≡ after_read x (read_of k buffer)) (sym h) (simp (eq-eqb (unwrap_or o 0) 0 e))

  -- it brought bytes, which led to y
  pub read-bytes : (y : CountStage) (b : Bool) → (unwrap_or o 0 ≡ 0 → ⊥) → y ≡ fed x (take (unwrap_or o 0) buffer) → eqb y.count.refusal no_refusal ≡ b
      → record { going = b; failed = false; stage = y } ≡ after_read x (read_of got buffer)
  unfolding after_read
  read-bytes y b some e f =
      ap (λ (c : Bool). record { going = c; failed = false; stage = y }) (sym f)
      ∙ subst (λ (k : Option ℕ). counted y ≡ after_read x (read_of k buffer)) (sym h) (simp (ne_eqb (unwrap_or o 0) 0 some, e))

-- ---- the count after reads is that of their bytes

count_of : (x : CountStage) (f : Bool) (n : ℕ) (l : List ℕ) (c : Bool) → eqb n 0 ≡ c → (cond (eqb n 0) (record { going = false; failed = f; stage = x }) (counted (fed x (take n l)))).stage ≡ fed x (take n l)
count_of x f n l true e = rw (eqb-true n 0 e) refl
count_of x f n l false e = simp e

after_read_lem : (x : CountStage) (d : Read) → (after_read x d).stage ≡ fed x (brought d)
unfolding after_read
after_read_lem x d = count_of x (is_none d.got) (unwrap_or d.got 0) d.buffer (is_last d) refl

after-reads : (ds : List Read) → (after_reads ds).stage ≡ fed (stage fresh_count (fresh trace_setup)) (all_brought ds)
after-reads [] = refl
after-reads (d ∷ ds) = after_read_lem (after_reads ds).stage d ∙ ap (λ (z : CountStage). fed z (brought d)) (after-reads ds) ∙ sym (fed-append _ (all_brought ds) (brought d))

-- ---- between two reads

-- n reads came to x, and left more to read
pub record Going (x : CountStage) (n : ℕ) : Type 0 where
  pub reads : List Read
  pub in-turn : InTurn reads
  pub is : after_reads reads ≡ record { going = true; failed = false; stage = x }
  pub turns : length reads ≡ n

pub going_start : (c : CountNumbers) (t : Tables) → c ≡ fresh_count → t ≡ fresh trace_setup → Going (stage c t) 0
going_start c t p q = record {
  reads = [];
  in-turn = tt;
  is = ap (λ (z : CountStage). record { going = true; failed = false; stage = z }) (sym (first-stage c t p q));
  turns = refl;
}

countable-reads : (x : CountStage) (ds : List Read) → x ≡ (after_reads ds).stage → Countable x
countable-reads x ds e = subst Countable (sym (e ∙ after-reads ds)) (countable-fed _ (all_brought ds) (countable-first fresh_count (fresh trace_setup) refl refl))

pub countable-going : (x : CountStage) (n : ℕ) → Going x n → Countable x
countable-going x n g = countable-reads x g.reads (sym (ap (λ (z : Reading). z.stage) g.is))

pub countable-reached : (x : Reading) → Reached x → Countable x.stage
countable-reached x r = countable-reads x.stage r.reads (ap (λ (z : Reading). z.stage) r.is)

-- ---- one read more

module _ (x : CountStage) (n : ℕ) (g : Going x n) (buffer : List ℕ) (y : Reading) (t : Took x buffer y) where
  abbrev ds : List Read
  ds = read_of t.got buffer ∷ g.reads

  one_more : y ≡ after_reads ds
  one_more = t.is ∙ sym (ap (λ (z : Reading). after_read z.stage (read_of t.got buffer)) g.is)

  turned : InTurn ds
  turned = (ap (λ (z : Reading). z.going) g.is, g.in-turn)

  pub going_more : (z : CountStage) → y ≡ record { going = true; failed = false; stage = z } → Going z (n + 1)
  going_more z e = record { reads = ds; in-turn = turned; is = sym one_more ∙ e; turns = omega (arith, g.turns) }

  pub reached-end : y.going ≡ false → Reached y
  reached-end stop = record {
    reads = ds;
    all_read = record { in-turn = turned; ended = λ go. absurd (true≢false (sym (ap (λ (z : Reading). z.going) one_more ∙ go) ∙ stop)) };
    is = one_more;
  }

-- all turns are made
pub reached-last : (x : CountStage) (n : ℕ) → Going x n → n ≡ 2 ^ 64 - 1 → Reached (record { going = true; failed = false; stage = x })
reached-last x n g e = record { reads = g.reads; all_read = record { in-turn = g.in-turn; ended = λ _. g.turns ∙ e }; is = sym g.is }

-- ---- the report

pub reached-reported : (x : Reading) (y : CountStage) (t : Tables) (a : Result Report (ReadFailed Report)) → Reached x
    → is_err a ≡ x.failed → y ≡ x.stage → reporting (report_numbers (so_far a)) t ≡ finished y → Reported a
unfolding report
reached-reported x y t a r f e p = record {
  reads = r.reads;
  all_read = r.all_read;
  failure = f ∙ ap (λ (z : Reading). z.failed) r.is;
  is = ap (λ (z : Ended). z.report) (p ∙ ap finished (e ∙ ap (λ (z : Reading). z.stage) r.is ∙ after-reads r.reads) ∙ fed-ended (all_brought r.reads));
}
