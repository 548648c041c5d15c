-- Small facts of a trace as it is fed: a count goes on (`countable-counted`), the end of the input, and the start (the cases of starting).
use Prim.Native.Nat.{ℕ}
use mathlib.Core.Path.{◌≡◌, refl, sym, ap, ◌∙◌}
use mathlib.Core.Bool.{Bool, true, false, and-true}
use mathlib.Core.List.{List}
use native.Mathlib.Omega.{arith}
use lib.Dec.{eqb}
use borrow.Author.Tests.{eq-eqb, ne_eqb}
use Rattle.protocol_types.specs.Lists.{zeros}
use Rattle.protocol_types.specs.Refusals.{no_refusal}
use Rattle.protocol_types.specs.Board.{slots}
use Rattle.protocol.specs.Tables.{Tables, sized, fresh}
use Rattle.protocol.specs.Masks.{Masked, masked, masks_of, with_masks, fresh_masked, sized_masked}
use Rattle.protocol.specs.Accounts.{fresh_account}
use Rattle.protocol.specs.Runs.{start_refusal, started}
use Rattle.protocol_types.proofs.Laws.{choice, at-zeros}
use Rattle.protocol.proofs.Lengths.{sized_fresh}
use Rattle.protocol.proofs.Masks.{fresh-masked}
use Rattle.protocol.proofs.Accounts.{spent-none}
use Rattle.engine.specs.Usable.{Usable}
use Rattle.engine_tables.proofs.Tests.{start-unsized, start-filled}
use Rattle.trace_din.specs.Lines.{newline}
use Rattle.trace_din.specs.declared.Parsed.{Parsed}
use Rattle.trace_scan.specs.Automaton.{scan_parsed}
use Rattle.trace_lines.specs.Trace.{trace_setup, ended, ended_on}
use Rattle.trace_lines.specs.declared.ReportNumbers.{ReportNumbers}
use Rattle.std.specs.Prelude.{Option, Result}
use Rattle.protocol_types.specs.declared.Refusal.{Refusal}
use Rattle.protocol_types.specs.declared.Request.{Request}
use Rattle.trace_lines.proofs.Laws.{trace-passes}
use Rattle.trace_count.specs.Counting.{CountNumbers, CountStage, stage, fresh_count, lengthened, line_counted, line_ended, reported, Countable}
use Rattle.trace_count.proofs.Laws.{countable-counted}
use Rattle.trace.specs.Feeding.{current_ended, extended, stepped, closed, reporting, finished}

-- ---- a count goes on

pub countable-ended : (x : CountStage) → Countable x → Countable (current_ended x)
unfolding current_ended
countable-ended x r = countable-counted x _ r

pub countable-stepped : (x : CountStage) (b : ℕ) → Countable x → Countable (stepped x b)
unfolding stepped
countable-stepped x b r =
    choice Countable (eqb x.count.refusal no_refusal)
    (λ e. choice Countable (eqb b newline) (λ e. countable-ended x r) (λ e. record { account = r.account; line-number = r.line-number; tables = r.tables })) (λ e. r)

-- with more bytes of the current line
pub countable-lengthened : (x : CountStage) (c : CountNumbers) (l : List ℕ) → c ≡ lengthened x.count l → Countable x → Countable (stage c x.tables)
countable-lengthened x c l e r = rw e (record { account = r.account; line-number = r.line-number; tables = r.tables })

-- ---- a line ends

pub ended-as : (x : CountStage) (y : Option Parsed) → scan_parsed x.count.line.scan ≡ y → current_ended x ≡ line_ended x y
unfolding current_ended
ended-as x y e = ap (line_ended x) e

-- what it asks for tells all of it
pub counted-extended : (x : CountStage) (l : List ℕ) (y : Result Request Refusal) → line_counted (extended x l) y ≡ line_counted x y
unfolding line_counted
counted-extended x l y = refl

-- ---- the end of the input: after a refusal, between two lines, and within a line

pub finished-refused : (x : CountStage) (r : ReportNumbers) → (x.count.refusal ≡ no_refusal → ⊥) → r ≡ reported x.count → reporting r x.tables ≡ finished x
unfolding finished closed
finished-refused x r d e = simp (e, ne_eqb _ _ d)

pub finished-between : (x : CountStage) (r : ReportNumbers) → x.count.refusal ≡ no_refusal → x.count.line.width ≡ 0 → r ≡ reported x.count
    → reporting r x.tables ≡ finished x
unfolding finished closed
finished-between x r d z e = simp (e, eq-eqb _ _ d, eq-eqb _ _ z)

pub finished-within : (x : CountStage) (r : ReportNumbers) (y : CountStage) → x.count.refusal ≡ no_refusal → (x.count.line.width ≡ 0 → ⊥) → y ≡ current_ended x
    → r ≡ reported y.count → reporting r y.tables ≡ finished x
unfolding finished closed
finished-within x r y d z p e = simp (e, eq-eqb _ _ d, ne_eqb _ _ z, p)

-- ---- the start

pub usable-fresh : Usable trace_setup (fresh trace_setup)
unfolding fresh trace_setup
usable-fresh = record {
  lengths = sized_fresh trace_setup;
  named = λ k. omega (arith, at-zeros (slots trace_setup) k);
  proper = λ k h p. absurd (omega (arith, at-zeros (slots trace_setup) k, p));
}

countable-fresh : Countable (stage fresh_count (fresh trace_setup))
countable-fresh = record { account = spent-none trace_setup; line-number = omega arith; tables = usable-fresh }

-- the first stage of a trace on fresh tables
module _ (c : CountNumbers) (t : Tables) (p : c ≡ fresh_count) (q : t ≡ fresh trace_setup) where
  pub first-stage : stage c t ≡ stage fresh_count (fresh trace_setup)
  first-stage = simp (p, q)

  pub countable-first : Countable (stage c t)
  countable-first = rw first-stage countable-fresh

-- what starting leaves: fresh tables with true masks
pub fresh-with-masks : (x : Masked) → x ≡ fresh_masked trace_setup → (x.tables ≡ fresh trace_setup) × (x.masks ≡ masks_of trace_setup x.tables)
fresh-with-masks x e =
    let f : x ≡ with_masks trace_setup (fresh trace_setup) = e ∙ fresh-masked trace_setup in
    (ap (λ (y : Masked). y.tables) f, rw f refl)

-- the tables t, with masks that are all 0
abbrev zero_masked : Tables → Masked
zero_masked t = masked t (zeros trace_setup.blocks)

-- they are started: the refusal is r, and u is left
module _ (t : Tables) (r : ℕ) (u : Masked) (e : r ≡ start_refusal trace_setup (zero_masked t)) (f : u ≡ started trace_setup (zero_masked t)) where
  sized-tables : sized_masked trace_setup (zero_masked t) ≡ sized trace_setup t
  unfolding sized_masked trace_setup
  sized-tables = and-true (sized trace_setup t)

  -- tables that are not started are of the wrong lengths
  pub not-started : (bs : List ℕ) → (r ≡ no_refusal → ⊥) → reporting (record { account = fresh_account; refusal = r; line = 0 }) u.tables ≡ ended_on t bs
  unfolding ended_on
  not-started bs d = go (sized trace_setup t) refl
    where
      go : (c : Bool) → sized trace_setup t ≡ c → reporting (record { account = fresh_account; refusal = r; line = 0 }) u.tables ≡ ended_on t bs
      go true z = absurd (d (e ∙ sym (start-filled trace_setup (zero_masked t) trace-passes (sized-tables ∙ z)).0))
      go false z =
          let w = start-unsized trace_setup (zero_masked t) trace-passes (sized-tables ∙ z) in
          simp (e ∙ sym w.0, f ∙ sym w.1, z)

  -- tables that are started
  pub now-started : r ≡ no_refusal → (sized trace_setup t ≡ true) × (u ≡ fresh_masked trace_setup)
  now-started d = go (sized trace_setup t) refl
    where
      go : (c : Bool) → sized trace_setup t ≡ c → (sized trace_setup t ≡ true) × (u ≡ fresh_masked trace_setup)
      go true z = (z, f ∙ sym (start-filled trace_setup (zero_masked t) trace-passes (sized-tables ∙ z)).1)
      go false z = absurd (omega (arith, (start-unsized trace_setup (zero_masked t) trace-passes (sized-tables ∙ z)).0 ∙ sym e ∙ d))

pub ended-started : (t : Tables) (bs : List ℕ) → sized trace_setup t ≡ true → ended_on t bs ≡ ended bs
unfolding ended_on
ended-started t bs e = simp e
