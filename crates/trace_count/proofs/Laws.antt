-- What a line makes of a count: the count can go on after it, and what each function returns is `line_counted`. From `request-passed` (a
-- request that is not refused is valid, and there is room for it), `bill-spent` (what it can cost) and `usable-served` (what it leaves).
use Prim.Native.Nat.{◌+◌}
use mathlib.Core.Path.{◌≡◌, refl, ap, ◌∙◌}
use mathlib.Core.Bool.{true, false}
use native.Mathlib.Omega.{arith}
use lib.Dec.{eqb}
use borrow.Author.Tests.{eqb-true}
use Rattle.std.specs.Prelude.{Option, Some, None, Result, Ok, Err, is_some, MatchOption, IsSomeAnd}
use Rattle.protocol_types.specs.Refusals.{no_refusal, number}
use Rattle.protocol_types.specs.declared.Refusal.{Refusal}
use Rattle.protocol.specs.Tables.{Tables}
use Rattle.protocol_types.specs.Conditions.{request_refusal}
use Rattle.protocol.specs.Requests.{served, bill}
use Rattle.protocol.specs.Accounts.{entered, bill_of}
use Rattle.protocol_types.specs.declared.Request.{Request}
use Rattle.protocol_types.specs.declared.Bill.{Bill}
use Rattle.protocol_types.specs.declared.Account.{Account}
use Rattle.protocol_types.proofs.Laws.{choice}
use Rattle.protocol_types.proofs.Refusals.{number-refuses, some-number, number-is}
use Rattle.protocol.proofs.Accounts.{spent-plus}
use Rattle.protocol_types.proofs.Conditions.{request-passed}
use Rattle.protocol.proofs.Requests.{bill-spent}
use Rattle.engine.proofs.Usable.{usable-served}
use Rattle.trace_scan.specs.Automaton.{new_line}
use Rattle.trace_scan.specs.declared.Line.{Line}
use Rattle.trace_lines.specs.Trace.{trace_setup, line_refusal, after_request, after_line, report_numbers}
use Rattle.trace_lines.specs.declared.RefusedLine.{RefusedLine}
use Rattle.trace_lines.proofs.Laws.{trace-fits}
use Rattle.trace_count.specs.Counting.{CountNumbers, CountStage, stage, count_stage, count_numbers, refusal_or_none, state_of, line_refused, going_on, line_counted, reported, Countable, AtStart}
use Rattle.trace_count.specs.declared.Count.{Count}

-- ---- a count can go on

-- after a line that is not refused
countable-line : (x : CountStage) (y : Result Request Refusal) → Countable x → line_refusal (state_of x) y ≡ no_refusal
    → Countable (going_on (x.count.line_number + 1) (after_line (state_of x) y))
unfolding after_request
countable-line x (Err f) r e = absurd (some-number f e)
countable-line x (Ok q) r e =
    let a = x.count.account in
    let c = bill trace_setup x.tables q in
    record {
      account = spent-plus trace_setup a.requests 1 (bill_of a) c r.account (bill-spent trace_setup trace-fits x.tables q);
      line-number = omega (arith, r.line-number);
      tables = usable-served trace_setup trace-fits x.tables q (request-passed trace_setup a.requests q e).0 r.tables;
    }

pub countable-counted : (x : CountStage) (y : Result Request Refusal) → Countable x → Countable (line_counted x y)
unfolding line_counted
countable-counted x y r =
    choice Countable (eqb (line_refusal (state_of x) y) no_refusal) (λ e. countable-line x y r (eqb-true _ _ e))
    (λ e. record { account = r.account; line-number = r.line-number; tables = r.tables })

counted-line : (x : CountStage) (y : Result Request Refusal) → (line_counted x y).count.line ≡ new_line
unfolding line_counted
counted-line x y = choice (λ (z : CountStage). z.count.line ≡ new_line) (eqb (line_refusal (state_of x) y) no_refusal) (λ e. refl) (λ e. refl)

-- a stage z that code reached by a line
module _ (x : CountStage) (y : Result Request Refusal) (z : CountStage) (e : z ≡ line_counted x y) where
  pub countable-after : Countable x → Countable z
  countable-after r = rw e (countable-counted x y r)

  pub counted_start : z.count.refusal ≡ no_refusal → AtStart z.count
  counted_start n = record { line = ap (λ (v : CountStage). v.count.line) e ∙ counted-line x y; refusal = n }

-- ---- what each function returns

-- a line that is refused
pub counted-refused : (x : CountStage) (y : Result Request Refusal) (r : Refusal) (c : Count) → count_numbers c ≡ line_refused (number r) x.count → number r ≡ line_refusal (state_of x) y
    → count_stage c x.tables ≡ line_counted x y
unfolding line_counted
counted-refused x y r c p e =
    let f : eqb (line_refusal (state_of x) y) no_refusal ≡ false = number-is r _ e in
    simp (p, e, f)

-- a request that is taken
pub counted-taken : (x : CountStage) (q : Request) (l : Line) → l ≡ new_line
    → (d : Bill) → d ≡ bill trace_setup x.tables q
    → (b : Account) → b ≡ entered x.count.account 1 d
    → (t : Tables) → t ≡ served trace_setup x.tables q
    → request_refusal trace_setup x.count.account.requests q ≡ no_refusal
    → stage (record { line = l; line_number = x.count.line_number + 1; account = b; refusal = no_refusal }) t ≡ line_counted x (Ok q)
unfolding line_counted after_request
counted-taken x q l p d h b f t g e = simp (p, f, h, g, e)

-- what is reported of a count; o is its refused line, if it has one
module _ (c : CountNumbers) (Q : Refusal → RefusedLine → Type 0) (current : (x : Refusal) (y : RefusedLine) → Q x y → y ≡ record { refusal = x; line = c.line_number }) where
  some-reported : (r : Refusal) (o : Option RefusedLine) → c.refusal ≡ number r → IsSomeAnd o (Q r) → report_numbers (record { account = c.account; refused = o }) ≡ reported c
  unfolding reported
  some-reported r None e h = absurd h
  some-reported r (Some y) e h = simp (e, current r y h, number-refuses r)

  pub reported-of : (r : Option Refusal) (o : Option RefusedLine) → c.refusal ≡ refusal_or_none r → MatchOption r (o ≡ None) (λ x. IsSomeAnd o (Q x))
      → report_numbers (record { account = c.account; refused = o }) ≡ reported c
  unfolding reported
  reported-of None o e h = simp (e, h)
  reported-of (Some r) o e h = some-reported r o e h

-- ---- whether a count has ended

pub some_refuses : (o : Option Refusal) → is_some o ≡ true → refusal_or_none o ≡ no_refusal → ⊥
some_refuses None h = absurd cc
some_refuses (Some r) h = some-number r

pub none_passes : (o : Option Refusal) → is_some o ≡ false → refusal_or_none o ≡ no_refusal
none_passes None h = refl
none_passes (Some r) h = absurd cc
