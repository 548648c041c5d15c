-- A trace's totals are those of one run of its requests from fresh tables. Line by line the trace and the run go through the same
-- states: a line that 6 or 7 refuses ends the requests, and any other line is the next request, taken or refused by the run's own conditions.
use Prim.Native.Nat.{ℕ, ◌+◌}
use mathlib.Core.Path.{◌≡◌, refl, ap, ◌∙◌}
use mathlib.Core.Bool.{Bool, true, false, cond}
use mathlib.Core.List.{List, [], ◌∷◌, ◌++◌}
use lib.Dec.{eqb}
use lib.ListN.{length}
use borrow.Author.Tests.{eq-eqb}
use Rattle.protocol_types.specs.Lists.{tail}
use Rattle.protocol_types.specs.Refusals.{no_refusal, first_of}
use Rattle.protocol.specs.Tables.{Tables, fresh}
use Rattle.protocol.specs.Masks.{fresh_masked}
use Rattle.protocol_types.specs.Conditions.{request_refusal}
use Rattle.protocol.specs.Accounts.{fresh_account}
use Rattle.protocol.specs.Engines.{Outcome, run_from, run, State}
use Rattle.protocol.specs.Runs.{engine, masked_engine, opening, masked_outcome}
use Rattle.protocol_types.specs.declared.Request.{Request}
use Rattle.protocol.proofs.Masks.{fresh-run}
use Rattle.competitive.proofs.Fresh.{sound-fresh}
use Rattle.competitive.proofs.Lawful.{lawful, fresh-possible}
use Rattle.trace_din.specs.Lines.{lines_of, parsed}
use Rattle.trace_lines.specs.Trace.{trace_setup, interpreted, line_refusal, after_request, after_line, Ended, ended_at, traced, ended, report}
use Rattle.std.specs.Prelude.{Result, Ok, Err}
use Rattle.protocol_types.specs.declared.Refusal.{Refusal}
use Rattle.trace_lines.proofs.Laws.{trace-passes}
use Rattle.protocol_types.proofs.Refusals.{number-refuses}
use Rattle.trace_claims.specs.Requests.{form_refusal, line_requests, requests_from, trace_requests, form_refusal_from, form_refusal_of}
use Rattle.trace_claims.specs.Claims.{Covered}

-- ---- line by line

-- what a trace and a run of its requests have in common; x is the trace's refusal by 6 or 7
record Agrees (x : ℕ) (e : Ended) (o : Outcome Tables) : Type 0 where
  pub account : e.report.account ≡ o.account
  pub tables : e.tables ≡ o.tables
  pub refusal : e.report.refusal ≡ first_of o.answer.refusal x

-- the requests qs, from the state w on
abbrev on_from : State Tables → List Request → List ℕ → Outcome Tables
on_from w qs vs = run_from (engine trace_setup) w.tables w.account qs vs

-- the rest of a trace
abbrev Rest : List (List ℕ) → Type 0
Rest ls = (w : State Tables) (n : ℕ) (vs : List ℕ) → Agrees (form_refusal_from n ls) (traced w n ls) (on_from w (requests_from n ls) vs)

-- a request that is taken or refused
request-agrees : (w : State Tables) (n : ℕ) (q : Request) (ls : List (List ℕ)) (vs : List ℕ) → Rest ls
    → (c : Bool) → eqb (request_refusal trace_setup w.account.requests q) no_refusal ≡ c
    → Agrees (form_refusal_from (n + 1) ls)
    (cond (eqb (request_refusal trace_setup w.account.requests q) no_refusal) (traced (after_request w q) (n + 1) ls)
    (ended_at w (request_refusal trace_setup w.account.requests q) n))
    (on_from w (q ∷ requests_from (n + 1) ls) vs)
unfolding after_request
request-agrees w n q ls vs ih true e =
    let r = ih (after_request w q) (n + 1) (tail vs) in
    simp e (record { account = r.account; tables = r.tables; refusal = r.refusal })
request-agrees w n q ls vs ih false e = simp e (record { account = refl; tables = refl; refusal = simp e })

-- a line that is y
line-agrees : (w : State Tables) (n : ℕ) (y : Result Request Refusal) (ls : List (List ℕ)) (vs : List ℕ) → Rest ls
    → Agrees (first_of (form_refusal y) (form_refusal_from (n + 1) ls))
    (cond (eqb (line_refusal w y) no_refusal) (traced (after_line w y) (n + 1) ls) (ended_at w (line_refusal w y) n))
    (on_from w (cond (eqb (form_refusal y) no_refusal) (line_requests y ++ requests_from (n + 1) ls) []) vs)
line-agrees w n (Err r) ls vs ih = rw (number-refuses r) (record { account = refl; tables = refl; refusal = refl })
line-agrees w n (Ok q) ls vs ih = request-agrees w n q ls vs ih (eqb (request_refusal trace_setup w.account.requests q) no_refusal) refl

agrees : (ls : List (List ℕ)) → Rest ls
agrees [] = λ w n vs. record { account = refl; tables = refl; refusal = refl }
agrees (l ∷ ls) = λ w n vs. line-agrees w n (interpreted n (parsed l)) ls vs (agrees ls)

-- ---- one run

-- from fresh tables and a fresh account nothing is refused before the first request
rules-go : (qs : List Request) (vs : List ℕ) → length vs ≡ length qs
    → run (engine trace_setup) (fresh trace_setup) fresh_account qs vs ≡ on_from (opening trace_setup fresh_account) qs vs
unfolding run
rules-go qs vs e =
    let begins = (lawful trace_setup trace-passes).checked (fresh trace_setup) fresh_account (length qs) vs (sound-fresh trace_setup) (fresh-possible trace_setup) in
    simp (begins, eq-eqb (length vs) (length qs) e)

-- with fresh masks the same
run-goes : (qs : List Request) (vs : List ℕ) → length vs ≡ length qs
    → run (masked_engine trace_setup) (fresh_masked trace_setup) fresh_account qs vs ≡ masked_outcome trace_setup (on_from (opening trace_setup fresh_account) qs vs)
run-goes qs vs e = fresh-run trace_setup fresh_account qs vs ∙ ap (masked_outcome trace_setup) (rules-go qs vs e)

pub covered : (bs vs : List ℕ) → length vs ≡ length (trace_requests bs) → Covered bs vs
unfolding report ended trace_requests form_refusal_of
covered bs vs e =
    let r = agrees (lines_of bs) (opening trace_setup fresh_account) 1 vs in
    let z = run-goes (trace_requests bs) vs e in
    record { account = rw z r.account; tables = rw z r.tables; refusal = rw z r.refusal }
