-- What holds of the report of every trace. proofs/Claims proves it.
use Rattle.std.specs.Prelude.{ℕ, ◌*◌, ◌≤◌, ◌≡◌, List, [], ◌∷◌, length}
use Rattle.protocol_types.specs.Refusals.{first_of}
use Rattle.protocol.specs.Tables.{fresh}
use Rattle.protocol.specs.Masks.{Masked, fresh_masked}
use Rattle.protocol.specs.Accounts.{fresh_account, cycles, cycles_of, bill_of}
use Rattle.protocol.specs.Engines.{Outcome, run, Run, taken_all, spent}
use Rattle.protocol.specs.Runs.{engine, masked_engine}
use Rattle.protocol.specs.Rival.{no_copies, Legal, costs}
use Rattle.competitive.specs.Claims.{SplitBill}
use Rattle.protocol_types.specs.declared.Request.{Request}
use Rattle.protocol_types.specs.declared.Entry.{Entry}
use Rattle.trace_lines.specs.Trace.{trace_setup, ended, report}
use Rattle.trace_claims.specs.Requests.{trace_requests, form_refusal_of}

-- ---- one run of the trace's requests, with a list of values lent to it

abbrev pub trace_run : List ℕ → List ℕ → Run Request
trace_run bs vs = record { requests = trace_requests bs; values = vs }

-- from fresh tables and masks and a fresh account
abbrev pub trace_outcome : List ℕ → List ℕ → Outcome Masked
trace_outcome bs vs = run (masked_engine trace_setup) (fresh_masked trace_setup) fresh_account (trace_requests bs) vs

-- a trace is lent no masks: its report's account and refusal are those of that run all the same, or the refusal is the 6 or 7 that ends the requests
pub record Covered (bs vs : List ℕ) : Type 0 where
  pub account : (report bs).account ≡ (trace_outcome bs vs).account
  pub tables : (ended bs).tables ≡ (trace_outcome bs vs).tables.tables
  pub refusal : (report bs).refusal ≡ first_of (trace_outcome bs vs).answer.refusal (form_refusal_of bs)

-- ---- demand 3

-- the requests that the run takes
abbrev pub trace_taken : List ℕ → List ℕ → List Request
trace_taken bs vs = taken_all (engine trace_setup) 0 (trace_run bs vs ∷ [])

pub record ReportClaim (bs vs : List ℕ) : Type 0 where
  -- the report's requests are those taken
  pub counts : (report bs).account.requests ≡ length (trace_taken bs vs)
  -- its fetch, write-back and update cycles are, each, what the rules charge of that kind for them
  pub bill : bill_of (report bs).account ≡ spent (engine trace_setup) (fresh trace_setup) (trace_taken bs vs)
  -- and are bounded for every legal schedule (document 02, P4)
  pub splits : (es : List Entry) → Legal trace_setup (no_copies trace_setup) (trace_taken bs vs) es
      → SplitBill (bill_of (report bs).account) (costs trace_setup (no_copies trace_setup) (trace_taken bs vs) es)
  -- together they are what the rules charge
  pub spends : cycles_of (report bs).account ≡ cycles (spent (engine trace_setup) (fresh trace_setup) (trace_taken bs vs))
  -- twice the cost of every legal schedule is at least that
  pub halves : (es : List Entry) → Legal trace_setup (no_copies trace_setup) (trace_taken bs vs) es
      → cycles_of (report bs).account ≤ 2 * cycles (costs trace_setup (no_copies trace_setup) (trace_taken bs vs) es)
