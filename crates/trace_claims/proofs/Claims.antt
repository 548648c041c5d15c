-- Demand 3 covers every report, kind by kind: its account is that of the run of the trace's requests (`covered`), and what is claimed of every list of
-- runs (`demands`) is claimed of that one run.
use mathlib.Core.Path.{◌≡◌, ap, ◌∙◌}
use mathlib.Core.List.{List, [], ◌∷◌}
use Prim.Native.Nat.{ℕ}
use native.Mathlib.Omega.{arith}
use lib.ListN.{length}
use Rattle.protocol.specs.Tables.{fresh}
use Rattle.protocol.specs.Accounts.{fresh_account, cycles, bill_of}
use Rattle.protocol.specs.Engines.{spent}
use Rattle.protocol.specs.Runs.{engine}
use Rattle.protocol.proofs.Accounts.{bill-path, is-possible}
use Rattle.competitive.specs.Claims.{SplitClaim}
use Rattle.competitive.proofs.Claim.{twice}
use Rattle.competitive.proofs.Demands.{demands}
use Rattle.competitive.proofs.Lawful.{fresh-possible}
use Rattle.trace_lines.specs.Trace.{trace_setup, report}
use Rattle.trace_lines.proofs.Laws.{trace-passes}
use Rattle.trace_claims.specs.Requests.{trace_requests}
use Rattle.trace_claims.specs.Claims.{trace_run, trace_taken, ReportClaim}
use Rattle.trace_claims.proofs.Run.{covered}

trace-claim : (bs vs : List ℕ) → SplitClaim trace_setup fresh_account (trace_run bs vs ∷ [])
trace-claim bs vs =
    (demands trace_setup trace-passes).demand3.split fresh_account (is-possible trace_setup fresh_account (fresh-possible trace_setup)) (trace_run bs vs ∷ [])

pub report-claimed : (bs vs : List ℕ) → length vs ≡ length (trace_requests bs) → ReportClaim bs vs
report-claimed bs vs e =
    let c = trace-claim bs vs in
    let a = (covered bs vs e).account ∙ c.grows in
    let b : bill_of (report bs).account ≡ spent (engine trace_setup) (fresh trace_setup) (trace_taken bs vs) =
    rw a (bill-path (omega arith) (omega arith) (omega arith)) in
    record {
      counts = rw a (omega arith);
      bill = b;
      splits = λ es l. rw b (c.splits es l);
      spends = ap cycles b;
      halves = λ es l. let h = twice _ _ (c.splits es l) in rw (ap cycles b) (omega (arith, h));
    }
