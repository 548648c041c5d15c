-- The engine is lawful: a request keeps tables sound and costs no more than it can, and a run on sound tables and a possible account is
-- refused by 2 alone. So what protocol's Engines proves of any lawful engine holds of this one.
use Prim.Native.Nat.{ℕ}
use mathlib.Core.Path.{◌≡◌, refl}
use mathlib.Core.Bool.{cond}
use native.Mathlib.Omega.{arith}
use lib.Dec.{ltb}
use Rattle.protocol_types.specs.Refusals.{no_refusal, account_full}
use Rattle.protocol_types.specs.Board.{setup_refusal}
use Rattle.protocol.specs.Soundness.{Sound}
use Rattle.protocol_types.specs.Conditions.{Valid, request_limit, request_refusal}
use Rattle.protocol.specs.Accounts.{fresh_account}
use Rattle.protocol.specs.Runs.{run_refusal, engine}
use Rattle.protocol_types.specs.declared.Setup.{Setup}
use Rattle.protocol_types.specs.declared.Request.{Request}
use Rattle.protocol_types.proofs.Laws.{choice}
use Rattle.protocol_types.proofs.Board.{setup-fits}
use Rattle.protocol.proofs.Checked.{sound-passes, sized-passes}
use Rattle.protocol.proofs.Accounts.{Possible, is-possible}
use Rattle.protocol_types.proofs.Conditions.{named-choice, request-passed}
use Rattle.protocol.proofs.Requests.{bill-spent}
use Rattle.protocol.proofs.Engines.{Neither20Nor21, Lawful}
use Rattle.competitive.proofs.StepSound.{sound-served}

pub fresh-possible : (s : Setup) → Possible s fresh_account
fresh-possible s = record { fetch = omega arith; write-back = omega arith; update = omega arith }

request-meets-neither : (s : Setup) (n : ℕ) (q : Request) → Neither20Nor21 (request_refusal s n q)
unfolding request_refusal
request-meets-neither s n q =
    choice Neither20Nor21 (ltb q.processor s.processors)
    (λ _. named-choice Neither20Nor21 s q.operation (cond (ltb n request_limit) no_refusal account_full)
    (choice Neither20Nor21 (ltb n request_limit) (λ _. (λ e. omega arith, λ e. omega arith)) (λ _. (λ e. omega arith, λ e. omega arith)))
    (λ e. omega arith, λ e. omega arith))
    (λ _. (λ e. omega arith, λ e. omega arith))

pub lawful : (s : Setup) → setup_refusal s ≡ no_refusal → Lawful s (engine s) (Sound s) (Valid s)
unfolding run_refusal
lawful s accepted =
    let ok = setup-fits s accepted in
    record {
      serving = record {
        passed = request-passed s;
        kept = λ t q d v. sound-served s ok t d q v;
        small = λ t q. bill-spent s ok t q;
      };
      neither = request-meets-neither s;
      checked = λ t a n vs d p. rw (accepted, sized-passes s t d.lengths, sound-passes s ok t d, is-possible s a p) refl;
    }
