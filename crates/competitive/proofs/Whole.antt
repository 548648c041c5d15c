-- One run from fresh tables and a fresh account takes a list of valid requests to the end, if the account has room for them: no request is refused (request by request), the run is refused by 2 alone (lawful), and it leaves what run-left says. With masks the same (fresh-run).
use Prim.Native.Nat.{ℕ, suc, ◌+◌, ◌≤◌, ◌<◌}
use mathlib.Core.Path.{◌≡◌, refl, ap, ◌∙◌}
use mathlib.Core.List.{List, [], ◌∷◌}
use native.Mathlib.Omega.{arith}
use lib.ListN.{length}
use borrow.Author.Tests.{lt-ltb, eq-eqb}
use Rattle.protocol_types.specs.Lists.{tail}
use Rattle.protocol_types.specs.Refusals.{no_refusal}
use Rattle.protocol_types.specs.Board.{setup_refusal}
use Rattle.protocol.specs.Tables.{Tables, fresh}
use Rattle.protocol.specs.Soundness.{Sound}
use Rattle.protocol.specs.Masks.{fresh_masked}
use Rattle.protocol_types.specs.Conditions.{Valid, AllValid, request_refusal, request_limit}
use Rattle.protocol.specs.Requests.{value, served, bill}
use Rattle.protocol.specs.Accounts.{entered, fresh_account}
use Rattle.protocol.specs.Engines.{answered, Outcome, onward, run_from, run, taken_from, taken_run, spent}
use Rattle.protocol.specs.Runs.{run_refusal, engine, masked_engine}
use Rattle.protocol_types.specs.declared.Setup.{Setup}
use Rattle.protocol_types.specs.declared.Request.{Request}
use Rattle.protocol_types.specs.declared.Account.{Account}
use Rattle.protocol_types.specs.Answers.{RunAnswer}
use Rattle.protocol_types.proofs.Conditions.{named-passes}
use Rattle.protocol.proofs.Engines.{Left, run-left}
use Rattle.protocol.proofs.Masks.{fresh-run}
use Rattle.competitive.proofs.Fresh.{sound-fresh}
use Rattle.competitive.proofs.Lawful.{fresh-possible, lawful}

valid-refusal : (s : Setup) (n : ℕ) (q : Request) → Valid s q → n < request_limit → request_refusal s n q ≡ 0
unfolding request_refusal
valid-refusal s n q v l =
    rw (lt-ltb q.processor s.processors v.processor, lt-ltb n request_limit l) (named-passes s q.operation no_refusal v.operation)

-- what `onward` does to an answer without a refusal
one_more : (k : ℕ) (r : RunAnswer) → r ≡ answered k no_refusal 0 → (x : ℕ) (t : Tables) (a : Account) (vs : List ℕ)
    → (onward x (record { answer = r; tables = t; account = a; values = vs })).answer ≡ answered (suc k) no_refusal 0
one_more k r e x t a vs = ap (λ (z : RunAnswer). (onward x (record { answer = z; tables = t; account = a; values = vs })).answer) e

run_from-whole : (s : Setup) (t : Tables) (a : Account) (qs : List Request) (vs : List ℕ) → AllValid s qs → a.requests + length qs ≤ request_limit
    → (run_from (engine s) t a qs vs).answer ≡ answered (length qs) no_refusal 0
run_from-whole s t a [] vs v l = refl
run_from-whole s t a (q ∷ qs) vs v l =
    let h : a.requests < request_limit = omega arith in
    let o : Outcome Tables = run_from (engine s) (served s t q) (entered a 1 (bill s t q)) qs (tail vs) in
    rw (valid-refusal s a.requests q v.0 h)
    (one_more (length qs) o.answer (run_from-whole s (served s t q) (entered a 1 (bill s t q)) qs (tail vs) v.1 (omega arith)) (value s t q) o.tables o.account o.values)

taken-whole : (s : Setup) (n : ℕ) (qs : List Request) → AllValid s qs → n + length qs ≤ request_limit → taken_from (engine s) n qs ≡ qs
taken-whole s n [] v l = refl
taken-whole s n (q ∷ qs) v l =
    let h : n < request_limit = omega arith in
    rw (valid-refusal s n q v.0 h) (ap (λ z. q ∷ z) (taken-whole s (n + 1) qs v.1 (omega arith)))

module _ (s : Setup) (accepted : setup_refusal s ≡ no_refusal) (qs : List Request) (valid : AllValid s qs) (few : length qs ≤ request_limit) (vs : List ℕ) (e : length vs ≡ length qs) where
  begins : run_refusal s (fresh s) fresh_account (length qs) vs ≡ no_refusal
  begins = (lawful s accepted).checked (fresh s) fresh_account (length qs) vs (sound-fresh s) (fresh-possible s) ∙ rw (eq-eqb (length vs) (length qs) e)

  -- all are taken, and none is refused
  answers-rules : (run (engine s) (fresh s) fresh_account qs vs).answer ≡ answered (length qs) no_refusal 0
  unfolding run
  answers-rules = rw begins (run_from-whole s (fresh s) fresh_account qs vs valid (omega (arith, few)))

  pub answers-whole : (run (masked_engine s) (fresh_masked s) fresh_account qs vs).answer ≡ answered (length qs) no_refusal 0
  answers-whole = rw (fresh-run s fresh_account qs vs) answers-rules

  takes_whole : taken_run (engine s) 0 (record { requests = qs; values = vs }) ≡ qs
  unfolding taken_run
  takes_whole = rw (eq-eqb (length vs) (length qs) e) (taken-whole s 0 qs valid (omega (arith, few)))

  -- and the account is charged what the rules charge for the whole list
  leaves-rules : Left (engine s) (fresh s) fresh_account qs (run (engine s) (fresh s) fresh_account qs vs)
  leaves-rules = rw takes_whole at (run-left s (engine s) (Sound s) (Valid s) (lawful s accepted) (fresh s) fresh_account (record { requests = qs; values = vs }) (sound-fresh s) (fresh-possible s))

  pub leaves-whole : (run (masked_engine s) (fresh_masked s) fresh_account qs vs).account ≡ entered fresh_account (length qs) (spent (engine s) (fresh s) qs)
  leaves-whole = rw (fresh-run s fresh_account qs vs) leaves-rules.account
