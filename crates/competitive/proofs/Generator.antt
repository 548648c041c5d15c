-- A generated list is taken to the end, since its requests are valid and few (answers-whole); that it is the same for every setup with the same N and M × p, and the front of every longer one, are laws of the workload.
use Prim.Native.Nat.{ℕ, ◌+◌, ◌-◌}
use mathlib.Core.Path.{◌≡◌, sym, ap, ◌∙◌}
use mathlib.Core.List.{List}
use native.Mathlib.Omega.{arith}
use lib.ListN.{length, take}
use Rattle.protocol_types.specs.Refusals.{no_refusal}
use Rattle.protocol.specs.Masks.{fresh_masked}
use Rattle.protocol.specs.Accounts.{fresh_account}
use Rattle.protocol.specs.Engines.{answered, run}
use Rattle.protocol.specs.Runs.{masked_engine}
use Rattle.protocol.specs.Generator.{workload, generate_refusal, generated}
use Rattle.competitive.specs.Claims.{Repeatable}
use Rattle.protocol_types.specs.declared.Setup.{Setup}
use Rattle.protocol_types.specs.declared.Request.{Request}
use Rattle.protocol_types.proofs.Board.{setup-fits}
use Rattle.protocol.proofs.Generator.{length-workload, workload-begins, workload-same, workload-valid, generate-passed}
use Rattle.competitive.proofs.Whole.{answers-whole}

-- what the generator leaves where it refuses nothing
pub generated-is : (s : Setup) (seed : ℕ) (lent : List Request) → generate_refusal s seed (length lent) ≡ no_refusal → generated s seed lent ≡ workload s seed (length lent)
unfolding generated
generated-is s seed lent e = rw e

-- of n requests
pub workload-taken : (s : Setup) (seed n : ℕ) → generate_refusal s seed n ≡ no_refusal → (vs : List ℕ) → length vs ≡ n
    → (run (masked_engine s) (fresh_masked s) fresh_account (workload s seed n) vs).answer ≡ answered n no_refusal 0
workload-taken s seed n e vs k =
    let p = generate-passed s seed n e in
    let l : length (workload s seed n) ≡ n = length-workload s seed n in
    answers-whole s p.accepted (workload s seed n) (workload-valid s (setup-fits s p.accepted) seed n) (omega (arith, l, p.few)) vs (k ∙ sym l)
    ∙ ap (λ (z : ℕ). answered z no_refusal 0) l

pub repeatable : (s : Setup) (seed : ℕ) (lent : List Request) → generate_refusal s seed (length lent) ≡ no_refusal → Repeatable s seed lent
repeatable s seed lent e = record {
  taken = λ vs k. rw (generated-is s seed lent e) (workload-taken s seed (length lent) e vs k);
  alike = λ t other e' n v l. generated-is t seed other e' ∙ workload-same t s seed (length other) n v ∙ ap (workload s seed) l ∙ sym (generated-is s seed lent e);
  begins = λ longer e' l.
      let k : length longer ≡ length lent + (length longer - length lent) = omega (arith, l) in
      ap (take (length lent)) (generated-is s seed longer e' ∙ ap (workload s seed) k) ∙ workload-begins s seed (length lent) (length longer - length lent) ∙ sym (generated-is s seed lent e);
}
