-- Demand 3, its first half: what any list of runs leaves (protocol's Engines; with masks the same, by its Masks), and theorem 4.2 (Half) of the requests taken; document 01's claim follows.
use Prim.Native.Nat.{◌*◌, ◌≤◌}
use mathlib.Core.Path.{◌≡◌, ap, ◌∙◌}
use mathlib.Core.Bool.{true}
use mathlib.Core.List.{List}
use native.Mathlib.Omega.{arith}
use Rattle.protocol_types.specs.Refusals.{no_refusal}
use Rattle.protocol_types.specs.Board.{setup_refusal}
use Rattle.protocol.specs.Tables.{Tables, fresh}
use Rattle.protocol.specs.Soundness.{Sound}
use Rattle.protocol.specs.Masks.{Masked}
use Rattle.protocol_types.specs.Conditions.{Valid}
use Rattle.protocol.specs.Accounts.{cycles, fetch_and_update, possible}
use Rattle.protocol.specs.Engines.{Run, State, taken_all}
use Rattle.protocol.specs.Runs.{engine}
use Rattle.competitive.specs.Claims.{Claim, SplitBill, SplitClaim}
use Rattle.protocol_types.specs.declared.Setup.{Setup}
use Rattle.protocol_types.specs.declared.Request.{Request}
use Rattle.protocol_types.specs.declared.Bill.{Bill}
use Rattle.protocol_types.specs.declared.Account.{Account}
use Rattle.protocol_types.proofs.Board.{setup-fits}
use Rattle.protocol.proofs.Accounts.{possible-is}
use Rattle.protocol.proofs.Engines.{runs-left}
use Rattle.protocol.proofs.Masks.{fresh-runs}
use Rattle.competitive.proofs.Fresh.{sound-fresh}
use Rattle.competitive.proofs.Half.{split-bill}
use Rattle.competitive.proofs.Lawful.{lawful}

pub split-claim : (s : Setup) → setup_refusal s ≡ no_refusal → (a : Account) → possible s a ≡ true → (rs : List (Run Request)) → SplitClaim s a rs
split-claim s accepted a p rs = record {
  grows = ap (λ (w : State Masked). w.account) (fresh-runs s a rs) ∙ ap (λ (w : State Tables). w.account)
      (runs-left s (engine s) (Sound s) (Valid s) (lawful s accepted) rs (fresh s) a (sound-fresh s) (possible-is s a p));
  splits = λ es l. split-bill s (setup-fits s accepted) (taken_all (engine s) a.requests rs) es l;
}

-- ---- document 01's claim

-- the two bounds added; the schedule's write-backs are in neither
pub twice : (c d : Bill) → SplitBill c d → cycles c ≤ 2 * fetch_and_update d
twice c d b = omega (arith, b.fetches, b.updates)

pub claim-of : (s : Setup) (a : Account) (rs : List (Run Request)) → SplitClaim s a rs → Claim s a rs
claim-of s a rs c = record {
  grows = rw c.grows (omega arith);
  counts = rw c.grows;
  halves = λ es l. omega (arith, twice _ _ (c.splits es l));
}
