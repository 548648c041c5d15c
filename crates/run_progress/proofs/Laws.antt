-- What a request that is served leaves is ready for the next one, and the account has room for it: of any engine.
-- Assumes nothing.
use Prim.Native.Nat.{ℕ, ◌+◌, ◌≤◌, ◌<◌}
use mathlib.Core.Path.{◌≡◌}
use mathlib.Core.List.{List}
use native.Mathlib.Omega.{arith}
use lib.ListN.{length}
use Rattle.protocol_types.specs.Refusals.{no_refusal}
use Rattle.protocol_types.specs.Board.{Fits}
use Rattle.protocol_types.specs.Conditions.{request_limit}
use Rattle.protocol.specs.Accounts.{plus, entered, bill_of, Spent}
use Rattle.protocol.specs.Engines.{Engine}
use Rattle.protocol_types.specs.declared.Setup.{Setup}
use Rattle.protocol_types.specs.declared.Account.{Account}
use Rattle.protocol.proofs.Accounts.{spent-plus, spent-numbers, possible-is, is-possible}
use Rattle.protocol.proofs.Engines.{Serving}
use Rattle.run_progress.specs.Progress.{Room, Ready}

-- what a run's refusal number 0 tells
pub record Passed {T : Type 0} (s : Setup) (Good : T → Type 0) (t : T) (a : Account) (n : ℕ) (vs : List ℕ) : Type 0 where
  pub ready : Ready s Good t a
  pub values : length vs ≡ n

module _ {T Q : Type 0} (s : Setup) (E : Engine T Q) (Good : T → Type 0) (Valid : Q → Type 0) (serving : Fits s → Serving s E Good Valid)
    (t : T) (a : Account) (q : Q) (r : Ready s Good t a) (e : E.refusal a.requests q ≡ no_refusal) where
  -- the account's requests and this one are at most 1,000,000, and cost no more than so many can
  few : a.requests < request_limit
  few = ((serving r.fits).passed a.requests q e).1

  spent-entered : Spent s (a.requests + 1) (plus (bill_of a) (E.bill t q))
  spent-entered = spent-plus s a.requests 1 (bill_of a) (E.bill t q) (possible-is s a r.account) ((serving r.fits).small t q)

  -- so the account can hold its write-back cycles: with this request they are at most 2,048 × 1,000,000, which is below 2 ^ 32 (document 02, P6)
  pub write-back-fits : a.write_back + (E.bill t q).write_back ≤ 2048000000
  write-back-fits = omega (arith, few, (spent-numbers s r.fits _ _ spent-entered).1)

  pub room : Room a 1 (E.bill t q)
  room =
      let c = spent-numbers s r.fits _ _ spent-entered in
      record { requests = omega (arith, few); fetch = omega (arith, few, c.0); write-back = omega (arith, write-back-fits); update = omega (arith, few, c.2) }

  pub ready_served : Ready s Good (E.served t q) (entered a 1 (E.bill t q))
  ready_served = record {
    fits = r.fits;
    good = (serving r.fits).kept t q r.good ((serving r.fits).passed a.requests q e).0;
    account = is-possible s (entered a 1 (E.bill t q)) spent-entered;
  }
