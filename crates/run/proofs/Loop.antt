-- The loop of a run over what a list stores: run_progress' laws of any engine's, at what run_steps proves of this one, and how it begins. Assumes nothing.
use Prim.Native.Nat.{ℕ, ◌+◌}
use mathlib.Core.Path.{◌≡◌, refl, sym, ap}
use mathlib.Core.Bool.{Bool, true, false}
use mathlib.Core.List.{List}
use lib.ListN.{length, set}
use Rattle.std.specs.Prelude.{Some, slice_get}
use Rattle.protocol_types.specs.Refusals.{no_refusal, number}
use Rattle.protocol_types.specs.Conditions.{Valid}
use Rattle.protocol_types.specs.declared.Refusal.{Refusal}
use Rattle.protocol_types.specs.declared.Setup.{Setup}
use Rattle.protocol_types.specs.declared.Request.{Request}
use Rattle.protocol_types.specs.declared.Account.{Account}
use Rattle.protocol.specs.Masks.{Masked}
use Rattle.protocol.specs.Engines.{Outcome, answered, run}
use Rattle.protocol.specs.Runs.{masked_engine}
use Rattle.engine.specs.Usable.{UsableMasked}
use Rattle.run_progress.specs.Progress.{Taken, Refused, outcome}
use Rattle.protocol_types.proofs.Refusals.{number-refuses}
use Rattle.run_progress.proofs.Loop as any
use Rattle.run_steps.specs.Stored.{stored_refusal}
use Rattle.run_steps.proofs.Laws.{run-passed, serving}
use Rattle.host_decoding.proofs.Whole.{partial-refuses}
use Rattle.run.specs.Stored.{run_stored}

module _ (s : Setup) (qs : List Request) (o : Outcome Masked) where
  -- what is left to run where so many requests are taken is the outcome o of the whole run
  abbrev pub Inv : ℕ → Masked → Account → List ℕ → Type 0
  Inv = any.Inv s (masked_engine s) (UsableMasked s) (Valid s) (serving s) qs o

  module _ (k : ℕ) (t : Masked) (a : Account) (vs : List ℕ) (i : Inv k t a vs) where
    pub inv-end : length qs ≡ k → outcome (answered k no_refusal 0) t a vs ≡ o
    inv-end = any.inv-end s (masked_engine s) (UsableMasked s) (Valid s) (serving s) qs o k t a vs i

    module _ (q : Request) (at : slice_get qs k ≡ Some q) (u : Masked) (b : Account) where
      pub inv-refused : (r : Refusal) → Refused (masked_engine s) t a q u b (number r) → outcome (answered k (number r) k) u b vs ≡ o
      inv-refused r = any.inv-refused s (masked_engine s) (UsableMasked s) (Valid s) (serving s) qs o k t a vs i q at u b (number r) (number-refuses r)

      pub inv-taken : (v : ℕ) → Taken (masked_engine s) t a q u b v → Inv (k + 1) u b (set vs k v)
      inv-taken = any.inv-taken s (masked_engine s) (UsableMasked s) (Valid s) (serving s) qs o k t a vs i q at u b

-- ---- before the first request

module _ (s : Setup) (x : Masked) (a : Account) (qs : List Request) (vs : List ℕ) where
  pub begins : (whole : Bool) → no_refusal ≡ stored_refusal s x a whole (length qs) vs → Inv s qs (run_stored s x a whole qs vs) 0 x a vs
  begins true e =
      any.inv-start s (masked_engine s) (UsableMasked s) (Valid s) (serving s) qs (run (masked_engine s) x a qs vs) x a vs refl (sym e) (run-passed s x a (length qs) vs (sym e))
  begins false e = absurd (partial-refuses s (sym e))

  pub never-begins : (whole : Bool) (r : Refusal) → number r ≡ stored_refusal s x a whole (length qs) vs → outcome (answered 0 (number r) 0) x a vs ≡ run_stored s x a whole qs vs
  never-begins true r e =
      rw e (any.refused-start s (masked_engine s) (UsableMasked s) (Valid s) (serving s) qs (run (masked_engine s) x a qs vs) x a vs refl (rw e at (number-refuses r)))
  never-begins false r e = ap (λ (n : ℕ). outcome (answered 0 n 0) x a vs) e
