-- What is known where 1, 10, 2, 20 and 21 let a run through. From the laws of orders of refusals.
use Prim.Native.Nat.{ℕ}
use mathlib.Core.Path.{◌≡◌}
use mathlib.Core.Bool.{Bool, true, ◌&&◌}
use mathlib.Core.List.{List}
use native.Mathlib.Omega.{arith}
use lib.ListN.{length}
use lib.Dec.{eqb}
use borrow.Author.Tests.{eqb-true}
use Rattle.protocol_types.specs.Refusals.{no_refusal, unless, wrong_length, unsound_tables, impossible_account}
use Rattle.protocol_types.specs.Board.{setup_refusal}
use Rattle.protocol.specs.Tables.{Tables, sized}
use Rattle.protocol.specs.Soundness.{sound}
use Rattle.protocol.specs.Accounts.{possible}
use Rattle.protocol.specs.Runs.{checks_refusal, run_refusal}
use Rattle.protocol_types.specs.declared.Setup.{Setup}
use Rattle.protocol_types.specs.declared.Account.{Account}
use Rattle.protocol_types.proofs.Laws.{both_true, chosen-zero}
use Rattle.protocol_types.proofs.Refusals.{neither-refuses}

-- p and q are the tests of 2 and of 20
pub record ChecksPassed (s : Setup) (p q : Bool) (a : Account) : Type 0 where
  pub setup : setup_refusal s ≡ no_refusal
  pub lengths : p ≡ true
  pub soundness : q ≡ true
  pub account : possible s a ≡ true

pub checks-passed : (s : Setup) (lengths soundness : Bool) (a : Account) → checks_refusal s lengths soundness a ≡ no_refusal → ChecksPassed s lengths soundness a
checks-passed s lengths soundness a e =
    let c₄ : ℕ = unless (possible s a) impossible_account no_refusal in
    let c₃ : ℕ = unless soundness unsound_tables c₄ in
    let c₂ : ℕ = unless lengths wrong_length c₃ in
    let e₁ = neither-refuses (setup_refusal s) c₂ e in
    let e₂ = chosen-zero lengths c₃ wrong_length (omega arith) e₁.1 in
    let e₃ = chosen-zero soundness c₄ unsound_tables (omega arith) e₂.1 in
    let e₄ = chosen-zero (possible s a) no_refusal impossible_account (omega arith) e₃.1 in
    record { setup = e₁.0; lengths = e₂.0; soundness = e₃.0; account = e₄.0 }

pub record RunChecked (s : Setup) (t : Tables) (a : Account) (n : ℕ) (vs : List ℕ) : Type 0 where
  pub setup : setup_refusal s ≡ no_refusal
  pub sizes : sized s t ≡ true
  pub values : length vs ≡ n
  pub tables : sound s t ≡ true
  pub account : possible s a ≡ true

pub run-checked : (s : Setup) (t : Tables) (a : Account) (n : ℕ) (vs : List ℕ) → run_refusal s t a n vs ≡ no_refusal → RunChecked s t a n vs
unfolding run_refusal
run-checked s t a n vs e =
    let c = checks-passed s (sized s t && eqb (length vs) n) (sound s t) a e in
    let l = both_true (sized s t) (eqb (length vs) n) c.lengths in
    record { setup = c.setup; sizes = l.0; values = eqb-true _ _ l.1; tables = c.soundness; account = c.account }
