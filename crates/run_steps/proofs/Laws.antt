-- What a run's checks tell, and that the engine serves every request on tables that it can use, with their true masks: so protocol's and run_progress' laws hold of it.
-- Assumes nothing.
use Prim.Native.Nat.{ℕ, ◌<◌}
use mathlib.Core.Path.{◌≡◌, refl}
use mathlib.Core.List.{List}
use native.Mathlib.Decide.{dec_lt}
use native.Mathlib.Omega.{arith}
use lib.ListN.{get_or-eq_default}
use Rattle.protocol_types.specs.Refusals.{no_refusal}
use Rattle.protocol_types.specs.Board.{Fits, slots}
use Rattle.protocol.specs.Tables.{Tables, counter, block}
use Rattle.protocol.specs.Masks.{Masked}
use Rattle.protocol.specs.Soundness.{Sound}
use Rattle.protocol_types.specs.Conditions.{Valid}
use Rattle.protocol.specs.Runs.{masked_refusal, masked_engine}
use Rattle.protocol_types.specs.declared.Setup.{Setup}
use Rattle.protocol_types.specs.declared.Account.{Account}
use Rattle.protocol_types.proofs.Laws.{Same, same, apart, same?}
use Rattle.protocol_types.proofs.Board.{setup-fits}
use Rattle.protocol.proofs.Checked.{passed-sound}
use Rattle.protocol_types.proofs.Conditions.{request-passed}
use Rattle.protocol.proofs.Requests.{bill-spent}
use Rattle.protocol.proofs.Engines.{Serving}
use Rattle.engine.specs.Usable.{Usable, UsableMasked}
use Rattle.engine.proofs.Usable.{usable-served}
use Rattle.protocol.proofs.Masks.{masked-checked}
use Rattle.run_progress.proofs.Laws.{Passed}

-- ---- sound tables name no block outside main memory, and hold each in its proper line

pub usable-sound : (s : Setup) → Fits s → (t : Tables) → Sound s t → Usable s t
usable-sound s f t d = record {
  lengths = d.lengths;
  named = λ k. go k (dec_lt k (slots s)) (same? (counter t k) 0);
  proper = λ k h. (d.line k h).proper;
}
  where
    go : (k : ℕ) → Dec (k < slots s) → Same (counter t k) 0 → (block t k).0 < s.blocks
    go k (yes h) (same p q) = let z = (d.line k h).no_block p in omega (arith, f.some_block)
    go k (yes h) (apart p q) = (d.line k h).below (omega arith)
    go k (no h) r = let z = get_or-eq_default t.blocks 0 {n = k} (omega (arith, d.lengths.blocks)) in omega (arith, f.some_block)

-- ---- what a refusal number 0 tells

pub run-passed : (s : Setup) (x : Masked) (a : Account) (n : ℕ) (vs : List ℕ) → masked_refusal s x a n vs ≡ no_refusal → Passed s (UsableMasked s) x a n vs
run-passed s x a n vs e =
    let c = masked-checked s x a n vs e in
    let d = c.tables in
    let f = setup-fits s d.setup in
    let u = usable-sound s f x.tables (passed-sound s f x.tables d.sizes d.tables) in
    record { ready = record { fits = f; good = record { tables = u; masks = c.masks }; account = d.account }; values = d.values }

-- ---- each request is served

pub serving : (s : Setup) → Fits s → Serving s (masked_engine s) (UsableMasked s) (Valid s)
serving s f = record {
  passed = request-passed s;
  kept = λ x q u v. record { tables = usable-served s f x.tables q v u.tables; masks = refl };
  small = λ x q. bill-spent s f x.tables q;
}
