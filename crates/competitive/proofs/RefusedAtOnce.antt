-- A run that 1, 10, 2, 20 or 21 refuses leaves tables and account as it met them, and so does a list of such runs; a list that the generator refuses stays.
use Prim.Native.Nat.{ℕ}
use mathlib.Core.Path.{◌≡◌, sym, ◌∙◌}
use mathlib.Core.Bool.{◌&&◌, true≢false}
use mathlib.Core.List.{List}
use lib.ListN.{length}
use lib.Dec.{eqb}
use Rattle.protocol_types.specs.Refusals.{no_refusal}
use Rattle.protocol.specs.Masks.{Masked, sized_masked, sound_masked}
use Rattle.protocol.specs.Engines.{State}
use Rattle.competitive.specs.Claims.{RefusedAtOnce}
use Rattle.protocol.specs.Runs.{masked_refusal, masked_engine}
use Rattle.protocol_types.specs.declared.Setup.{Setup}
use Rattle.protocol_types.proofs.Laws.{both_true, and-true}
use Rattle.protocol.proofs.Engines.{refused-runs}
use Rattle.protocol.proofs.Runs.{ChecksPassed, checks-passed}
use Rattle.protocol.proofs.Generator.{generated-stays}

-- what is known of a state that a run of n requests is not refused on
passed : (s : Setup) (w : State Masked) (n : ℕ) (vs : List ℕ) → masked_refusal s w.tables w.account n vs ≡ no_refusal
    → ChecksPassed s (sized_masked s w.tables && eqb (length vs) n) (sound_masked s w.tables) w.account
unfolding masked_refusal
passed s w n vs e = checks-passed s (sized_masked s w.tables && eqb (length vs) n) (sound_masked s w.tables) w.account e

pub refused-at-once : (s : Setup) → RefusedAtOnce s
refused-at-once s = record {
  by-setup = λ d w. refused-runs (masked_engine s) w (λ n vs e. d (passed s w n vs e).setup);
  by-tables = λ w f. refused-runs (masked_engine s) w
      (λ n vs e. let c = passed s w n vs e in true≢false (sym (and-true (both_true (sized_masked s w.tables) (eqb (length vs) n) c.lengths).0 c.soundness) ∙ f));
  by-account = λ w f. refused-runs (masked_engine s) w (λ n vs e. true≢false (sym (passed s w n vs e).account ∙ f));
  list-stays = generated-stays s;
}
