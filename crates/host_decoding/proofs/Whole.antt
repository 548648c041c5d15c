-- A list that is not whole is always refused.
use mathlib.Core.Path.{◌≡◌, refl, sym}
use mathlib.Core.Logic.{◌≢◌}
use mathlib.Core.Bool.{Bool, true, false, cond}
use native.Mathlib.Omega.{arith}
use Rattle.protocol_types.specs.Refusals.{no_refusal, wrong_length}
use Rattle.protocol_types.specs.Board.{setup_refusal}
use Rattle.protocol_types.specs.declared.Setup.{Setup}
use Rattle.protocol_types.proofs.Refusals.{neither-refuses}
use Rattle.host_decoding.specs.Records.{partial_refusal}

pub partial-refuses : (s : Setup) → partial_refusal s ≢ no_refusal
unfolding partial_refusal
partial-refuses s e = omega (arith, (neither-refuses (setup_refusal s) wrong_length e).1)

-- so what passes is whole, and its setup passes
pub passed-whole : (s : Setup) (whole : Bool) → no_refusal ≡ cond whole (setup_refusal s) (partial_refusal s) → (whole ≡ true) × (setup_refusal s ≡ no_refusal)
passed-whole s true e = (refl, sym e)
passed-whole s false e = absurd (partial-refuses s (sym e))
