-- The cycles of a clear: one more line's, and how few they are.
use Prim.Native.Nat.{ℕ, ◌+◌, ◌≤◌}
use mathlib.Core.Path.{◌≡◌, refl}
use native.Mathlib.Numerals.{add-one}
use Rattle.protocol_types.specs.Board.{most_write_back_limit, Fits, line_slot}
use Rattle.protocol.specs.Tables.{Tables}
use Rattle.protocol.specs.Rules.{save_cycles, cleared, clear_cycles}
use Rattle.protocol_types.specs.declared.Setup.{Setup}
use Rattle.protocol.proofs.Requests.{few-clear}

module _ (s : Setup) (t : Tables) (i l : ℕ) {t' : Tables} {k : ℕ} (so_far : t' ≡ cleared s t i l) (place : k ≡ line_slot s i l) where
  pub next-cycles : {n r : ℕ} → n ≡ clear_cycles s t i l → r ≡ save_cycles s t' k → n + r ≡ clear_cycles s t i (l + 1)
  next-cycles e f = rw (e, f, so_far, place, add-one) refl

-- the cycles so far, of l of the lines
pub few-cycles : (s : Setup) → Fits s → (t : Tables) (i l : ℕ) → l ≤ s.lines → {n : ℕ} → n ≡ clear_cycles s t i l → n ≤ most_write_back_limit
few-cycles s ok t i l h e = rw e (few-clear s ok t i l h)
