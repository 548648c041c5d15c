-- Fresh tables are sound.
use Prim.Native.Nat.{◌*◌}
use native.Mathlib.Omega.{arith}
use Rattle.protocol_types.specs.Board.{slots, word_index}
use Rattle.protocol.specs.Tables.{fresh}
use Rattle.protocol.specs.Soundness.{Sound}
use Rattle.protocol_types.specs.declared.Setup.{Setup}
use Rattle.protocol_types.proofs.Laws.{at-zeros}
use Rattle.protocol.proofs.Lengths.{sized_fresh}
use Rattle.competitive.proofs.Sound.{empty-line}

pub sound-fresh : (s : Setup) → Sound s (fresh s)
unfolding fresh
sound-fresh s = record {
  lengths = sized_fresh s;
  line = λ k h.
      empty-line s k _ _ _ _ _ (at-zeros (slots s) k) (at-zeros (slots s) k) (at-zeros (slots s) k) (λ o u. at-zeros (slots s * s.words) (word_index s k o));
  lone = λ k m h u e. absurd (omega (arith, e, at-zeros (slots s) k));
}
