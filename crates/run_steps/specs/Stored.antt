-- What refuses a run over a list that stores requests, before its first one.
use Rattle.std.specs.Prelude.{ℕ, Bool, cond, List}
use Rattle.protocol.specs.Masks.{Masked}
use Rattle.protocol.specs.Runs.{masked_refusal}
use Rattle.protocol_types.specs.declared.Setup.{Setup}
use Rattle.protocol_types.specs.declared.Account.{Account}
use Rattle.host_decoding.specs.Records.{partial_refusal}

-- of n requests; of a list that is not whole the setup's refusal, or else 2
abbrev pub stored_refusal : Setup → Masked → Account → Bool → ℕ → List ℕ → ℕ
stored_refusal s x a whole n vs = cond whole (masked_refusal s x a n vs) (partial_refusal s)
