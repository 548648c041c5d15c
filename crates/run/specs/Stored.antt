-- A run of the requests that a list stores, whatever its cells are.
use Rattle.std.specs.Prelude.{ℕ, Bool, cond, List}
use Rattle.protocol.specs.Masks.{Masked}
use Rattle.protocol.specs.Engines.{Outcome, ended_by, run}
use Rattle.protocol.specs.Runs.{masked_engine}
use Rattle.protocol_types.specs.declared.Setup.{Setup}
use Rattle.protocol_types.specs.declared.Account.{Account}
use Rattle.protocol_types.specs.declared.Request.{Request}
use Rattle.host_decoding.specs.Records.{partial_refusal}

-- a list that is not whole is refused before its first request: none is taken, and nothing changes
abbrev pub run_stored : Setup → Masked → Account → Bool → List Request → List ℕ → Outcome Masked
run_stored s x a whole qs vs = cond whole (run (masked_engine s) x a qs vs) (ended_by (partial_refusal s) x a vs)
