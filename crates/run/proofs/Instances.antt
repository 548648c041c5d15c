-- Runs over records, each of which is a cell of the list. Assumes nothing.
use Prim.Native.Nat.{ℕ}
use mathlib.Core.Path.{◌≡◌, refl}
use mathlib.Core.List.{List}
use Rattle.protocol_types.specs.declared.Setup.{Setup}
use Rattle.protocol_types.specs.declared.Account.{Account}
use Rattle.protocol_types.specs.declared.Request.{Request}
use Rattle.protocol.specs.Masks.{Masked}
use Rattle.protocol.specs.Engines.{run}
use Rattle.protocol.specs.Runs.{masked_engine}
use Rattle.stored_lists.specs.Lists.{always, same}
use Rattle.run.specs.Stored.{run_stored}

pub run_records : (s : Setup) (x : Masked) (a : Account) (qs : List Request) (vs : List ℕ) → run_stored s x a (always qs) (same qs) vs ≡ run (masked_engine s) x a qs vs
run_records s x a qs vs = refl
