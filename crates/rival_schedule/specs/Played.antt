-- What an entry of a rival's schedule answers and leaves.
use Rattle.std.specs.Prelude.{ℕ, ◌≡◌, Option, Some, None, Result, Ok, Err, List, [], ◌∷◌}
use Rattle.protocol_types.specs.Refusals.{no_refusal, number}
use Rattle.protocol.specs.Accounts.{cycles}
use Rattle.protocol.specs.Rival.{Rival, played, cost, refusal}
use Rattle.protocol_types.specs.declared.Setup.{Setup}
use Rattle.protocol_types.specs.declared.Request.{Request}
use Rattle.protocol_types.specs.declared.Entry.{Entry}
use Rattle.protocol_types.specs.declared.Refusal.{Refusal}

-- the next request alone, if one is left
abbrev pub next_alone : Option Request → List Request
next_alone None = []
next_alone (Some q) = q ∷ []

-- entry e, where the requests qs are left: it costs its cycles and leaves the copies after it, or its refusal leaves the copies r
abbrev pub Played : Setup → Rival → List Request → Entry → Result ℕ Refusal → Rival → Type 0
Played s r qs e (Ok n) after = (refusal s r qs e ≡ no_refusal) × (n ≡ cycles (cost s r qs e)) × (after ≡ played s r qs e)
Played s r qs e (Err x) after = (refusal s r qs e ≡ number x) × (after ≡ r)
