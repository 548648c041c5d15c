-- Demand 2 over whole runs: the values that a list of runs leaves, and that none of them is refused by 20 or 21 (protocol's Engines; with masks the same, by its Masks).
use mathlib.Core.Path.{◌≡◌, refl, ap}
use mathlib.Core.List.{List, [], ◌∷◌}
use Rattle.protocol_types.specs.Refusals.{no_refusal}
use Rattle.protocol_types.specs.Board.{Fits, setup_refusal}
use Rattle.protocol.specs.Tables.{Tables, fresh}
use Rattle.protocol.specs.Soundness.{Sound}
use Rattle.protocol_types.specs.Conditions.{Valid, AllValid}
use Rattle.protocol.specs.Requests.{value}
use Rattle.protocol.specs.Engines.{Outcome, outcomes, served_all, values_of, Never20Or21}
use Rattle.protocol.specs.Runs.{engine, opening, masked_outcomes}
use Rattle.competitive.specs.Claims.{expected_value, LastValues}
use Rattle.protocol_types.specs.declared.Setup.{Setup}
use Rattle.protocol_types.specs.declared.Request.{Request}
use Rattle.protocol_types.proofs.Board.{setup-fits}
use Rattle.protocol.proofs.Accounts.{possible-is}
use Rattle.protocol.proofs.Engines.{runs-values}
use Rattle.protocol.proofs.Masks.{fresh-outcomes}
use Rattle.competitive.proofs.Fresh.{sound-fresh}
use Rattle.competitive.proofs.Values.{last-value}
use Rattle.competitive.proofs.Lawful.{lawful}

value-expected : (s : Setup) (ok : Fits s) (ps : List Request) (q : Request) → AllValid s ps → Valid s q
    → value s (served_all (engine s) (fresh s) ps) q ≡ expected_value ps q
unfolding value
value-expected s ok ps q va v = last-value s ok ps q.processor q.operation va v.processor v.operation

-- masks change neither values nor answers
masked-values : (s : Setup) (os : List (Outcome Tables)) → values_of (masked_outcomes s os) ≡ values_of os
masked-values s [] = refl
masked-values s (o ∷ os) = ap (λ l. o.values ∷ l) (masked-values s os)

masked-never : (s : Setup) (os : List (Outcome Tables)) → Never20Or21 os → Never20Or21 (masked_outcomes s os)
masked-never s [] n = tt
masked-never s (o ∷ os) n = (n.0, n.1, masked-never s os n.2)

pub last-values : (s : Setup) → setup_refusal s ≡ no_refusal → LastValues s
last-values s accepted =
    let all = runs-values s (engine s) (Sound s) (Valid s) (lawful s accepted) expected_value (fresh s) (sound-fresh s) (value-expected s (setup-fits s accepted)) in
    record {
      values = λ a p rs. rw (fresh-outcomes s a rs, masked-values s (outcomes (engine s) (opening s a) rs)) (all rs [] tt a (possible-is s a p)).0;
      never = λ a p rs. rw (fresh-outcomes s a rs) (masked-never s (outcomes (engine s) (opening s a) rs) (all rs [] tt a (possible-is s a p)).1);
    }
