-- The generator over a list whatever its cells are: whether it is whole, the requests that it stores, and the list with a request set are its type's.
use Rattle.std.specs.Prelude.{ℕ, Bool, cond, List, length, eqb}
use Rattle.protocol_types.specs.Refusals.{no_refusal}
use Rattle.protocol.specs.Generator.{workload, generate_refusal}
use Rattle.protocol_types.specs.declared.Setup.{Setup}
use Rattle.protocol_types.specs.declared.Request.{Request}
use Rattle.host_decoding.specs.Records.{partial_refusal}
use Rattle.stored_lists.specs.Lists.{filled}

-- a list of n requests; one that is not whole is refused by 1, 10 or 2: "11 … after 2"
unfoldable pub list_refusal : Bool → Setup → ℕ → ℕ → ℕ
list_refusal whole s seed n = cond whole (generate_refusal s seed n) (partial_refusal s)

-- the lent list after it: the seed's requests stored from the front on, or untouched by a refusal
unfoldable pub list_generated : {A : Type 0} → (List A → Bool) → (List A → List Request) → (List A → ℕ → Request → List A) → Setup → ℕ → List A → List A
list_generated whole records stored s seed l =
    cond (eqb (list_refusal (whole l) s seed (length (records l))) no_refusal) (filled stored l (workload s seed (length (records l)))) l
