-- The generator where requests are numbers, for hosts that know no other types. What is claimed of it: host_claims/specs/Claims.
use Rattle.std.specs.Prelude.{ℕ, cond, List, length, eqb}
use Rattle.protocol_types.specs.Refusals.{no_refusal}
use Rattle.protocol.specs.Generator.{generate_refusal, generated}
use Rattle.protocol_types.specs.declared.Setup.{Setup}
use Rattle.host_decoding.specs.Records.{request_width, whole, partial_refusal, requests_of}
use Rattle.host_encoding.specs.Numbers.{list_numbers}

-- a list that is not whole is refused by 1, 10 or 2: "11 … after 2"
unfoldable pub generate_numbers_refusal : Setup → ℕ → List ℕ → ℕ
generate_numbers_refusal s seed ns = cond (whole request_width ns) (generate_refusal s seed (length (requests_of ns))) (partial_refusal s)

-- the lent numbers after it: those of as many requests, or untouched by a refusal
unfoldable pub generated_numbers : Setup → ℕ → List ℕ → List ℕ
generated_numbers s seed ns = cond (eqb (generate_numbers_refusal s seed ns) no_refusal) (list_numbers (generated s seed (requests_of ns))) ns
