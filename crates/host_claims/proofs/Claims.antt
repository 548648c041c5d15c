-- The numbers that the generator leaves are those of the seed's requests, so that what `repeatable` says of requests holds of them. Assumes nothing.
use Prim.Native.Nat.{ℕ, zero, suc, ◌*◌, ◌%◌}
use mathlib.Core.Path.{◌≡◌, refl, sym, ap, ◌∙◌}
use mathlib.Core.Bool.{Bool, true, false, cond}
use mathlib.Core.List.{List, [], ◌∷◌, ◌++◌}
use native.Mathlib.Omega.{arith}
use native.Mathlib.Nat.{suc-mul}
use native.Mathlib.Numerals.{unary_clauses}
use lib.ListN.{length, take}
use borrow.Author.Tests.{eqb-true, eq-eqb}
use Rattle.protocol_types.specs.Refusals.{no_refusal}
use Rattle.protocol.specs.Generator.{generate_refusal, generated}
use Rattle.protocol_types.specs.declared.Setup.{Setup}
use Rattle.protocol_types.specs.declared.Request.{Request}
use Rattle.competitive.proofs.Generator.{generated-is, repeatable}
use Rattle.host_decoding.specs.Records.{request_width, whole, partial_refusal, requests_of}
use Rattle.host_decoding.proofs.Decoding.{requests_counted}
use Rattle.host_encoding.specs.Numbers.{request_numbers, list_numbers}
use Rattle.host_encoding.proofs.Numbers.{length-numbers, named_back}
use Rattle.host_numbers.specs.Numbers.{run_numbers}
use Rattle.generator.specs.Numbers.{generate_numbers_refusal, generated_numbers}
use Rattle.host_decoding.proofs.Whole.{partial-refuses}
use Rattle.host_claims.specs.Claims.{NumbersRepeatable}

-- the numbers of a list's front
numbers-front : (qs : List Request) (k : ℕ) → take (k * request_width) (list_numbers qs) ≡ list_numbers (take k qs)
numbers-front qs zero = refl
numbers-front [] (suc k) = simp (suc-mul, unary_clauses)
numbers-front (q ∷ qs) (suc k) =
    simp (suc-mul, unary_clauses) (ap (λ (l : List ℕ). request_numbers q ++ l) (numbers-front qs k))

numbers-whole : (qs : List Request) → whole request_width (list_numbers qs) ≡ true
unfolding whole
numbers-whole qs = eq-eqb (length (list_numbers qs) % request_width) 0 (omega (arith, length-numbers qs))

-- ---- numbers that are not refused

record Accepted (s : Setup) (seed : ℕ) (ns : List ℕ) : Type 0 where
  -- only a whole list is not refused
  is_whole : whole request_width ns ≡ true
  listed : generate_refusal s seed (length (requests_of ns)) ≡ no_refusal
  numbers : generated_numbers s seed ns ≡ list_numbers (generated s seed (requests_of ns))
  count : length ns ≡ length (requests_of ns) * request_width

accepts : (s : Setup) (seed : ℕ) (ns : List ℕ) → generate_numbers_refusal s seed ns ≡ no_refusal → Accepted s seed ns
unfolding generate_numbers_refusal generated_numbers whole
accepts s seed ns e = go (whole request_width ns) refl e
  where
    go : (c : Bool) → whole request_width ns ≡ c → cond c (generate_refusal s seed (length (requests_of ns))) (partial_refusal s) ≡ no_refusal → Accepted s seed ns
    go true w f = record {
      is_whole = w;
      listed = f;
      numbers = rw e;
      count = omega (arith, eqb-true (length ns % request_width) 0 w, requests_counted ns);
    }
    go false w f = absurd (partial-refuses s f)

pub numbers-repeatable : (s : Setup) (seed : ℕ) (ns : List ℕ) → generate_numbers_refusal s seed ns ≡ no_refusal → NumbersRepeatable s seed ns
unfolding run_numbers
numbers-repeatable s seed ns e =
    let a = accepts s seed ns e in
    let r = repeatable s seed (requests_of ns) a.listed in
    let named : requests_of (generated_numbers s seed ns) ≡ generated s seed (requests_of ns) = ap requests_of a.numbers ∙ named_back (generated s seed (requests_of ns)) in
    let w : whole request_width (generated_numbers s seed ns) ≡ true = ap (whole request_width) a.numbers ∙ numbers-whole (generated s seed (requests_of ns)) in
    record {
      named = named ∙ generated-is s seed (requests_of ns) a.listed;
      taken = λ vs k. rw (w, named) (r.taken vs k);
      alike = λ t other f n v l.
          let b = accepts t seed other f in
          b.numbers ∙ ap list_numbers (r.alike t (requests_of other) b.listed n v (omega (arith, a.count, b.count, l))) ∙ sym a.numbers;
      begins = λ longer f l.
          let b = accepts s seed longer f in
          ap (take (length ns)) b.numbers ∙ ap (λ (k : ℕ). take k (list_numbers (generated s seed (requests_of longer)))) a.count
          ∙ numbers-front (generated s seed (requests_of longer)) (length (requests_of ns))
          ∙ ap list_numbers (r.begins (requests_of longer) b.listed (omega (arith, a.count, b.count, l))) ∙ sym a.numbers;
    }
