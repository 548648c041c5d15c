-- The generator over a list of requests, and over numbers. Assumes nothing.
use Prim.Native.Nat.{ℕ, ◌*◌, ◌%◌, ◌≤◌}
use mathlib.Core.Path.{◌≡◌, refl, sym, ap, ◌∙◌}
use mathlib.Core.Bool.{Bool, true, false, cond}
use mathlib.Core.List.{List, append-nil}
use native.Mathlib.Omega.{arith}
use lib.ListN.{length, set, drop_of_length-le}
use lib.Dec.{eqb}
use borrow.Author.Tests.{eqb-true}
use Rattle.protocol_types.specs.Refusals.{no_refusal}
use Rattle.protocol.specs.Generator.{workload, generate_refusal, generated}
use Rattle.protocol.proofs.Generator.{length-workload}
use Rattle.protocol_types.specs.declared.Setup.{Setup}
use Rattle.protocol_types.specs.declared.Request.{Request}
use Rattle.host_decoding.specs.Records.{request_width, whole, requests_of}
use Rattle.host_decoding.proofs.Decoding.{requests_counted}
use Rattle.host_encoding.specs.Numbers.{list_numbers}
use Rattle.stored_lists.specs.Lists.{same, always, request_set, filled}
use Rattle.stored_lists.proofs.Filled.{records-filled, requests-filled}
use Rattle.generator.specs.Lists.{list_refusal, list_generated}
use Rattle.generator.specs.Numbers.{generate_numbers_refusal, generated_numbers}
use Rattle.generator.proofs.Passed.{goes_through}

generated-all : (s : Setup) (seed : ℕ) (l : List Request) → generate_refusal s seed (length l) ≡ no_refusal → generated s seed l ≡ workload s seed (length l)
unfolding generated
generated-all s seed l e = rw (e)

module _ (s : Setup) (seed : ℕ) where
  -- ---- a list of requests

  module _ (l : List Request) where
    pub requests-refused : list_refusal (always l) s seed (length (same l)) ≡ generate_refusal s seed (length l)
    unfolding list_refusal
    requests-refused = refl

    all-stored : filled set l (workload s seed (length l)) ≡ workload s seed (length l)
    all-stored =
        let n : length (workload s seed (length l)) ≡ length l = length-workload s seed (length l) in
        records-filled l (workload s seed (length l)) (omega arith)
        ∙ rw (n, drop_of_length-le l {i = length l} (omega arith), append-nil (workload s seed (length l)))

    pub requests-generated : list_generated always same set s seed l ≡ generated s seed l
    unfolding list_generated list_refusal generated
    requests-generated = ap (λ (f : List Request). cond (eqb (generate_refusal s seed (length l)) no_refusal) f l) all-stored

  -- ---- numbers

  module _ (ns : List ℕ) where
    pub numbers-refused : list_refusal (whole request_width ns) s seed (length (requests_of ns)) ≡ generate_numbers_refusal s seed ns
    unfolding list_refusal generate_numbers_refusal
    numbers-refused = refl

    abbrev n : ℕ
    n = length (requests_of ns)

    all-written : whole request_width ns ≡ true → filled request_set ns (workload s seed n) ≡ list_numbers (workload s seed n)
    unfolding whole
    all-written w =
        let e : length (workload s seed n) ≡ n = length-workload s seed n in
        let count = requests_counted ns in
        let most : length ns ≤ n * request_width = omega (arith, eqb-true (length ns % request_width) 0 w) in
        requests-filled ns (workload s seed n) (omega arith)
        ∙ rw (e, drop_of_length-le ns {i = n * request_width} most, append-nil (list_numbers (workload s seed n)))

    pub numbers-generated : list_generated (whole request_width) requests_of request_set s seed ns ≡ generated_numbers s seed ns
    unfolding list_generated list_refusal generated_numbers generate_numbers_refusal generated
    numbers-generated = go (eqb (list_refusal (whole request_width ns) s seed n) no_refusal) refl
      where
        go : (c : Bool) → eqb (list_refusal (whole request_width ns) s seed n) no_refusal ≡ c
            → cond c (filled request_set ns (workload s seed n)) ns ≡ cond c (list_numbers (generated s seed (requests_of ns))) ns
        go true h =
            let t = goes_through (whole request_width ns) s seed n (eqb-true _ _ h) in
            all-written t.is_whole ∙ ap list_numbers (sym (generated-all s seed (requests_of ns) t.accepted))
        go false h = refl
