-- A record whose numbers are set in a list is the one that the list names there, and no other record changes. Assumes nothing.
use Prim.Native.Nat.{ℕ, zero, suc, ◌*◌, ◌<◌}
use mathlib.Core.Path.{◌≡◌, ap}
use mathlib.Core.List.{List, [], ◌∷◌}
use native.Mathlib.Nat.{suc-mul}
use native.Mathlib.Numerals.{unary_clauses}
use native.Mathlib.Omega.{arith}
use lib.ListN.{length, set}
use lib.Seq.{sets, length-sets}
use Rattle.protocol_types.specs.declared.Request.{Request}
use Rattle.protocol_types.specs.declared.Entry.{Entry}
use Rattle.host_decoding.specs.Records.{request_width, request_of, requests_of, entry_width, entry_of, entries_of}
use Rattle.host_encoding.specs.Numbers.{request_numbers, entry_numbers}
use Rattle.host_encoding.proofs.Numbers.{request-back, entry-back}

pub length-stored : (ns : List ℕ) (k : ℕ) (vs : List ℕ) → length (sets ns k vs) ≡ length ns
length-stored ns k vs = length-sets ns k vs

pub request-stored : (ns : List ℕ) (i : ℕ) (q : Request) → i < length (requests_of ns) → requests_of (sets ns (i * request_width) (request_numbers q)) ≡ set (requests_of ns) i q
request-stored [] i q h = absurd (omega arith)
request-stored (a ∷ []) i q h = absurd (omega arith)
request-stored (a ∷ b ∷ []) i q h = absurd (omega arith)
request-stored (a ∷ b ∷ c ∷ []) i q h = absurd (omega arith)
request-stored (a ∷ b ∷ c ∷ d ∷ ns) zero q h = ap (λ (r : Request). r ∷ requests_of ns) (request-back q)
request-stored (a ∷ b ∷ c ∷ d ∷ ns) (suc i) q h =
    simp (suc-mul, unary_clauses) (ap (λ (l : List Request). request_of a b c d ∷ l) (request-stored ns i q (omega arith)))

pub entry-stored : (ns : List ℕ) (i : ℕ) (e : Entry) → i < length (entries_of ns) → entries_of (sets ns (i * entry_width) (entry_numbers e)) ≡ set (entries_of ns) i e
entry-stored [] i e h = absurd (omega arith)
entry-stored (a ∷ []) i e h = absurd (omega arith)
entry-stored (a ∷ b ∷ []) i e h = absurd (omega arith)
entry-stored (a ∷ b ∷ c ∷ ns) zero e h = ap (λ (r : Entry). r ∷ entries_of ns) (entry-back e)
entry-stored (a ∷ b ∷ c ∷ ns) (suc i) e h =
    simp (suc-mul, unary_clauses) (ap (λ (l : List Entry). entry_of a b c ∷ l) (entry-stored ns i e (omega arith)))
