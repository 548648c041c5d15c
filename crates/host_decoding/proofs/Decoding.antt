-- What the number of an operation names; how many requests and entries a list of numbers names, and where the numbers of each stand. Assumes nothing.
use Prim.Native.Nat.{ℕ, zero, suc, ◌/◌, ◌<◌}
use mathlib.Core.Path.{◌≡◌, refl}
use mathlib.Core.List.{List, [], ◌∷◌}
use native.Mathlib.Nat.{suc-mul}
use native.Mathlib.Numerals.{unary_clauses}
use native.Mathlib.Omega.{arith}
use lib.ListN.{length, get_or}
use borrow.Author.Tests.{ne_eqb}
use Rattle.protocol_types.specs.declared.Operation.TheVariants.{Read, Write, Clear}
use Rattle.protocol_types.specs.declared.Request.{Request}
use Rattle.protocol_types.specs.declared.Entry.{Entry}
use Rattle.host_decoding.specs.Records.{operation_of, request_width, request_at, requests_of, entry_width, entry_at, entries_of}

-- ---- the number of an operation

pub write-named : (v x : ℕ) → operation_of 1 v x ≡ Write (record { 0 = v }) x
unfolding operation_of
write-named v x = refl

-- whatever the variable and the value are
pub clear-named : (v x : ℕ) → operation_of 2 v x ≡ Clear
unfolding operation_of
clear-named v x = refl

pub read_named : (o v x : ℕ) → (o ≡ 1 → ⊥) → (o ≡ 2 → ⊥) → operation_of o v x ≡ Read (record { 0 = v })
unfolding operation_of
read_named o v x w c = simp (ne_eqb o 1 w, ne_eqb o 2 c)

-- ---- four numbers a request

pub requests_counted : (ns : List ℕ) → length (requests_of ns) ≡ length ns / request_width
requests_counted [] = refl
requests_counted (i ∷ []) = refl
requests_counted (i ∷ o ∷ []) = refl
requests_counted (i ∷ o ∷ v ∷ []) = refl
requests_counted (i ∷ o ∷ v ∷ x ∷ ns) = omega (arith, requests_counted ns)

pub request-at : (ns : List ℕ) (k : ℕ) (d : Request) → k < length ns / request_width → request_at ns k ≡ get_or (requests_of ns) k d
request-at [] k d h = absurd (omega arith)
request-at (i ∷ []) k d h = absurd (omega arith)
request-at (i ∷ o ∷ []) k d h = absurd (omega arith)
request-at (i ∷ o ∷ v ∷ []) k d h = absurd (omega arith)
request-at (i ∷ o ∷ v ∷ x ∷ ns) zero d h = refl
request-at (i ∷ o ∷ v ∷ x ∷ ns) (suc k) d h = simp (suc-mul, unary_clauses) (simp unary_clauses at (request-at ns k d (omega arith)))

-- ---- three numbers an entry

pub entries_counted : (ns : List ℕ) → length (entries_of ns) ≡ length ns / entry_width
entries_counted [] = refl
entries_counted (k ∷ []) = refl
entries_counted (k ∷ i ∷ []) = refl
entries_counted (k ∷ i ∷ b ∷ ns) = omega (arith, entries_counted ns)

pub entry-at : (ns : List ℕ) (n : ℕ) (d : Entry) → n < length ns / entry_width → entry_at ns n ≡ get_or (entries_of ns) n d
entry-at [] n d h = absurd (omega arith)
entry-at (k ∷ []) n d h = absurd (omega arith)
entry-at (k ∷ i ∷ []) n d h = absurd (omega arith)
entry-at (k ∷ i ∷ b ∷ ns) zero d h = refl
entry-at (k ∷ i ∷ b ∷ ns) (suc n) d h = simp (suc-mul, unary_clauses) (simp unary_clauses at (entry-at ns n d (omega arith)))
