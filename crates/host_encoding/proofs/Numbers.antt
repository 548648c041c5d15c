-- The numbers of requests and of a schedule's entries: how many they are, and that they name the same again. Assumes nothing.
use Prim.Native.Nat.{ℕ, ◌*◌}
use mathlib.Core.Path.{◌≡◌, refl, sym, ap, ◌∙◌}
use mathlib.Core.List.{List, [], ◌∷◌, ◌++◌, append-nil, append_assoc}
use native.Mathlib.Omega.{arith}
use native.Mathlib.Nat.{suc-mul}
use lib.ListN.{length, length-append}
use Rattle.protocol_types.specs.declared.Request.{Request}
use Rattle.protocol_types.specs.declared.Operation.{Operation}
use Rattle.protocol_types.specs.declared.Operation.TheVariants.{Read, Write, Clear}
use Rattle.protocol_types.specs.declared.Entry.{Entry}
use Rattle.protocol_types.specs.declared.Entry.TheVariants.{Fetch, WriteBack, Drop, Complete, CompleteByBroadcast}
use Rattle.host_decoding.specs.Records.{request_width, operation_of, request_of, requests_of, entry_width, entry_of, entries_of}
use Rattle.host_encoding.specs.Numbers.{operation_number, variable_number, value_number, request_numbers, list_numbers, in_turn, kind_number, processor_number, block_number, entry_numbers, schedule_numbers}

-- ---- records of n numbers each

module _ {A : Type 0} (numbers : A → List ℕ) where
  length-each : (n : ℕ) → ((x : A) → length (numbers x) ≡ n) → (xs : List A) → length (in_turn numbers xs) ≡ length xs * n
  length-each n each [] = omega arith
  length-each n each (x ∷ xs) = simp (length-append, suc-mul) (omega (arith, each x, length-each n each xs))

  append-each : (xs ys : List A) → in_turn numbers (xs ++ ys) ≡ in_turn numbers xs ++ in_turn numbers ys
  append-each [] ys = refl
  append-each (x ∷ xs) ys = ap (λ (l : List ℕ). numbers x ++ l) (append-each xs ys) ∙ sym (append_assoc (numbers x) (in_turn numbers xs) (in_turn numbers ys))

-- ---- requests

pub length-numbers : (qs : List Request) → length (list_numbers qs) ≡ length qs * request_width
length-numbers [] = refl
length-numbers (q ∷ qs) = omega (arith, length-numbers qs)

pub numbers-append : (qs rs : List Request) → list_numbers (qs ++ rs) ≡ list_numbers qs ++ list_numbers rs
numbers-append [] rs = refl
numbers-append (q ∷ qs) rs = ap (λ (l : List ℕ). request_numbers q ++ l) (numbers-append qs rs)

operation-back : (o : Operation) → operation_of (operation_number o) (variable_number o) (value_number o) ≡ o
unfolding operation_of
operation-back (Read v) = refl
operation-back (Write v x) = refl
operation-back Clear = refl

pub request-back : (q : Request) → request_of q.processor (operation_number q.operation) (variable_number q.operation) (value_number q.operation) ≡ q
unfolding request_of
request-back q = ap (λ (o : Operation). record { processor = q.processor; operation = o }) (operation-back q.operation)

pub named_back : (qs : List Request) → requests_of (list_numbers qs) ≡ qs
named_back [] = refl
named_back (q ∷ qs) = rw (request-back q, named_back qs)

-- a read has operation 0 and value 0; a clear has operation 2, variable 0 and value 0
pub numbers-example :
    list_numbers (record { processor = 3; operation = Read (record { 0 = 122 }) } ∷ record { processor = 2; operation = Write (record { 0 = 61 }) 746858951 } ∷ record { processor = 1; operation = Clear } ∷ [])
    ≡ 3 ∷ 0 ∷ 122 ∷ 0 ∷ 2 ∷ 1 ∷ 61 ∷ 746858951 ∷ 1 ∷ 2 ∷ 0 ∷ 0 ∷ []
numbers-example = refl

-- ---- a schedule's entries

pub length-schedule : (es : List Entry) → length (schedule_numbers es) ≡ length es * entry_width
length-schedule = length-each entry_numbers entry_width (λ e. refl)

pub schedule-append : (es fs : List Entry) → schedule_numbers (es ++ fs) ≡ schedule_numbers es ++ schedule_numbers fs
schedule-append = append-each entry_numbers

pub entry-back : (e : Entry) → entry_of (kind_number e) (processor_number e) (block_number e) ≡ e
unfolding entry_of
entry-back (Fetch i b) = refl
entry-back (WriteBack i b) = refl
entry-back (Drop i b) = refl
entry-back Complete = refl
entry-back CompleteByBroadcast = refl

-- whatever numbers follow them
pub entries-named-before : (es : List Entry) (ns : List ℕ) → entries_of (schedule_numbers es ++ ns) ≡ es ++ entries_of ns
entries-named-before [] ns = refl
entries-named-before (e ∷ es) ns = rw (entry-back e, entries-named-before es ns)

pub entries-named-back : (es : List Entry) → entries_of (schedule_numbers es) ≡ es
entries-named-back es = ap entries_of (sym (append-nil (schedule_numbers es))) ∙ entries-named-before es [] ∙ append-nil es

-- a completion has processor 0 and block 0
pub schedule-example :
    schedule_numbers (Fetch 1 (record { 0 = 3 }) ∷ WriteBack 1 (record { 0 = 3 }) ∷ Drop 1 (record { 0 = 2 }) ∷ Complete ∷ CompleteByBroadcast ∷ [])
    ≡ 0 ∷ 1 ∷ 3 ∷ 1 ∷ 1 ∷ 3 ∷ 2 ∷ 1 ∷ 2 ∷ 3 ∷ 0 ∷ 0 ∷ 4 ∷ 0 ∷ 0 ∷ []
schedule-example = refl
