-- Lists of which each cell is a record, lists of numbers with a record set, and lists with records stored one after another.
use Rattle.std.specs.Prelude.{ℕ, suc, ◌*◌, Bool, true, List, [], ◌∷◌}
use Rattle.std.proofs.lemmas.List.Edits.{sets}
use Rattle.protocol_types.specs.declared.Request.{Request}
use Rattle.protocol_types.specs.declared.Entry.{Entry}
use Rattle.host_decoding.specs.Records.{request_width, entry_width}
use Rattle.host_encoding.specs.Numbers.{request_numbers, entry_numbers}

-- each cell is a record
abbrev pub same : {A : Type 0} → List A → List A
same xs = xs

-- so that none is left over
abbrev pub always : {A : Type 0} → List A → Bool
always xs = true

-- request i is set
abbrev pub request_set : List ℕ → ℕ → Request → List ℕ
request_set ns i q = sets ns (i * request_width) (request_numbers q)

-- entry i is set
abbrev pub entry_set : List ℕ → ℕ → Entry → List ℕ
entry_set ns i e = sets ns (i * entry_width) (entry_numbers e)

-- these records stored one after another, from place k on; `stored l k x` is the list with record k set
abbrev pub stored_from : {A R : Type 0} → (List A → ℕ → R → List A) → List A → ℕ → List R → List A
stored_from stored l k [] = l
stored_from stored l k (x ∷ xs) = stored_from stored (stored l k x) (suc k) xs

-- the same from the front on
abbrev pub filled : {A R : Type 0} → (List A → ℕ → R → List A) → List A → List R → List A
filled stored l xs = stored_from stored l 0 xs
