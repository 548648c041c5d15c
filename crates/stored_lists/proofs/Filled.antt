-- Lists with records stored from the front on: one more record, and which cells they have. Assumes nothing.
use Prim.Native.Nat.{ℕ, suc, ◌+◌, ◌*◌, ◌≤◌}
use mathlib.Core.Path.{◌≡◌, refl, sym, ap, ◌∙◌}
use mathlib.Core.List.{List, [], ◌∷◌, ◌++◌}
use native.Mathlib.Omega.{arith}
use lib.ListN.{length, set, drop}
use lib.Seq.{sets, sets-eq}
use Rattle.protocol_types.specs.declared.Request.{Request}
use Rattle.protocol_types.specs.declared.Entry.{Entry}
use Rattle.host_decoding.specs.Records.{request_width, entry_width}
use Rattle.host_encoding.specs.Numbers.{request_numbers, list_numbers, entry_numbers, schedule_numbers}
use Rattle.host_encoding.proofs.Numbers.{length-numbers, length-schedule}
use Rattle.stored_lists.specs.Lists.{request_set, entry_set, stored_from, filled}

-- ---- one more record, whatever the cells are

module _ {A R : Type 0} (stored : List A → ℕ → R → List A) where
  stored-more : (l : List A) (k : ℕ) (xs : List R) (x : R) → stored_from stored l k (xs ++ (x ∷ [])) ≡ stored (stored_from stored l k xs) (k + length xs) x
  stored-more l k [] x = ap (λ (i : ℕ). stored l i x) (omega arith)
  stored-more l k (y ∷ ys) x =
      stored-more (stored l k y) (suc k) ys x ∙ ap (λ (i : ℕ). stored (stored_from stored (stored l k y) (suc k) ys) i x) (omega arith)

  pub filled-more : (l : List A) (xs : List R) (x : R) → filled stored l (xs ++ (x ∷ [])) ≡ stored (filled stored l xs) (length xs) x
  filled-more l xs x = stored-more l 0 xs x ∙ ap (λ (i : ℕ). stored (filled stored l xs) i x) (omega arith)

-- ---- cells that are records

cells-set : {A : Type 0} (l : List A) (k : ℕ) (xs : List A) → stored_from set l k xs ≡ sets l k xs
cells-set l k [] = refl
cells-set l k (x ∷ xs) = cells-set (set l k x) (suc k) xs

pub records-filled : {A : Type 0} (l xs : List A) → length xs ≤ length l → filled set l xs ≡ xs ++ drop (length xs) l
records-filled l xs h = cells-set l 0 xs ∙ sets-eq xs l 0 (omega arith) ∙ ap (λ (i : ℕ). xs ++ drop i l) (omega arith)

-- ---- cells that are numbers

sets-append : (l : List ℕ) (k : ℕ) (vs ws : List ℕ) → sets l k (vs ++ ws) ≡ sets (sets l k vs) (k + length vs) ws
sets-append l k [] ws = ap (λ (i : ℕ). sets l i ws) (omega arith)
sets-append l k (v ∷ vs) ws = sets-append (set l k v) (suc k) vs ws ∙ ap (λ (i : ℕ). sets (sets (set l k v) (suc k) vs) i ws) (omega arith)

requests-set : (ns : List ℕ) (k : ℕ) (qs : List Request) → stored_from request_set ns k qs ≡ sets ns (k * request_width) (list_numbers qs)
requests-set ns k [] = refl
requests-set ns k (q ∷ qs) =
    requests-set (request_set ns k q) (suc k) qs ∙ ap (λ (i : ℕ). sets (request_set ns k q) i (list_numbers qs)) (omega arith)
    ∙ sym (sets-append ns (k * request_width) (request_numbers q) (list_numbers qs))

pub requests-filled : (ns : List ℕ) (qs : List Request) → length qs * request_width ≤ length ns
    → filled request_set ns qs ≡ list_numbers qs ++ drop (length qs * request_width) ns
requests-filled ns qs h =
    requests-set ns 0 qs ∙ sets-eq (list_numbers qs) ns 0 (omega (arith, length-numbers qs)) ∙ ap (λ (i : ℕ). list_numbers qs ++ drop i ns) (omega (arith, length-numbers qs))

entries-set : (ns : List ℕ) (k : ℕ) (es : List Entry) → stored_from entry_set ns k es ≡ sets ns (k * entry_width) (schedule_numbers es)
entries-set ns k [] = refl
entries-set ns k (e ∷ es) =
    entries-set (entry_set ns k e) (suc k) es ∙ ap (λ (i : ℕ). sets (entry_set ns k e) i (schedule_numbers es)) (omega arith)
    ∙ sym (sets-append ns (k * entry_width) (entry_numbers e) (schedule_numbers es))

pub entries-filled : (ns : List ℕ) (es : List Entry) → length es * entry_width ≤ length ns
    → filled entry_set ns es ≡ schedule_numbers es ++ drop (length es * entry_width) ns
entries-filled ns es h =
    entries-set ns 0 es ∙ sets-eq (schedule_numbers es) ns 0 (omega (arith, length-schedule es)) ∙ ap (λ (i : ℕ). schedule_numbers es ++ drop i ns) (omega (arith, length-schedule es))
