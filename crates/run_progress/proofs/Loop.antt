-- The loop of a run, without the machine, of any engine: what holds where k requests are taken, that a request that is taken keeps it, and what it says at the end and at a refusal.
-- Assumes nothing.
use mathlib.Core.Path.{◌≡◌, refl, sym, ◌∙◌, ap}
use mathlib.Core.Bool.{Bool, true, false, cond}
use mathlib.Core.List.{List, [], ◌∷◌, ◌++◌}
use Prim.Native.Nat.{ℕ, suc, ◌+◌, ◌<◌, ◌≤◌}
use native.Mathlib.Numerals.{add-one}
use native.Mathlib.Omega.{arith}
use lib.ListN.{length, set, take, drop, take-append-drop, length-set, drop_of_length-le}
use lib.Seq.{length-take-le, drop-cons, take-suc-set, drop-set-lt}
use lib.Dec.{eqb}
use Rattle.std.specs.Prelude.{Some, slice_get}
use Rattle.std.proofs.lemmas.Option.{slice_get_within, get_or_from_slice_get}
use Rattle.protocol_types.specs.Lists.{tail}
use Rattle.protocol_types.specs.Refusals.{no_refusal}
use Rattle.protocol_types.specs.Board.{Fits}
use Rattle.protocol.specs.Accounts.{entered}
use Rattle.protocol.specs.Engines.{Engine, answered, Outcome, ended_by, onward, run_from, run}
use Rattle.protocol_types.specs.declared.Setup.{Setup}
use Rattle.protocol_types.specs.declared.Account.{Account}
use Rattle.protocol.proofs.Engines.{Serving}
use Rattle.run_progress.specs.Progress.{Ready, Taken, Refused, outcome}
use Rattle.run_progress.proofs.Laws.{Passed, ready_served}

-- ---- an outcome, with values before it

abbrev preceded : {T : Type 0} → List ℕ → Outcome T → Outcome T
preceded [] o = o
preceded (x ∷ xs) o = onward x (preceded xs o)

preceded-one : {T : Type 0} (xs : List ℕ) (x : ℕ) (o : Outcome T) → preceded (xs ++ (x ∷ [])) o ≡ preceded xs (onward x o)
preceded-one [] x o = refl
preceded-one (y ∷ xs) x o = ap (onward y) (preceded-one xs x o)

-- k requests were taken, and the next is refused by n, or there is none and n is 0
abbrev halted : {T : Type 0} → ℕ → ℕ → T → Account → List ℕ → Outcome T
halted k n t a vs = outcome (answered k n (cond (eqb n no_refusal) 0 k)) t a vs

first-place : (y : Bool) → ◌≡◌ {A = ℕ} 0 (cond y 0 0)
first-place true = refl
first-place false = refl

next_place : (y : Bool) (k : ℕ) → cond y 0 (suc (cond y 0 k)) ≡ cond y 0 (suc k)
next_place true k = refl
next_place false k = refl

preceded-ended : {T : Type 0} (xs : List ℕ) (n : ℕ) (t : T) (a : Account) (vs : List ℕ) → preceded xs (ended_by n t a vs) ≡ halted (length xs) n t a (xs ++ vs)
preceded-ended [] n t a vs = ap (λ (k : ℕ). outcome (answered 0 n k) t a vs) (first-place (eqb n no_refusal))
preceded-ended (x ∷ xs) n t a vs =
    ap (onward x) (preceded-ended xs n t a vs) ∙ ap (λ (k : ℕ). outcome (answered (suc (length xs)) n k) t a (x ∷ (xs ++ vs))) (next_place (eqb n no_refusal) (length xs))

-- where no more is run
halts : {T : Type 0} (k : ℕ) (n : ℕ) (t : T) (a : Account) (vs : List ℕ) → k ≤ length vs
    → preceded (take k vs) (ended_by n t a (drop k vs)) ≡ halted k n t a vs
halts k n t a vs h =
    preceded-ended (take k vs) n t a (drop k vs)
    ∙ ap (λ (j : ℕ). halted j n t a (take k vs ++ drop k vs)) (length-take-le k vs h)
    ∙ ap (halted k n t a) (take-append-drop k vs)

tail-drop : (l : List ℕ) (k : ℕ) → k < length l → tail (drop k l) ≡ drop (k + 1) l
tail-drop l k h = ap tail (drop-cons l k 0 h) ∙ ap (λ (j : ℕ). drop j l) (sym (add-one k))

module _ {T Q : Type 0} (s : Setup) (E : Engine T Q) (Good : T → Type 0) (Valid : Q → Type 0) (serving : Fits s → Serving s E Good Valid)
    (qs : List Q) (o : Outcome T) where
  -- what is left to run is the outcome `o` of the whole run: its values come behind those in place, its count and its place behind the count so far
  pub record Inv (k : ℕ) (t : T) (a : Account) (vs : List ℕ) : Type 0 where
    pub same : preceded (take k vs) (run_from E t a (drop k qs) (drop k vs)) ≡ o
    pub ready : Ready s Good t a
    pub as_many : length vs ≡ length qs

  -- ---- before the first request

  module _ (t : T) (a : Account) (vs : List ℕ) (is : o ≡ run E t a qs vs) where
    pub inv-start : E.run_refusal t a (length qs) vs ≡ no_refusal → Passed s Good t a (length qs) vs → Inv 0 t a vs
    unfolding run
    inv-start e p = record { same = sym (rw e at is); ready = p.ready; as_many = p.values }

    pub refused-start : eqb (E.run_refusal t a (length qs) vs) no_refusal ≡ false → outcome (answered 0 (E.run_refusal t a (length qs) vs) 0) t a vs ≡ o
    unfolding run
    refused-start e = sym (rw e at is)

  module _ (k : ℕ) (t : T) (a : Account) (vs : List ℕ) (i : Inv k t a vs) where
    -- ---- after the last

    pub inv-end : length qs ≡ k → outcome (answered k no_refusal 0) t a vs ≡ o
    inv-end e =
        sym (halts k no_refusal t a vs (omega (arith, i.as_many)))
        ∙ ap (λ (l : List Q). preceded (take k vs) (run_from E t a l (drop k vs))) (sym (drop_of_length-le qs {i = k} (omega arith)))
        ∙ i.same

    -- ---- at a request

    module _ (q : Q) (at : slice_get qs k ≡ Some q) where
      here : k < length vs
      here = omega (arith, slice_get_within qs k q at, i.as_many)

      one_more : drop k qs ≡ q ∷ drop (k + 1) qs
      one_more =
          drop-cons qs k q (slice_get_within qs k q at) ∙ ap (λ (x : Q). x ∷ drop (suc k) qs) (get_or_from_slice_get qs k q q at)
          ∙ ap (λ (j : ℕ). q ∷ drop j qs) (sym (add-one k))

      next : preceded (take k vs) (run_from E t a (q ∷ drop (k + 1) qs) (drop k vs)) ≡ o
      next = ap (λ (l : List Q). preceded (take k vs) (run_from E t a l (drop k vs))) (sym one_more) ∙ i.same

      module _ (u : T) (b : Account) where
        pub inv-refused : (n : ℕ) → eqb n no_refusal ≡ false → Refused E t a q u b n → outcome (answered k n k) u b vs ≡ o
        inv-refused n d r =
            rw (r.tables, r.account, r.refusal)
            (let e = rw r.refusal at d in
            ap (λ (y : Bool). outcome (answered k (E.refusal a.requests q) (cond y 0 k)) t a vs) (sym e)
            ∙ sym (halts k (E.refusal a.requests q) t a vs (omega (arith, here)))
            ∙ rw e at next)

        one_value : (v : ℕ) → take (k + 1) (set vs k v) ≡ take k vs ++ (v ∷ [])
        one_value v = ap (λ (j : ℕ). take j (set vs k v)) (add-one k) ∙ take-suc-set vs k v here

        rest-of-values : (v : ℕ) → drop (k + 1) (set vs k v) ≡ tail (drop k vs)
        rest-of-values v = drop-set-lt (k + 1) vs k v (omega arith) ∙ sym (tail-drop vs k here)

        pub inv-taken : (v : ℕ) → Taken E t a q u b v → Inv (k + 1) u b (set vs k v)
        inv-taken v r =
            rw (r.tables, r.account, r.value)
            (let w = E.value t q in
            record {
              same =
                  ap (λ (us : List ℕ). preceded us (run_from E (E.served t q) (entered a 1 (E.bill t q)) (drop (k + 1) qs) (drop (k + 1) (set vs k w)))) (one_value w)
                  ∙ preceded-one (take k vs) w _
                  ∙ ap (λ (l : List ℕ). preceded (take k vs) (onward w (run_from E (E.served t q) (entered a 1 (E.bill t q)) (drop (k + 1) qs) l))) (rest-of-values w)
                  ∙ rw r.passed at next;
              ready = ready_served s E Good Valid serving t a q i.ready r.passed;
              as_many = length-set vs k w ∙ i.as_many;
            })
