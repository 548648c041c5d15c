-- The requests as numbers, request by request: what holds before each, that one more keeps it, and what it says of a refused one and at the end. Assumes nothing.
use Prim.Native.Nat.{ℕ, zero, suc, ◌+◌, ◌<◌, ◌≤◌}
use mathlib.Core.Path.{◌≡◌, refl, sym, ap, ◌∙◌, subst}
use mathlib.Core.Logic.{◌≢◌}
use mathlib.Core.Bool.{cond}
use mathlib.Core.List.{List, [], ◌∷◌, ◌++◌}
use native.Mathlib.Omega.{arith}
use lib.ListN.{length, get_or, set, take, drop, length-set}
use lib.Dec.{eqb}
use borrow.Author.Tests.{eqb-false, ne_eqb}
use Rattle.std.specs.Prelude.{Some, slice_get}
use Rattle.std.proofs.lemmas.Option.{slice_get_within, get_or_from_slice_get}
use Rattle.protocol_types.specs.Lists.{zeros}
use Rattle.protocol_types.specs.Refusals.{no_refusal, first_of, number}
use Rattle.protocol_types.specs.Conditions.{request_refusal}
use Rattle.protocol_types.specs.declared.Setup.{Setup}
use Rattle.protocol_types.specs.declared.Request.{Request}
use Rattle.protocol_types.specs.declared.Refusal.{Refusal}
use Rattle.protocol_types.proofs.Conditions.{no-request}
use Rattle.best_positions.specs.Position.{asked, asked_all}
use Rattle.best_positions.specs.Best.{requests_refusal, requests_place}
use Rattle.best_steps.specs.Steps.{AreAsked, IsFirstRefused}
use Rattle.protocol_types.proofs.Refusals.{number-is}

-- ---- lists

-- the first n numbers, with one more stored behind them
take-set : (l : List ℕ) (n x : ℕ) → n < length l → take (suc n) (set l n x) ≡ take n l ++ x ∷ []
take-set [] n x h = absurd (omega arith)
take-set (y ∷ l) zero x h = refl
take-set (y ∷ l) (suc n) x h = ap (λ z. y ∷ z) (take-set l n x (omega arith))

asked-more : (s : Setup) (qs : List Request) (k : ℕ) → k < length qs → asked_all s (take (suc k) qs) ≡ asked_all s (take k qs) ++ asked s (get_or qs k no-request) ∷ []
asked-more s [] k h = absurd (omega arith)
asked-more s (q ∷ qs) zero h = refl
asked-more s (q ∷ qs) (suc k) h = ap (λ z. asked s q ∷ z) (asked-more s qs k (omega arith))

take_all : {A : Type 0} (l : List A) → take (length l) l ≡ l
take_all [] = refl
take_all (x ∷ l) = ap (λ z. x ∷ z) (take_all l)

drop_all : {A : Type 0} (l : List A) → drop (length l) l ≡ []
drop_all [] = refl
drop_all (x ∷ l) = drop_all l

-- the requests from place k on
drop-next : (qs : List Request) (k : ℕ) → k < length qs → drop k qs ≡ get_or qs k no-request ∷ drop (suc k) qs
drop-next [] k h = absurd (omega arith)
drop-next (q ∷ qs) zero h = refl
drop-next (q ∷ qs) (suc k) h = drop-next qs k (omega arith)

-- ---- refusals and places

place-on : (r n k : ℕ) → r ≡ no_refusal → k + cond (eqb r no_refusal) (suc n) 0 ≡ suc k + n
place-on r n k e = rw e (omega arith)

place_here : (r n k : ℕ) → r ≢ no_refusal → k + cond (eqb r no_refusal) (suc n) 0 ≡ k
place_here r n k d = rw (ne_eqb r no_refusal d) (omega arith)

first_on : (r n : ℕ) → r ≡ no_refusal → first_of r n ≡ n
first_on r n e = rw e

first-here : (r n : ℕ) → r ≢ no_refusal → first_of r n ≡ r
first-here r n d = rw (ne_eqb r no_refusal d)

-- ---- the requests before place k passed, and their numbers are taken

pub record Taken (s : Setup) (qs : List Request) (k : ℕ) (asks : List ℕ) : Type 0 where
  pub many : length asks ≡ 24
  pub numbers : take k asks ≡ asked_all s (take k qs)
  pub refusal-left : requests_refusal s qs ≡ requests_refusal s (drop k qs)
  pub place-left : requests_place s qs ≡ k + requests_place s (drop k qs)

pub taken-none : (s : Setup) (qs : List Request) → Taken s qs 0 (zeros 24)
taken-none s qs = record { many = refl; numbers = refl; refusal-left = refl; place-left = omega arith }

pub taken-all : (s : Setup) (qs : List Request) (asks : List ℕ) (k : ℕ) → k ≡ length qs → Taken s qs k asks → AreAsked s qs asks
taken-all s qs asks k e t =
    let all : Taken s qs (length qs) asks = subst (λ n. Taken s qs n asks) e t in record {
      passed = all.refusal-left ∙ ap (requests_refusal s) (drop_all qs);
      many = t.many;
      numbers = all.numbers ∙ ap (asked_all s) (take_all qs);
    }

module _ (s : Setup) (qs : List Request) (k : ℕ) (asks : List ℕ) (t : Taken s qs k asks) (q : Request) (here : slice_get qs k ≡ Some q) where
  within : k < length qs
  within = slice_get_within qs k q here

  is-next : get_or qs k no-request ≡ q
  is-next = get_or_from_slice_get qs k q no-request here

  left_is : drop k qs ≡ q ∷ drop (suc k) qs
  left_is = drop-next qs k within ∙ ap (λ (r : Request). r ∷ drop (suc k) qs) is-next

  pub refused-here : (r : Refusal) → number r ≡ request_refusal s 0 q → IsFirstRefused s qs (record { refusal = r; place = k })
  refused-here r e =
      let d : request_refusal s 0 q ≢ no_refusal = eqb-false _ _ (number-is r _ e) in record {
        refusal = e ∙ sym (t.refusal-left ∙ ap (requests_refusal s) left_is ∙ first-here (request_refusal s 0 q) (requests_refusal s (drop (suc k) qs)) d);
        place = sym (t.place-left ∙ ap (λ l. k + requests_place s l) left_is ∙ place_here (request_refusal s 0 q) (requests_place s (drop (suc k) qs)) k d);
      }

  pub taken-more : (j : ℕ) → j ≡ suc k → length qs ≤ 24 → request_refusal s 0 q ≡ no_refusal → Taken s qs j (set asks k (asked s q))
  taken-more j is-j few ok = subst (λ n. Taken s qs n (set asks k (asked s q))) (sym is-j) (record {
    many = length-set asks k (asked s q) ∙ t.many;
    numbers =
        take-set asks k (asked s q) (omega (arith, within, few, t.many)) ∙ ap (λ l. l ++ asked s q ∷ []) t.numbers
        ∙ ap (λ (r : Request). asked_all s (take k qs) ++ asked s r ∷ []) (sym is-next) ∙ sym (asked-more s qs k within);
    refusal-left = t.refusal-left ∙ ap (requests_refusal s) left_is ∙ first_on (request_refusal s 0 q) (requests_refusal s (drop (suc k) qs)) ok;
    place-left = t.place-left ∙ ap (λ l. k + requests_place s l) left_is ∙ place-on (request_refusal s 0 q) (requests_place s (drop (suc k) qs)) k ok;
  })
