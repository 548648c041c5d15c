-- What the checks let through, and what the list is then; a refusal leaves it as it was. Assumes nothing.
use Prim.Native.Nat.{ℕ, ◌+◌}
use native.Mathlib.Numerals.{add-one}
use mathlib.Core.Path.{◌≡◌, refl, sym, ap, ◌∙◌}
use mathlib.Core.Bool.{Bool, true, false}
use mathlib.Core.List.{List}
use lib.ListN.{length, set, length-set}
use Rattle.protocol_types.specs.Refusals.{no_refusal, number}
use Rattle.protocol_types.proofs.Refusals.{number-is}
use Rattle.protocol_types.specs.declared.Request.{Request}
use Rattle.protocol_types.specs.declared.Refusal.{Refusal}
use Rattle.stored_lists.specs.Lists.{filled}
use Rattle.stored_lists.proofs.Filled.{filled-more}
use Rattle.protocol_types.specs.Board.{Fits}
use Rattle.protocol_types.proofs.Board.{setup-fits}
use Rattle.protocol.specs.Generator.{xorshift, request_drawn, workload, request_after, generate_refusal}
use Rattle.protocol.proofs.Generator.{length-workload, workload-more, draw_after, draw_after-suc, generate-passed}
use Rattle.protocol_types.specs.declared.Setup.{Setup}
use Rattle.generator.specs.Lists.{list_refusal, list_generated}
use Rattle.host_decoding.proofs.Whole.{partial-refuses}

pub record Through (w : Bool) (s : Setup) (seed n : ℕ) : Type 0 where
  pub is_whole : w ≡ true
  pub accepted : generate_refusal s seed n ≡ no_refusal
  pub fits : Fits s

pub goes_through : (w : Bool) (s : Setup) (seed n : ℕ) → list_refusal w s seed n ≡ no_refusal → Through w s seed n
unfolding list_refusal
goes_through true s seed n e = record { is_whole = refl; accepted = e; fits = setup-fits s (generate-passed s seed n e).accepted }
goes_through false s seed n e = absurd (partial-refuses s e)

-- a refusal leaves the list as it was
pub refused-stays : {A : Type 0} (whole : List A → Bool) (records : List A → List Request) (stored : List A → ℕ → Request → List A) (s : Setup) (seed : ℕ) (l : List A)
    (e : Refusal) → number e ≡ list_refusal (whole l) s seed (length (records l)) → l ≡ list_generated whole records stored s seed l
unfolding list_generated
refused-stays whole records stored s seed l e is-e =
    rw (number-is e (list_refusal (whole l) s seed (length (records l))) is-e)

-- without one each request is stored
pub all-stored : {A : Type 0} (whole : List A → Bool) (records : List A → List Request) (stored : List A → ℕ → Request → List A) (s : Setup) (seed : ℕ) (l : List A)
    → list_refusal (whole l) s seed (length (records l)) ≡ no_refusal → filled stored l (workload s seed (length (records l))) ≡ list_generated whole records stored s seed l
unfolding list_generated
all-stored whole records stored s seed l e = rw e

-- ---- the loop

pub all_drawn : (s : Setup) (x a b d : ℕ) (q : Request) → a ≡ xorshift x → b ≡ xorshift a → d ≡ xorshift b → q ≡ request_drawn s a b d → q ≡ request_after s x
unfolding request_after
all_drawn s x a b d q is-a is-b is-d is-q = rw (is-q, is-d, is-b, is-a)

pub last-drawn : (seed k x a b d : ℕ) → x ≡ draw_after seed k → a ≡ xorshift x → b ≡ xorshift a → d ≡ xorshift b → d ≡ draw_after seed (k + 1)
last-drawn seed k x a b d is-x is-a is-b is-d = rw (is-d, is-b, is-a, is-x, add-one k) (sym (draw_after-suc seed k))

pub one_more : {A : Type 0} (stored : List A → ℕ → Request → List A) (lent : List A) (s : Setup) (seed k x : ℕ) (l m : List A) (q : Request)
    → l ≡ filled stored lent (workload s seed k) → x ≡ draw_after seed k → q ≡ request_after s x → m ≡ stored l k q → m ≡ filled stored lent (workload s seed (k + 1))
one_more stored lent s seed k x l m q is-l is-x is-q is-m =
    let r : Request = request_after s (draw_after seed k) in
    rw (is-m, is-q, is-x, is-l, add-one k, workload-more s seed k)
    (ap (λ (i : ℕ). stored (filled stored lent (workload s seed k)) i r) (sym (length-workload s seed k)) ∙ sym (filled-more stored lent (workload s seed k) r))

pub still_room : {A : Type 0} (records : List A → List Request) (l m : List A) (n i : ℕ) (q : Request) {t : List A}
    → m ≡ t → records t ≡ set (records l) i q → length (records l) ≡ n → length (records m) ≡ n
still_room records l m n i q is-m back room = rw (is-m, back) (length-set (records l) i q ∙ room)
