-- The loop over a schedule's entries: what holds at each place, that an entry keeps it or is refused as the verdict says, and what it says after the last entry.
-- Assumes nothing.
use Prim.Native.Nat.{ℕ, zero, suc, ◌+◌, ◌*◌, ◌≤◌, ◌<◌}
use mathlib.Core.Path.{◌≡◌, refl, sym, ap, ◌∙◌}
use mathlib.Core.Bool.{Bool, true, false, cond}
use mathlib.Core.List.{List, [], ◌∷◌}
use native.Mathlib.Numerals.{add-one}
use native.Mathlib.Omega.{arith}
use lib.ListN.{length, take, drop, drop_of_length-le}
use lib.Seq.{drop-cons}
use lib.Dec.{eqb}
use borrow.Author.Tests.{eq-eqb}
use Rattle.std.specs.List.{slice_get}
use Rattle.std.specs.Prelude.{Some}
use Rattle.std.proofs.lemmas.Option.{slice_get_within, get_or_from_slice_get}
use Rattle.protocol_types.specs.Lists.{tail}
use Rattle.protocol_types.specs.Refusals.{no_refusal, requests_left, number}
use Rattle.protocol_types.specs.Board.{price_limit, Fits}
use Rattle.protocol_types.specs.Answers.{Accepted, Refused}
use Rattle.protocol_types.specs.declared.Setup.{Setup}
use Rattle.protocol_types.specs.declared.Request.{Request}
use Rattle.protocol_types.specs.declared.Bill.{Bill}
use Rattle.protocol_types.specs.declared.Entry.{Entry}
use Rattle.protocol_types.specs.declared.Entry.TheVariants.{Fetch, WriteBack, Drop, Complete, CompleteByBroadcast}
use Rattle.protocol_types.specs.declared.Refusal.{Refusal}
use Rattle.protocol_types.proofs.Conditions.{no-request}
use Rattle.protocol.specs.Accounts.{nothing, plus, cycles}
use Rattle.protocol.specs.Rival.{Rival, RivalSized, no_copies, played, left, cost, refusal, end_refusal}
use Rattle.protocol.specs.Pricer.{Verdict, accepted, refused, ending, judged, verdict, answer_to, copies_after}
use Rattle.protocol.proofs.Rival.{sized-no_copies, sized-played}
use Rattle.protocol_types.proofs.Refusals.{number-refuses}
use Rattle.rival_schedule.proofs.Laws.{cheap}
use Rattle.rival_pricer.specs.Priced.{completes}

-- ---- what is left of a list

pub from-place : {A : Type 0} (l : List A) (k : ℕ) (x : A) → slice_get l k ≡ Some x → drop k l ≡ x ∷ drop (k + 1) l
from-place l k x is =
    drop-cons l k x (slice_get_within l k x is)
    ∙ (λ j. get_or_from_slice_get l k x x is j ∷ drop (sym (add-one k) j) l)

drop-tail : {A : Type 0} (n : ℕ) (l : List A) → drop (suc n) l ≡ tail (drop n l)
drop-tail zero [] = refl
drop-tail zero (x ∷ l) = refl
drop-tail (suc n) [] = refl
drop-tail (suc n) (x ∷ l) = drop-tail n l

-- ---- an entry knows the next request alone

module _ (s : Setup) (r : Rival) where
  refusal-alone : (qs : List Request) (e : Entry) → refusal s r (take 1 qs) e ≡ refusal s r qs e
  refusal-alone qs (Fetch i b) = refl
  refusal-alone qs (WriteBack i b) = refl
  refusal-alone qs (Drop i b) = refl
  refusal-alone [] Complete = refl
  refusal-alone (q ∷ qs) Complete = refl
  refusal-alone [] CompleteByBroadcast = refl
  refusal-alone (q ∷ qs) CompleteByBroadcast = refl

  played-alone : (qs : List Request) (e : Entry) → played s r (take 1 qs) e ≡ played s r qs e
  played-alone qs (Fetch i b) = refl
  played-alone qs (WriteBack i b) = refl
  played-alone qs (Drop i b) = refl
  played-alone [] Complete = refl
  played-alone (q ∷ qs) Complete = refl
  played-alone qs CompleteByBroadcast = refl

  cost-alone : (qs : List Request) (e : Entry) → cost s r (take 1 qs) e ≡ cost s r qs e
  cost-alone qs (Fetch i b) = refl
  cost-alone qs (WriteBack i b) = refl
  cost-alone qs (Drop i b) = refl
  cost-alone [] Complete = refl
  cost-alone (q ∷ qs) Complete = refl
  cost-alone [] CompleteByBroadcast = refl
  cost-alone (q ∷ qs) CompleteByBroadcast = refl

-- ---- the requests left after it

left-completed : (qs : List Request) (e : Entry) → completes e ≡ true → left qs e ≡ tail qs
left-completed qs (Fetch i b) t = cc
left-completed qs (WriteBack i b) t = cc
left-completed qs (Drop i b) t = cc
left-completed qs Complete t = refl
left-completed qs CompleteByBroadcast t = refl

left-other : (qs : List Request) (e : Entry) → completes e ≡ false → left qs e ≡ qs
left-other qs (Fetch i b) f = refl
left-other qs (WriteBack i b) f = refl
left-other qs (Drop i b) f = refl
left-other qs Complete f = cc
left-other qs CompleteByBroadcast f = cc

-- as the index of the next request tells it
pub next-completed : (qs : List Request) (n : ℕ) (e : Entry) → completes e ≡ true → drop (n + 1) qs ≡ left (drop n qs) e
next-completed qs n e t =
    ap (λ (k : ℕ). drop k qs) (add-one n) ∙ drop-tail n qs ∙ sym (left-completed (drop n qs) e t)

pub next-other : (qs : List Request) (n : ℕ) (e : Entry) → completes e ≡ false → drop n qs ≡ left (drop n qs) e
next-other qs n e f = sym (left-other (drop n qs) e f)

module _ (s : Setup) (es : List Entry) (qs : List Request) where
  -- at place a, where k requests are completed and c cycles are spent: the verdict on what is left is the whole verdict
  pub record Inv (r : Rival) (a k c : ℕ) : Type 0 where
    pub sized : RivalSized s r
    pub low : c ≤ price_limit * a
    pub behind : k ≤ a
    pub spent : Bill
    pub cost-is : cycles spent ≡ c
    pub same : judged s r (drop k qs) (drop a es) a spent ≡ verdict s qs es

  pub inv-start : (r : Rival) → r ≡ no_copies s → Inv r 0 0 0
  unfolding verdict
  inv-start r e = rw e record {
    sized = sized-no_copies s;
    low = omega arith;
    behind = omega arith;
    spent = nothing;
    cost-is = refl;
    same = refl;
  }

  module _ (r : Rival) (a k c : ℕ) (i : Inv r a k c) where
    -- ---- the entry at the place, which is e

    module _ (e : Entry) (is : slice_get es a ≡ Some e) where
      -- the verdict after it
      onward : cond (eqb (refusal s r (drop k qs) e) no_refusal)
          (judged s (played s r (drop k qs) e) (left (drop k qs) e) (drop (a + 1) es) (a + 1) (plus i.spent (cost s r (drop k qs) e)))
          (refused (refusal s r (drop k qs) e) a)
          ≡ verdict s qs es
      onward = ap (λ (l : List Entry). judged s r (drop k qs) l a i.spent) (sym (from-place es a e is)) ∙ i.same

      pub refused-there : (x : Refusal) → refusal s r (take 1 (drop k qs)) e ≡ number x → answer_to (verdict s qs es) ≡ Refused (number x) a
      refused-there x meets =
          let is-x : refusal s r (drop k qs) e ≡ number x = sym (refusal-alone s r (drop k qs) e) ∙ meets in
          ap answer_to (sym onward) ∙ rw (is-x, number-refuses x)

      pub played-there : Fits s → refusal s r (take 1 (drop k qs)) e ≡ no_refusal
          → (n : ℕ) → n ≡ cycles (cost s r (take 1 (drop k qs)) e) → (after : Rival) → after ≡ played s r (take 1 (drop k qs)) e
          → (m : ℕ) → m ≤ a + 1 → drop m qs ≡ left (drop k qs) e → Inv after (a + 1) m (c + n)
      played-there fits passes n n-is after after-is m behind rest =
          let passed : refusal s r (drop k qs) e ≡ no_refusal = sym (refusal-alone s r (drop k qs) e) ∙ passes in
          let bill : Bill = plus i.spent (cost s r (drop k qs) e) in
          let next : Verdict = judged s (played s r (drop k qs) e) (left (drop k qs) e) (drop (a + 1) es) (a + 1) bill in
          record {
            sized = rw after-is (sized-played s r i.sized (take 1 (drop k qs)) e);
            low = omega (arith, i.low, n-is, cheap s fits r (take 1 (drop k qs)) e);
            behind = behind;
            spent = bill;
            cost-is = omega (arith, i.cost-is, n-is, ap cycles (cost-alone s r (drop k qs) e));
            same =
                (λ j. judged s ((after-is ∙ played-alone s r (drop k qs) e) j) (rest j) (drop (a + 1) es) (a + 1) bill)
                ∙ sym (ap (λ (z : Bool). cond z next (refused (refusal s r (drop k qs) e) a)) (eq-eqb (refusal s r (drop k qs) e) no_refusal passed))
                ∙ onward;
          }

    -- ---- after the last entry

    module _ (last : length es ≤ a) where
      at-end : ending r i.spent a (end_refusal (drop k qs)) ≡ verdict s qs es
      at-end = ap (λ (l : List Entry). judged s r (drop k qs) l a i.spent) (sym (drop_of_length-le es {i = a} last)) ∙ i.same

      pub left-over : k < length qs → answer_to (verdict s qs es) ≡ Refused requests_left a
      left-over t = ap answer_to (sym at-end) ∙ rw (drop-cons qs k no-request t)

      pub ended : length qs ≤ k → (answer_to (verdict s qs es) ≡ Accepted c) × (copies_after s (verdict s qs es) ≡ r)
      ended t =
          let e : accepted r i.spent ≡ verdict s qs es =
          ap (λ (l : List Request). ending r i.spent a (end_refusal l)) (sym (drop_of_length-le qs {i = k} t)) ∙ at-end in
          (ap answer_to (sym e) ∙ ap Accepted i.cost-is, ap (copies_after s) (sym e))
