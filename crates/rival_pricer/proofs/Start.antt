-- What `map_err` tells of the answer that it was given; the price where 1, 10, 2 and 5 refuse and where they let the lists through; and over lists that may not be whole.
-- Assumes nothing.
use Prim.Native.Nat.{ℕ}
use mathlib.Core.Path.{◌≡◌, refl, sym, ap, subst, ◌∙◌}
use mathlib.Core.Bool.{Bool, true, false, cond}
use mathlib.Core.List.{List}
use lib.ListN.{length}
use borrow.Author.Tests.{eq-eqb}
use Rattle.std.specs.Prelude.{Result, Ok, Err, MatchResult, IsErrAnd}
use Rattle.std.proofs.lemmas.Result.{err_from_is_err_and}
use Rattle.protocol_types.specs.Refusals.{no_refusal, number}
use Rattle.protocol_types.specs.Board.{setup_refusal}
use Rattle.protocol_types.specs.Answers.{PriceAnswer, Refused}
use Rattle.protocol_types.specs.declared.Setup.{Setup}
use Rattle.protocol_types.specs.declared.Request.{Request}
use Rattle.protocol_types.specs.declared.Entry.{Entry}
use Rattle.protocol_types.specs.declared.Refusal.{Refusal}
use Rattle.protocol.specs.Rival.{Rival, no_copies}
use Rattle.protocol.specs.Pricer.{Verdict, accepted, refused, verdict, price_refusal, answer_to, price, copies_after, price_tables, in_numbers}
use Rattle.protocol.proofs.Pricer.{PricePassed, price-passed, price-numbers}
use Rattle.host_decoding.specs.Records.{partial_refusal}
use Rattle.protocol_types.proofs.Refusals.{number-refuses, number-first}
use Rattle.rival_pricer.specs.Priced.{price_of_lists, price_in_numbers_of_lists, price_tables_of_lists}

-- what `map_err` made of an answer tells it
pub was-ok : {A D E : Type 0} (Q : E → D → Type 0) (answer : Result A E) (made : Result A D)
    → MatchResult answer (λ x. made ≡ Ok x) (λ e. IsErrAnd made (Q e)) → (x : A) → made ≡ Ok x → answer ≡ Ok x
was-ok Q (Ok y) made m x is = cc
was-ok Q (Err y) made m x is = let p = err_from_is_err_and made m in let e = p.1 in cc

pub was-err : {A D E : Type 0} (Q : E → D → Type 0) (answer : Result A E) (made : Result A D)
    → MatchResult answer (λ x. made ≡ Ok x) (λ e. IsErrAnd made (Q e)) → (d : D) → made ≡ Err d → (e : E) × (answer ≡ Err e) × Q e d
was-err Q (Ok y) made m d is = let e : Ok y ≡ Err d = sym m ∙ is in absurd (cc)
was-err Q (Err y) made m d is =
    let p = err_from_is_err_and made m in
    let same : Err p.0 ≡ Err d = sym p.1 ∙ is in
    let e : p.0 ≡ d = cc in
    (y, refl, subst (Q y) e p.2)

-- a refused schedule leaves zeros
pub refused-tables : (s : Setup) (v : Verdict) (n k : ℕ) → answer_to v ≡ Refused n k → (t : Rival) → t ≡ no_copies s → copies_after s v ≡ t
refused-tables s (accepted r c) n k e t zeros = cc
refused-tables s (refused m j) n k e t zeros = sym zeros

-- ---- 1, 10, 2 and 5, for lists of n entries and m requests

module _ (s : Setup) (r : Rival) (qs : List Request) (es : List Entry) (n m : ℕ) (n-is : n ≡ length es) (m-is : m ≡ length qs) where
  pub start-refused : (x : Refusal) → number x ≡ price_refusal s r n m
      → (Refused (number x) 0 ≡ price s r qs es) × (r ≡ price_tables s r qs es)
  unfolding price price_tables
  start-refused x is =
      let e : number x ≡ price_refusal s r (length es) (length qs) = rw (← n-is, ← m-is) is in
      (rw (← e, number-refuses x), rw (← e, number-refuses x))

  module _ (allowed : no_refusal ≡ price_refusal s r n m) where
    passes : price_refusal s r (length es) (length qs) ≡ no_refusal
    passes = rw (← n-is, ← m-is) (sym allowed)

    pub start-knows : PricePassed s r (length es) (length qs)
    start-knows = price-passed s r (length es) (length qs) passes

    pub start-passed : {a : PriceAnswer} (t : Rival) → answer_to (verdict s qs es) ≡ a → copies_after s (verdict s qs es) ≡ t
        → (a ≡ price s r qs es) × (t ≡ price_tables s r qs es)
    unfolding price price_tables
    start-passed t is-a is-t =
        let p = eq-eqb (price_refusal s r (length es) (length qs)) no_refusal passes in
        (rw (p, is-a), rw (p, is-t))

-- ---- lists of which it is known whether both are whole

module _ (s : Setup) (r : Rival) (qs : List Request) (es : List Entry) where
  -- an answer, the same in numbers, and the tables
  abbrev pub Priced : Bool → PriceAnswer → Rival → Type 0
  Priced w a t =
      (a ≡ price_of_lists s r w qs es) × (in_numbers a ≡ price_in_numbers_of_lists s r w qs es) × (t ≡ price_tables_of_lists s r w qs es)

  pub price-whole : {w : Bool} → w ≡ true → {a : PriceAnswer} {t : Rival}
      → (a ≡ price s r qs es) × (t ≡ price_tables s r qs es) → Priced w a t
  price-whole e p = (rw e p.0, rw e (ap in_numbers p.0 ∙ price-numbers s r qs es), rw e p.1)

  pub price-refused : (w : Bool) (x : Refusal) → number x ≡ cond w (setup_refusal s) (partial_refusal s) → Priced w (Refused (number x) 0) r
  unfolding price_refusal
  price-refused true x e = price-whole refl (start-refused s r qs es _ _ refl refl x (rw (← e) (sym (number-first x _))))
  price-refused false x e = (rw e, rw e, refl)
