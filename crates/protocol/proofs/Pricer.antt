-- What is known where 1, 10, 2 and 5 let the lists through; and a price in the paper's numbers: what the definition by numbers gives is what the answer's cases say.
use Prim.Native.Nat.{ℕ, ◌≤◌}
use mathlib.Core.Path.{◌≡◌, refl, ap, ◌∙◌}
use mathlib.Core.Bool.{Bool, true, false, ◌&&◌, cond}
use mathlib.Core.List.{List}
use native.Mathlib.Omega.{arith}
use lib.ListN.{length}
use lib.Dec.{leb, eqb}
use borrow.Author.Tests.{leb-true, eqb-true}
use Rattle.protocol_types.specs.Refusals.{no_refusal, unless, wrong_length, too_many}
use Rattle.protocol_types.specs.Board.{setup_refusal, Fits}
use Rattle.protocol.specs.Rival.{Rival, rival_sized, RivalSized}
use Rattle.protocol.specs.Pricer.{Verdict, accepted, refused, verdict, price_request_limit, price_entry_limit, price_refusal, answer_to, price, price_tables, numbered, numbers_of, price_numbers, in_numbers}
use Rattle.protocol_types.specs.declared.Setup.{Setup}
use Rattle.protocol_types.specs.declared.Request.{Request}
use Rattle.protocol_types.specs.declared.Entry.{Entry}
use Rattle.protocol_types.specs.Answers.{PriceAnswer}
use Rattle.protocol_types.specs.Answers.{Refused}
use Rattle.protocol_types.proofs.Laws.{both_true, three-true, chosen-zero}
use Rattle.protocol_types.proofs.Board.{setup-fits}
use Rattle.protocol_types.proofs.Refusals.{neither-refuses}

-- ---- 1, 10, 2 and 5

rival-sized : (s : Setup) (r : Rival) → rival_sized s r ≡ true → RivalSized s r
unfolding rival_sized
rival-sized s r e =
    let size = three-true _ _ _ e in
    record { blocks = eqb-true _ _ size.0; held = eqb-true _ _ size.1; marks = eqb-true _ _ size.2 }

-- what 1, 10, 2 and 5 let through
pub record PricePassed (s : Setup) (r : Rival) (n m : ℕ) : Type 0 where
  pub fits : Fits s
  pub sized : RivalSized s r
  pub few-entries : n ≤ price_entry_limit

pub price-passed : (s : Setup) (r : Rival) (n m : ℕ) → price_refusal s r n m ≡ no_refusal → PricePassed s r n m
unfolding price_refusal
price-passed s r n m e =
    let few = leb m price_request_limit && leb n price_entry_limit in
    let one = neither-refuses (setup_refusal s) (unless (rival_sized s r) wrong_length (unless few too_many no_refusal)) e in
    let two = chosen-zero (rival_sized s r) (unless few too_many no_refusal) wrong_length (omega arith) one.1 in
    let five = chosen-zero few no_refusal too_many (omega arith) two.1 in
    record {
      fits = setup-fits s one.0;
      sized = rival-sized s r two.0;
      few-entries = leb-true _ _ (both_true (leb m price_request_limit) (leb n price_entry_limit) five.0).1;
    }

-- ---- in numbers

verdict-numbers : (v : Verdict) → in_numbers (answer_to v) ≡ numbers_of v
verdict-numbers (accepted r c) = refl
verdict-numbers (refused n k) = refl

either-numbers : (passed : Bool) (v : Verdict) (n : ℕ) → in_numbers (cond passed (answer_to v) (Refused n 0)) ≡ cond passed (numbers_of v) (numbered n 0 0)
either-numbers true v n = verdict-numbers v
either-numbers false v n = refl

pub price-numbers : (s : Setup) (lent : Rival) (qs : List Request) (es : List Entry) → in_numbers (price s lent qs es) ≡ price_numbers s lent qs es
unfolding price price_numbers
price-numbers s lent qs es =
    let n = price_refusal s lent (length es) (length qs) in
    either-numbers (eqb n no_refusal) (verdict s qs es) n

-- an answer and tables that are the specification's, said in numbers too
pub in-numbers : (s : Setup) (lent : Rival) (qs : List Request) (es : List Entry) {a : PriceAnswer} {t : Rival}
    → (a ≡ price s lent qs es) × (t ≡ price_tables s lent qs es)
    → (a ≡ price s lent qs es) × (in_numbers a ≡ price_numbers s lent qs es) × (t ≡ price_tables s lent qs es)
in-numbers s lent qs es w = (w.0, ap in_numbers w.0 ∙ price-numbers s lent qs es, w.1)
