-- The pricer's answer, and what it leaves in its tables (document 01, "Rival schedules" and the order of checks).
use Rattle.std.specs.Prelude.{ℕ, zero, suc, ◌+◌, ◌&&◌, cond, List, [], ◌∷◌, length, leb, eqb}
use Rattle.protocol_types.specs.Refusals.{no_refusal, unless, first_of, wrong_length, too_many}
use Rattle.protocol_types.specs.Board.{setup_refusal}
use Rattle.protocol.specs.Accounts.{nothing, plus, cycles}
use Rattle.protocol.specs.Rival.{Rival, rival_sized, no_copies, played, left, cost, refusal, end_refusal}
use Rattle.protocol_types.specs.declared.Setup.{Setup}
use Rattle.protocol_types.specs.declared.Request.{Request}
use Rattle.protocol_types.specs.declared.Bill.{Bill}
use Rattle.protocol_types.specs.declared.Entry.{Entry}
use Rattle.protocol_types.specs.Answers.{PriceAnswer}
use Rattle.protocol_types.specs.Answers.{Accepted, Refused}

-- ---- a schedule's verdict

pub data Verdict : Type 0 where
  -- the rival's last copies, and the schedule's bill
  accepted : Rival → Bill → Verdict
  -- the number and the place
  refused : ℕ → ℕ → Verdict

-- at the schedule's end, its length being n
abbrev pub ending : Rival → Bill → ℕ → ℕ → Verdict
ending r c n zero = accepted r c
ending r c n (suc m) = refused (suc m) n

-- from the n-th entry on, where c has been spent
abbrev pub judged : Setup → Rival → List Request → List Entry → ℕ → Bill → Verdict
judged s r qs [] n c = ending r c n (end_refusal qs)
judged s r qs (e ∷ es) n c =
    cond (eqb (refusal s r qs e) no_refusal)
    (judged s (played s r qs e) (left qs e) es (n + 1) (plus c (cost s r qs e)))
    (refused (refusal s r qs e) n)

-- "cleared at its start": from empty caches
unfoldable pub verdict : Setup → List Request → List Entry → Verdict
verdict s qs es = judged s (no_copies s) qs es 0 nothing

-- ---- the pricer checks 1, 10, 2, 5, in this order

-- "over 1,000,000 requests or 4,000,000 entries"
abbrev pub price_request_limit : ℕ
price_request_limit = 1000000

abbrev pub price_entry_limit : ℕ
price_entry_limit = 4000000

-- a schedule of n entries for m requests
unfoldable pub price_refusal : Setup → Rival → ℕ → ℕ → ℕ
price_refusal s lent n m =
    first_of (setup_refusal s)
    (unless (rival_sized s lent) wrong_length
    (unless (leb m price_request_limit && leb n price_entry_limit) too_many no_refusal))

-- ---- the answer: a cost, or a number and a place ("and no cost")

abbrev pub answer_to : Verdict → PriceAnswer
answer_to (accepted r c) = Accepted (cycles c)
answer_to (refused n k) = Refused n k

unfoldable pub price : Setup → Rival → List Request → List Entry → PriceAnswer
price s lent qs es =
    cond (eqb (price_refusal s lent (length es) (length qs)) no_refusal) (answer_to (verdict s qs es))
    (Refused (price_refusal s lent (length es) (length qs)) 0)

-- ---- the lent tables after it

-- the rival's last copies, or zeros
abbrev pub copies_after : Setup → Verdict → Rival
copies_after s (accepted r c) = r
copies_after s (refused n k) = no_copies s

-- "A refusal by 1, 2, 5 … changes no buffer", and 10 acts as 1 does; "Any later refusal of the pricer zeroes its tables"
unfoldable pub price_tables : Setup → Rival → List Request → List Entry → Rival
price_tables s lent qs es = cond (eqb (price_refusal s lent (length es) (length qs)) no_refusal) (copies_after s (verdict s qs es)) lent

-- ---- the paper's number, place and cost, where the answer is an enum

pub record PriceNumbers : Type 0 where
  pub number : ℕ
  pub place : ℕ
  pub cost : ℕ

abbrev pub numbered : ℕ → ℕ → ℕ → PriceNumbers
numbered n k c = record { number = n; place = k; cost = c }

-- of a verdict
abbrev pub numbers_of : Verdict → PriceNumbers
numbers_of (accepted r c) = numbered no_refusal 0 (cycles c)
numbers_of (refused n k) = numbered n k 0

-- of a price: "with no refusal, or one of those five, the place is 0", and so by 10
unfoldable pub price_numbers : Setup → Rival → List Request → List Entry → PriceNumbers
price_numbers s lent qs es =
    cond (eqb (price_refusal s lent (length es) (length qs)) no_refusal) (numbers_of (verdict s qs es))
    (numbered (price_refusal s lent (length es) (length qs)) 0 0)

-- of each case of the answer
abbrev pub number_of : PriceAnswer → ℕ
number_of (Accepted c) = no_refusal
number_of (Refused n k) = n

abbrev pub place_of : PriceAnswer → ℕ
place_of (Accepted c) = 0
place_of (Refused n k) = k

abbrev pub cost_of : PriceAnswer → ℕ
cost_of (Accepted c) = c
cost_of (Refused n k) = 0

abbrev pub in_numbers : PriceAnswer → PriceNumbers
in_numbers a = numbered (number_of a) (place_of a) (cost_of a)
