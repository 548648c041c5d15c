-- What a run and the pricer answer, in the documents' numbers.
use Rattle.std.specs.Prelude.{ℕ, Option, Some, None, Result, Ok, Err}
use Rattle.protocol_types.specs.Refusals.{no_refusal, number}
use Rattle.protocol_types.specs.declared.PlacedRefusal.{PlacedRefusal}
use Rattle.protocol_types.specs.declared.RunAnswer.{RunAnswer as CodeAnswer}

-- a run: the requests taken, the refusal number or 0, and the refused place
pub record RunAnswer : Type 0 where
  pub taken : ℕ
  pub refusal : ℕ
  pub place : ℕ

-- of n requests taken, and what refused the run
abbrev pub ended_with : ℕ → Option PlacedRefusal → RunAnswer
ended_with n None = record { taken = n; refusal = no_refusal; place = 0 }
ended_with n (Some r) = record { taken = n; refusal = number r.refusal; place = r.place }

abbrev pub run_answer : CodeAnswer → RunAnswer
run_answer a = ended_with a.taken a.refused

-- the pricer: the schedule's cost, or a refusal number and its place
pub data PriceAnswer : Type 0 where
  Accepted : ℕ → PriceAnswer
  Refused : ℕ → ℕ → PriceAnswer

abbrev pub price_answer : Result ℕ PlacedRefusal → PriceAnswer
price_answer (Ok cost) = Accepted cost
price_answer (Err r) = Refused (number r.refusal) r.place
