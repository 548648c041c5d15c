-- What the search for the best schedule answers, in the documents' numbers.
use Rattle.std.specs.Prelude.{ℕ, Result, Ok, Err}
use Rattle.protocol_types.specs.Refusals.{number}
use Rattle.protocol_types.specs.declared.BestSchedule.{BestSchedule}
use Rattle.protocol_types.specs.declared.PlacedRefusal.{PlacedRefusal}

-- the schedule, or a refusal number and its place
pub data BestAnswer : Type 0 where
  Found : BestSchedule → BestAnswer
  Refused : ℕ → ℕ → BestAnswer

abbrev pub search_answer : Result BestSchedule PlacedRefusal → BestAnswer
search_answer (Ok best) = Found best
search_answer (Err r) = Refused (number r.refusal) r.place
