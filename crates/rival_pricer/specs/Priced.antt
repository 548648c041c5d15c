-- What the pricer answers and leaves: where each entry is played, and over lists of which one may not be whole.
use Rattle.std.specs.Prelude.{ℕ, ◌≡◌, Bool, true, false, cond, Result, Ok, Err, List}
use Rattle.protocol_types.specs.Refusals.{number}
use Rattle.protocol_types.specs.Answers.{PriceAnswer, Accepted, Refused}
use Rattle.protocol_types.specs.declared.Setup.{Setup}
use Rattle.protocol_types.specs.declared.Request.{Request}
use Rattle.protocol_types.specs.declared.Entry.{Entry}
use Rattle.protocol_types.specs.declared.Entry.TheVariants.{Fetch, WriteBack, Drop, Complete, CompleteByBroadcast}
use Rattle.protocol_types.specs.declared.PlacedRefusal.{PlacedRefusal}
use Rattle.protocol.specs.Rival.{Rival, RivalSized}
use Rattle.protocol.specs.Pricer.{Verdict, answer_to, price, copies_after, price_tables, PriceNumbers, numbered, price_numbers}
use Rattle.host_decoding.specs.Records.{partial_refusal}

-- ---- a schedule played entry by entry

-- entry e is a completion
abbrev pub completes : Entry → Bool
completes (Fetch i b) = false
completes (WriteBack i b) = false
completes (Drop i b) = false
completes Complete = true
completes CompleteByBroadcast = true

-- a schedule of verdict v: it costs what v says and leaves the rival's last copies, or it is refused as v says, and the tables keep their lengths
abbrev pub Judged : Setup → Verdict → Result ℕ PlacedRefusal → Rival → Type 0
Judged s v (Ok n) after = (answer_to v ≡ Accepted n) × (copies_after s v ≡ after)
Judged s v (Err x) after = (answer_to v ≡ Refused (number x.refusal) x.place) × RivalSized s after

-- ---- lists of requests qs and of entries es, `both_whole` being whether both lists are whole

-- lists of which one is not whole are refused before the first entry
abbrev pub price_of_lists : Setup → Rival → Bool → List Request → List Entry → PriceAnswer
price_of_lists s lent both_whole qs es = cond both_whole (price s lent qs es) (Refused (partial_refusal s) 0)

-- its number, place and cost
abbrev pub price_in_numbers_of_lists : Setup → Rival → Bool → List Request → List Entry → PriceNumbers
price_in_numbers_of_lists s lent both_whole qs es =
    cond both_whole (price_numbers s lent qs es) (numbered (partial_refusal s) 0 0)

-- the lent tables after it: "A refusal by 1, 2 … changes no buffer", nor does 10
abbrev pub price_tables_of_lists : Setup → Rival → Bool → List Request → List Entry → Rival
price_tables_of_lists s lent both_whole qs es = cond both_whole (price_tables s lent qs es) lent
