-- The search over lists of records: the schedule's entries stand at the front of the list, and the others stay. Assumes nothing.
use Prim.Native.Nat.{ℕ}
use mathlib.Core.Path.{◌≡◌, ◌∙◌}
use mathlib.Core.Logic.{◌≢◌}
use mathlib.Core.Bool.{Bool, cond}
use mathlib.Core.List.{List, ◌++◌}
use native.Mathlib.Omega.{arith}
use lib.ListN.{length, set, drop}
use lib.Dec.{eqb}
use borrow.Author.Tests.{eqb-true}
use Rattle.protocol_types.specs.Refusals.{no_refusal}
use Rattle.protocol_types.specs.SearchAnswers.{BestAnswer}
use Rattle.protocol_types.specs.declared.Setup.{Setup}
use Rattle.protocol_types.specs.declared.Request.{Request}
use Rattle.protocol_types.specs.declared.Entry.{Entry}
use Rattle.protocol_types.proofs.Laws.{choice}
use Rattle.best_positions.specs.Best.{SearchTables, search_sized, best_refusal, schedule, best_answer, best_list}
use Rattle.stored_lists.specs.Lists.{always}
use Rattle.stored_lists.proofs.Filled.{records-filled}
use Rattle.best.specs.Lists.{lists_sized, best_stored}
use Rattle.best.proofs.Search.{schedule-fits, room-is}

records-stored : (s : Setup) (qs : List Request) (m : ℕ) (x : SearchTables) (es : List Entry)
    → best_stored set s qs m (search_sized x (length es)) es ≡ best_list s qs m (search_sized x (length es)) es
unfolding best_stored best_list
records-stored s qs m x es =
    let sized : Bool = search_sized x (length es) in
    choice (λ (l : List Entry). l ≡ cond (eqb (best_refusal s qs sized) no_refusal) (schedule s qs m ++ drop (length (schedule s qs m)) es) es)
    (eqb (best_refusal s qs sized) no_refusal)
    (λ e.
    let ok : best_refusal s qs sized ≡ no_refusal = eqb-true _ _ e in
    rw e (records-filled es (schedule s qs m) (omega (arith, schedule-fits s qs m sized ok, room-is s qs x (length es) ok))))
    (λ e. rw e)

-- what `best` ensures of a list of requests and a list of entries: of its answer, the list after it and the tables after it
pub records-ensured : (s : Setup) (qs : List Request) (m : ℕ) (x : SearchTables) (es : List Entry) (answer : BestAnswer) (list : List Entry) (y : SearchTables)
    → let sized = lists_sized x (always qs) (always es) (length es) in
    (answer ≡ best_answer s qs m sized) × (list ≡ best_stored set s qs m sized es) × (best_refusal s qs sized ≢ no_refusal → y ≡ x)
    → (answer ≡ best_answer s qs m (search_sized x (length es))) × (list ≡ best_list s qs m (search_sized x (length es)) es)
    × (best_refusal s qs (search_sized x (length es)) ≢ no_refusal → y ≡ x)
records-ensured s qs m x es answer list y e = (e.0, e.1 ∙ records-stored s qs m x es, e.2)
