-- The search over lists of numbers: what `best` ensures of them is what Numbers says. Assumes nothing.
use Prim.Native.Nat.{ℕ, ◌*◌, ◌/◌, ◌≤◌}
use mathlib.Core.Path.{◌≡◌, ◌∙◌}
use mathlib.Core.Logic.{◌≢◌}
use mathlib.Core.Bool.{Bool, cond}
use mathlib.Core.List.{List, ◌++◌}
use native.Mathlib.Omega.{arith}
use lib.ListN.{length, drop}
use lib.Dec.{eqb}
use borrow.Author.Tests.{eqb-true}
use Rattle.protocol_types.specs.Refusals.{no_refusal}
use Rattle.protocol_types.specs.SearchAnswers.{BestAnswer}
use Rattle.protocol_types.specs.declared.Setup.{Setup}
use Rattle.protocol_types.proofs.Laws.{choice}
use Rattle.best_positions.specs.Best.{SearchTables, best_refusal, schedule, best_answer}
use Rattle.host_decoding.specs.Records.{request_width, entry_width, whole, both_whole, requests_of, entries_of}
use Rattle.host_decoding.proofs.Decoding.{entries_counted}
use Rattle.host_encoding.specs.Numbers.{schedule_numbers}
use Rattle.stored_lists.specs.Lists.{entry_set}
use Rattle.stored_lists.proofs.Filled.{entries-filled}
use Rattle.best.specs.Lists.{lists_sized, best_stored}
use Rattle.best.proofs.Search.{schedule-fits, room-is}
use Rattle.host_best.specs.Numbers.{entries_lent, numbers_sized, best_numbers_refusal, best_of_numbers, best_numbers}

-- there is room for as many entries as are lent
lent-room : (ns ms : List ℕ) → entries_lent ns ms ≤ length ms / entry_width
unfolding entries_lent
lent-room ns ms = choice (λ (n : ℕ). n ≤ length ms / entry_width) (both_whole ns ms) (λ w. omega (arith, entries_counted ms)) (λ w. omega arith)

module _ (s : Setup) (x : SearchTables) (ns ms : List ℕ) (m : ℕ) where
  numbers-stored : best_stored entry_set s (requests_of ns) m (numbers_sized x ns ms) ms ≡ best_numbers s x ns ms m
  unfolding best_stored best_numbers best_numbers_refusal
  numbers-stored =
      let sized : Bool = numbers_sized x ns ms in
      choice
      (λ (l : List ℕ). l ≡ cond (eqb (best_refusal s (requests_of ns) sized) no_refusal)
      (schedule_numbers (schedule s (requests_of ns) m) ++ drop (length (schedule s (requests_of ns) m) * entry_width) ms) ms)
      (eqb (best_refusal s (requests_of ns) sized) no_refusal)
      (λ e.
      let ok : best_refusal s (requests_of ns) sized ≡ no_refusal = eqb-true _ _ e in
      let room = room-is s (requests_of ns) x (entries_lent ns ms) ok in
      rw e (entries-filled ms (schedule s (requests_of ns) m) (omega (arith, schedule-fits s (requests_of ns) m sized ok, room, lent-room ns ms))))
      (λ e. rw e)

  abbrev sized : Bool
  sized = lists_sized x (whole request_width ns) (whole entry_width ms) (length (entries_of ms))

  -- of its answer, the list after it and the tables after it
  pub numbers-ensured : (answer : BestAnswer) (list : List ℕ) (y : SearchTables)
      → (answer ≡ best_answer s (requests_of ns) m sized) × (list ≡ best_stored entry_set s (requests_of ns) m sized ms) × (best_refusal s (requests_of ns) sized ≢ no_refusal → y ≡ x)
      → (answer ≡ best_of_numbers s x ns ms m) × (list ≡ best_numbers s x ns ms m) × (best_numbers_refusal s x ns ms ≢ no_refusal → y ≡ x)
  unfolding entries_lent best_of_numbers best_numbers_refusal
  numbers-ensured answer list y e = (e.0, e.1 ∙ numbers-stored, e.2)
