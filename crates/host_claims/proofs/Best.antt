-- The numbers that the search leaves name the schedule that it found, so that what `BestSoFar` says of it holds of them. Assumes nothing.
use Prim.Native.Nat.{ℕ, ◌*◌, ◌%◌, ◌≤◌}
use mathlib.Core.Path.{◌≡◌, sym, ap, ◌∙◌}
use mathlib.Core.Bool.{true}
use mathlib.Core.List.{List, ◌++◌}
use native.Mathlib.Omega.{arith}
use lib.ListN.{length, drop}
use lib.Seq.{take_at, drop_at}
use borrow.Author.Tests.{eq-eqb, le-leb}
use Rattle.protocol_types.specs.Refusals.{no_refusal, unless, not_searchable, wrong_length}
use Rattle.protocol_types.specs.Board.{setup_refusal}
use Rattle.protocol_types.specs.declared.Setup.{Setup}
use Rattle.protocol_types.specs.declared.Request.{Request}
use Rattle.protocol_types.specs.declared.Entry.{Entry}
use Rattle.protocol_types.specs.Answers.{Accepted}
use Rattle.protocol_types.proofs.Laws.{and-true}
use Rattle.protocol_types.proofs.Refusals.{neither-refuses}
use Rattle.protocol.specs.Rival.{Rival, rival_sized}
use Rattle.protocol.specs.Pricer.{price_refusal}
use Rattle.competitive.proofs.Priced.{priced-right}
use Rattle.best_positions.specs.Best.{SearchTables, searchable, search_refusal, requests_refusal, best_refusal, schedule, best_schedule, best_answer, BestSoFar}
use Rattle.best_positions.proofs.SoFar.{searchable-facts, best-found}
use Rattle.best_steps.proofs.Checks.{checked}
use Rattle.host_decoding.specs.Records.{entry_width, whole, both_whole, requests_of, entries_of}
use Rattle.host_encoding.specs.Numbers.{schedule_numbers}
use Rattle.host_encoding.proofs.Numbers.{length-schedule, entries-named-back}
use Rattle.host_numbers.specs.Numbers.{price_of_numbers}
use Rattle.host_best.specs.Numbers.{numbers_sized, best_numbers_refusal, best_of_numbers, best_numbers}
use Rattle.host_best.proofs.Refused.{sized-numbers}
use Rattle.host_claims.specs.Claims.{written, NumbersBest}

schedule-whole : (es : List Entry) → whole entry_width (schedule_numbers es) ≡ true
unfolding whole
schedule-whole es = eq-eqb (length (schedule_numbers es) % entry_width) 0 (omega (arith, length-schedule es))

-- a short schedule for few requests is priced
few-priced : (s : Setup) (lent : Rival) (n k : ℕ) → setup_refusal s ≡ no_refusal → rival_sized s lent ≡ true → n ≤ 32400 → k ≤ 24 → price_refusal s lent n k ≡ no_refusal
unfolding price_refusal
few-priced s lent n k ok sized few small = rw (ok, sized, le-leb k 1000000 (omega (arith, small)), le-leb n 4000000 (omega (arith, few)))

module _ (s : Setup) (x : SearchTables) (ns ms : List ℕ) (m : ℕ) (ok : best_numbers_refusal s x ns ms ≡ no_refusal) where
  abbrev qs : List Request
  qs = requests_of ns

  abbrev es : List Entry
  es = schedule s qs m

  -- ---- what no refusal tells

  passed : search_refusal s (length qs) (numbers_sized x ns ms) ≡ no_refusal
  unfolding best_numbers_refusal best_refusal
  passed = (neither-refuses (search_refusal s (length qs) (numbers_sized x ns ms)) (requests_refusal s qs) ok).0

  sized : numbers_sized x ns ms ≡ true
  sized = (checked s (length qs) (numbers_sized x ns ms) passed).sized-so

  setup-passed : setup_refusal s ≡ no_refusal
  unfolding search_refusal
  setup-passed = (neither-refuses (setup_refusal s) (unless (searchable s (length qs)) not_searchable (unless (numbers_sized x ns ms) wrong_length no_refusal)) passed).0

  let_through : best_refusal s qs true ≡ no_refusal
  unfolding best_numbers_refusal
  let_through = ap (best_refusal s qs) (sym sized) ∙ ok

  found : BestSoFar s qs m
  found = best-found s qs let_through m

  -- ---- the numbers

  long-is : (best_schedule s qs m).length * entry_width ≡ length (schedule_numbers es)
  unfolding best_schedule
  long-is = sym (length-schedule es)

  numbers-are : best_numbers s x ns ms m ≡ schedule_numbers es ++ drop ((best_schedule s qs m).length * entry_width) ms
  unfolding best_numbers best_schedule
  numbers-are = rw ok

  written_is : written s x ns ms m ≡ schedule_numbers es
  written_is = rw numbers-are (take_at (schedule_numbers es) _ _ (sym long-is))

  named : entries_of (written s x ns ms m) ≡ es
  named = ap entries_of written_is ∙ entries-named-back es

  priced : (lent : Rival) → rival_sized s lent ≡ true → price_of_numbers s lent ns (written s x ns ms m) ≡ Accepted (best_schedule s qs m).cost
  unfolding price_of_numbers
  priced lent r =
      let both : both_whole ns (written s x ns ms m) ≡ true = and-true (sized-numbers x ns ms sized).0 (ap (whole entry_width) written_is ∙ schedule-whole es) in
      let p = few-priced s lent (length es) (length qs) setup-passed r found.fits (searchable-facts s qs let_through).few-requests in
      rw (both, named) ((priced-right s lent qs es p).accepts found.legal ∙ ap Accepted (sym found.cost))

  pub numbers-best : NumbersBest s x ns ms m
  unfolding best_of_numbers best_answer best_numbers_refusal best_schedule
  numbers-best = record {
    answer = rw ok;
    count = ap length named;
    legal = rw named found.legal;
    cost = rw named found.cost;
    priced = priced;
    behind = rw numbers-are (drop_at (schedule_numbers es) _ _ (sym long-is));
  }
