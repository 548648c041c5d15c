-- Every row of the table of cases passes, by computing; and the answer with 0 steps, which is not found by computing, since the search's tables are long.
use Prim.Native.Nat.{ℕ, ◌+◌, ◌-◌, ◌*◌, ◌/◌, ◌<◌}
use mathlib.Core.Path.{◌≡◌, refl, sym, ap, ◌∙◌}
use mathlib.Core.Bool.{Bool, true, false, cond}
use mathlib.Core.List.{List}
use native.Mathlib.Omega.{arith}
use native.Mathlib.Numerals.{add-one}
use borrow.Author.Tests.{lt-ltb}
use lib.ListN.{length}
use lib.Dec.{leb}
use Rattle.protocol_types.specs.Lists.{first, other}
use Rattle.protocol_types.specs.Refusals.{no_refusal}
use Rattle.protocol_types.specs.Board.{Fits, setup_refusal, sizes_in_range, prices_in_range, fetch_price, write_back_price, most_write_back, block_of, offset_of, line_of, slots, slot, word_index}
use Rattle.protocol_types.specs.Conditions.{variable_refusal, request_refusal}
use Rattle.protocol.specs.Tables.{line_words, memory_words, sized, fresh, holds_at, holds, sharing, marked}
use Rattle.protocol.specs.Rules.{written_back, emptied, filled, saved, save_cycles, evicted, owner, released, fetched, obtained, fetch_cycles, write_back_cycles, payer, written_alone, broadcast, charged, written, update_cycles}
use Rattle.protocol.specs.Requests.{served, value, bill}
use Rattle.protocol.specs.Rival.{no_copies, move_refusal, refusal}
use Rattle.protocol_types.specs.declared.Setup.{Setup}
use Rattle.protocol_types.specs.declared.Request.{Request}
use Rattle.protocol_types.specs.declared.Entry.TheVariants.{Fetch}
use Rattle.protocol_types.proofs.Laws.{at-zeros}
use Rattle.competitive.specs.EngineSchedule.{saving, evicting, obtaining, paying, serving}
use Rattle.best_search.specs.Search.{Graph, State, initial, ready, over, used, halts, run, searched, size}
use Rattle.best_positions.specs.Position.{has, digit, weight, served_of, with_digit, in_line, holds_none, asked, asked_all, move_legal, fetched_state, written_back_state, dropped_state, moved_state, move_price, completion_legal, completed_state, completed, completion_price, entry_of, legal_at, next_at, price_at, board, block_no}
use Rattle.best_positions.specs.Best.{searchable, search_refusal, best_refusal, best_place, engine_cycles, found, best_schedule}
use Rattle.best_positions.specs.Cases.{at_once, every_row, rows}
use Rattle.best_positions.proofs.RivalSound.{sound-no_copies}
use Rattle.best_positions.proofs.Schedules.{codes-is, start-number, agrees-of}
use Rattle.best_positions.proofs.SoFar.{SearchableFacts, searchable-facts, best-found}

pub cases-pass : every_row rows ≡ true
unfolding first other setup_refusal sizes_in_range prices_in_range fetch_price write_back_price most_write_back block_of offset_of line_of slots slot word_index line_words memory_words sized fresh holds_at holds sharing marked written_back emptied filled saved save_cycles evicted owner released fetched obtained fetch_cycles write_back_cycles payer written_alone broadcast charged written update_cycles variable_refusal served value bill request_refusal saving evicting obtaining paying serving has digit weight served_of with_digit in_line holds_none asked move_legal fetched_state written_back_state dropped_state moved_state move_price completion_legal completed_state completed completion_price entry_of legal_at next_at price_at board searchable search_refusal best_refusal best_place engine_cycles at_once rows
cases-pass = refl

-- ---- with 0 steps

-- a search that halts stays
stays : (g : Graph) (f m : ℕ) (t : State) → halts g m t ≡ true → run g (f + 1) m t ≡ t
unfolding run
stays g f m t e = ap (λ n. run g n m t) (add-one f) ∙ rw e

-- with no step left it halts before a legal entry
halts-at-once : (g : Graph) (own : ℕ) → 0 < g.codes → g.legal 0 0 ≡ true → halts g 0 (initial g own) ≡ true
unfolding halts ready over initial used
halts-at-once g own some e = rw (lt-ltb 0 g.codes some, e) (go (leb (size g) 0))
  where
    go : (c : Bool) → cond c true true ≡ true
    go true = refl
    go false = refl

-- block 0 may be fetched into an empty cache
first-fetch : (s : Setup) → Fits s → (qs : List Request) → refusal s (no_copies s) qs (Fetch 0 (block_no 0)) ≡ no_refusal
unfolding move_refusal no_copies
first-fetch s ok qs = rw (lt-ltb 0 s.processors ok.some-processor, lt-ltb 0 s.blocks ok.some_block, at-zeros (slots s) (slot s 0 (block_no 0)))

module _ (s : Setup) (qs : List Request) (passed : best_refusal s qs true ≡ no_refusal) where
  abbrev g : Graph
  g = board s (asked_all s qs)

  facts : SearchableFacts s qs
  facts = searchable-facts s qs passed

  first-legal : g.legal 0 0 ≡ true
  first-legal =
      let h = first-fetch s facts.fits qs in
      let a = agrees-of s facts.fits facts.two facts.few-blocks qs facts.few-requests facts.valid (no_copies s) (sound-no_copies s) 0 (Fetch 0 (block_no 0)) h in
      ap (λ u. g.legal u 0) (sym (start-number s)) ∙ a.legal-is ∙ rw h

  none_tried : found s qs 0 ≡ initial g (engine_cycles s qs)
  unfolding found searched
  none_tried = stays g ((g.codes + 1) * size g) 0 (initial g (engine_cycles s qs))
      (halts-at-once g (engine_cycles s qs) (omega (arith, codes-is s (asked_all s qs))) first-legal)

  pub at-once : best_schedule s qs 0 ≡ at_once s qs
  unfolding best_schedule at_once initial used over board size
  at-once = λ i. record {
    length = ap length ((best-found s qs passed 0).none refl) i;
    cost = (none_tried i).limit;
    steps = used (none_tried i);
    least = over g (none_tried i);
    excess = (none_tried i).limit - (engine_cycles s qs + 1) / 2;
  }
