-- Every row of the table of sessions passes.
use mathlib.Core.Path.{◌≡◌, refl}
use mathlib.Core.Bool.{true}
use Rattle.protocol_types.specs.Lists.{first, other}
use Rattle.protocol_types.specs.Board.{setup_refusal, sizes_in_range, prices_in_range, fetch_price, write_back_price, most_write_back, block_of, offset_of, line_of, slots, slot, word_index}
use Rattle.protocol.specs.Tables.{line_words, memory_words, sized, fresh, holds_at, holds, sharing, marked}
use Rattle.protocol.specs.Soundness.{empty_line, copy_line, sound_line, sound}
use Rattle.protocol.specs.Masks.{holders, masks_of, fresh_masked, sized_masked, true_masks, sound_masked}
use Rattle.protocol.specs.Rules.{written_back, emptied, filled, saved, save_cycles, evicted, owner, released, fetched, obtained, fetch_cycles, write_back_cycles, payer, written_alone, broadcast, charged, written, update_cycles}
use Rattle.protocol_types.specs.Conditions.{variable_refusal, request_refusal}
use Rattle.protocol.specs.Requests.{served, value, bill}
use Rattle.protocol.specs.Accounts.{possible}
use Rattle.protocol.specs.Engines.{run}
use Rattle.protocol.specs.Runs.{start_refusal, started, looked, masked_refusal}
use Rattle.protocol.specs.Rival.{rival_sized, no_copies, keeps_at, keeps, shared, empty_cache, rival_fetched, rival_written_back, rival_dropped, rival_completed, completion_cycles, move_refusal, completion_refusal}
use Rattle.protocol.specs.Pricer.{verdict, price_refusal, price, price_tables}
use Rattle.protocol.specs.Generator.{xor_left, xor_right, xorshift, request_drawn, workload, generate_refusal, generated}
use Rattle.protocol.specs.Sessions.{holding, holders_of, session_passes, tabled_passes, lent_passes, sevens, quote_passes, split_passes, every_row, rows}

pub sessions-pass : every_row rows ≡ true
unfolding first other setup_refusal sizes_in_range prices_in_range fetch_price write_back_price most_write_back block_of offset_of line_of slots slot word_index line_words memory_words sized fresh holds_at holds sharing marked empty_line copy_line sound_line sound holders masks_of fresh_masked sized_masked true_masks sound_masked written_back emptied filled saved save_cycles evicted owner released fetched obtained fetch_cycles write_back_cycles payer written_alone broadcast charged written update_cycles variable_refusal served value bill request_refusal possible start_refusal started looked masked_refusal run rival_sized no_copies keeps_at keeps shared empty_cache rival_fetched rival_written_back rival_dropped rival_completed completion_cycles move_refusal completion_refusal verdict price_refusal price price_tables xor_left xor_right xorshift request_drawn workload generate_refusal generated holding holders_of session_passes tabled_passes lent_passes sevens quote_passes split_passes rows
sessions-pass = refl
