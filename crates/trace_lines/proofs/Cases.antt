-- Every row of the table of traces passes, by computing.
use mathlib.Core.Path.{◌≡◌, refl}
use mathlib.Core.Bool.{true}
use Rattle.protocol_types.specs.Lists.{first, other}
use Rattle.protocol_types.specs.Board.{fetch_price, write_back_price, block_of, offset_of, line_of, slots, slot, word_index}
use Rattle.protocol.specs.Tables.{line_words, memory_words, sized, fresh, holds_at, holds, sharing, marked}
use Rattle.protocol.specs.Rules.{written_back, emptied, filled, saved, save_cycles, evicted, owner, released, fetched, obtained, fetch_cycles, write_back_cycles, payer, written_alone, broadcast, charged, written, update_cycles}
use Rattle.protocol_types.specs.Conditions.{variable_refusal, request_refusal}
use Rattle.protocol.specs.Requests.{served, bill}
use Rattle.protocol.specs.Sessions.{holding}
use Rattle.trace_din.specs.Lines.{is_digit, is_blank, is_gap, hex_value, is_hex, addressed, separated, parsed}
use Rattle.trace_lines.specs.Trace.{trace_setup, processor_at, variable_at, interpreted_label, after_request, ended, ended_on}
use Rattle.trace_lines.specs.Cases.{every_row, rows}

pub cases-pass : every_row rows ≡ true
unfolding first other fetch_price write_back_price block_of offset_of line_of slots slot word_index line_words memory_words sized fresh holds_at holds sharing marked written_back emptied filled saved save_cycles evicted owner released fetched obtained fetch_cycles write_back_cycles payer written_alone broadcast charged written update_cycles variable_refusal served bill request_refusal is_digit is_blank is_gap hex_value is_hex addressed separated parsed trace_setup processor_at variable_at interpreted_label after_request ended ended_on holding rows
cases-pass = refl
