-- A refused request stops the count (`counted-refused`). One that is not refused is valid and there is room for it (`request-passed`), so it
-- can be served and entered (`bill-spent`), the line number has a next one, and the count goes on (`counted-taken`).
-- The masks stay with the tables, or are what `serve` leaves.
use mathlib.Core.Path.{◌≡◌, sym}
use native.Mathlib.Omega.{arith}
use Rattle.protocol_types.specs.Refusals.{no_refusal}
use Rattle.protocol_types.specs.Conditions.{request_refusal}
use Rattle.protocol_types.proofs.Conditions.{request-passed}
use Rattle.protocol.proofs.Requests.{bill-spent}
use Rattle.trace_lines.specs.Trace.{trace_setup}
use Rattle.trace_lines.proofs.Laws.{trace-fits}
use Rattle.trace_count.proofs.Laws.{counted-refused, counted-taken}
use Rattle.trace_count.proofs.take_request.Goals as goal

pub check_request-requires : goal.check_request-requires
check_request-requires c = rw c.trace_setup-setup.ensures trace-fits

pub returns-in-Err-clause-memory_value : goal.returns-in-Err-clause-memory_value
returns-in-Err-clause-memory_value c = counted-refused _ _ _ _ c.refuse_line.ensures (rw c.trace_setup-setup.ensures at c.in-Err.ensures)

pub serve-done-requires : goal.serve-done-requires
serve-done-requires c =
    let passes : request_refusal trace_setup c.args.count.account.requests c.args.request ≡ no_refusal = sym (rw c.trace_setup-setup.ensures at c.in_default.ensures) in
    rw c.trace_setup-setup.ensures (record {
      fits = trace-fits;
      valid = (request-passed trace_setup _ _ passes).0;
      usable = c.requires.countable.tables;
      true_masks = c.requires.true_masks;
    })

pub overflow_add-result : goal.overflow_add-result
overflow_add-result c =
    let passes : request_refusal trace_setup c.args.count.account.requests c.args.request ≡ no_refusal = sym (rw c.trace_setup-setup.ensures at c.in_default.ensures) in
    omega (arith, c.requires.countable.line-number, (request-passed trace_setup _ _ passes).1)

pub enter-requires : goal.enter-requires
enter-requires c =
    let passes : request_refusal trace_setup c.args.count.account.requests c.args.request ≡ no_refusal = sym (rw c.trace_setup-setup.ensures at c.in_default.ensures) in
    let served = rw c.trace_setup-setup.ensures at c.serve-done.ensures in record {
      requests_lt_request_limit = (request-passed trace_setup _ _ passes).1;
      spent = c.requires.countable.account;
      spent_2 = rw served.bill_value (bill-spent trace_setup trace-fits _ _);
    }

pub returns : goal.returns
returns c =
    let passes : request_refusal trace_setup c.args.count.account.requests c.args.request ≡ no_refusal = sym (rw c.trace_setup-setup.ensures at c.in_default.ensures) in
    let served = rw c.trace_setup-setup.ensures at c.serve-done.ensures in record {
      memory_value = counted-taken _ _ _ c.new.ensures _ served.bill_value _ c.enter.ensures _ served.memory_value passes;
      masks_after = served.masks_after;
    }
