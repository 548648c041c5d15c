-- A request that is not refused is valid, and the account has room for its bill (run_progress' room).
use mathlib.Core.Path.{sym}
use Rattle.protocol.specs.Lent.{lent_masked}
use Rattle.protocol_types.specs.Conditions.{Valid}
use Rattle.protocol.specs.Runs.{masked_engine}
use Rattle.protocol_types.proofs.Conditions.{request-passed}
use Rattle.engine.specs.Usable.{UsableMasked}
use Rattle.run_progress.proofs.Laws.{room}
use Rattle.run_steps.proofs.Laws.{serving}
use Rattle.run_steps.proofs.turn.Goals as goal

pub serve-served-requires-clause-valid : goal.serve-served-requires-clause-valid
serve-served-requires-clause-valid c =
    let a = c.args in
    (request-passed a.setup a.account.now.requests a.request (sym c.in_ok-check_request.ensures)).0

pub enter-requires : goal.enter-requires
enter-requires c =
    let a = c.args in
    let x = lent_masked a.blocks.now a.counters.now a.marks.now a.words.now a.memory.now a.masks.now in
    rw c.serve-served.ensures.bill_value
    (room a.setup (masked_engine a.setup) (UsableMasked a.setup) (Valid a.setup) (serving a.setup) x a.account.now a.request c.requires (sym c.in_ok-check_request.ensures))
