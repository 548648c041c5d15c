-- The invariant: what is left of the search finds what the whole search finds.
use Rattle.std.proofs.Common.{arith, ◌∙◌}
use Rattle.protocol_types.proofs.Search.{search-ended, search-found, search-passed, search-started}
use Rattle.best_positions.specs.Position.{in_line, stands_in}
use Rattle.best_moves.proofs.block_in_line.Goals as goal

pub loop-b-init : goal.loop-b-init
unfolding in_line
loop-b-init c = let a = c.args in search-started (stands_in a.setup a.u a.i a.line) a.setup.blocks

pub loop-b-preserved : goal.loop-b-preserved
loop-b-preserved c =
    let a = c.args in
    let l = c.loop-b in
    search-passed (stands_in a.setup a.u a.i a.line) a.setup.blocks l.b _ l.invariant c.stands.result (omega arith) c.stands.ensures c.if-stands.false

pub returns-clause-value : goal.returns-clause-value
returns-clause-value c =
    let a = c.args in
    let l = c.loop-b in
    omega arith ∙ search-ended (stands_in a.setup a.u a.i a.line) a.setup.blocks l.b _ l.invariant (omega arith)

pub returns-then-stands-clause-value : goal.returns-then-stands-clause-value
returns-then-stands-clause-value c =
    let a = c.args in
    let l = c.loop-b in
    search-found (stands_in a.setup a.u a.i a.line) a.setup.blocks l.b _ l.invariant c.stands.result (omega arith) c.stands.ensures c.if-stands.true
