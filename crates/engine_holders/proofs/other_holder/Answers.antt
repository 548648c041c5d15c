-- At each number the search of what is left finds what the whole search finds (the laws of searches); it ends at the first other holder, or at the number
-- of processors. These are at most 8 (`few-processors`), so they fit a byte (`overflow_cast-other-end`).
use mathlib.Core.Path.{◌∙◌}
use native.Mathlib.Omega.{arith}
use Rattle.protocol.specs.Tables.{tables}
use Rattle.engine_holders.specs.Searches.{other_holds}
use Rattle.protocol_types.proofs.Search.{search-started, search-found, search-passed}
use Rattle.engine_holders.proofs.Search.{other-holder-is}
use Rattle.engine_holders.proofs.other_holder.Goals as goal

pub loop-other-init : goal.loop-other-init
loop-other-init c m w g =
    let a = c.args in
    let t = tables a.blocks.now a.counters.now m w g in
    search-started (other_holds a.setup t a.processor a.block) a.setup.processors ∙ other-holder-is a.setup t a.block a.processor

pub loop-other-preserved : goal.loop-other-preserved
loop-other-preserved c m w g =
    let a = c.args in
    let P = other_holds a.setup (tables a.blocks.now a.counters.now m w g) a.processor a.block in
    search-passed P a.setup.processors c.loop-other.other _ (c.loop-other.invariant m w g) c.other_holds.result (omega arith) (c.other_holds.ensures m w g) c.if-other_holds.false

pub returns-then-other_holds-clause-value : goal.returns-then-other_holds-clause-value
returns-then-other_holds-clause-value c m w g =
    let a = c.args in
    let P = other_holds a.setup (tables a.blocks.now a.counters.now m w g) a.processor a.block in
    search-found P a.setup.processors c.loop-other.other _ (c.loop-other.invariant m w g) c.other_holds.result (omega arith) (c.other_holds.ensures m w g) c.if-other_holds.true
