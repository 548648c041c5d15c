-- A block is shared where another holder is found.
use mathlib.Core.Path.{◌∙◌}
use Rattle.protocol.specs.Tables.{tables}
use Rattle.engine_holders.proofs.Search.{some_below, sharing_is}
use Rattle.engine_holders.proofs.shares.Goals as goal

pub returns : goal.returns
returns c m w g =
    let a = c.args in
    c.is_some.ensures ∙ some_below c.other_holder.result a.setup.processors c.other_holder.ensures.in_range
    ∙ rw (c.other_holder.ensures.value m w g) (sharing_is a.setup (tables a.blocks.now a.counters.now m w g) a.block a.processor)
