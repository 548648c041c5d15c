-- Nothing shown begins at 0; else the slot decides, whose place fits where a block is shown: by the laws of Looks.
use mathlib.Core.Path.{sym, ◌∙◌}
use Rattle.host_looks.proofs.Looks.{offset-none, offset-some}
use Rattle.host_looks.proofs.look_offset.Goals as goal

pub returns-then-look_length-eq0 : goal.returns-then-look_length-eq0
returns-then-look_length-eq0 c =
    let a = c.args in
    offset-none a.setup a.blocks.now a.counters.now a.words.now a.processor a.block (sym c.look_length.ensures ∙ c.if-look_length-eq0.true)

pub returns : goal.returns
returns c =
    let a = c.args in
    offset-some a.setup a.blocks.now a.counters.now a.words.now a.processor a.block (λ z. c.if-look_length-eq0.false (c.look_length.ensures ∙ z)) c.slot.result c.slot.ensures.value
