-- The invariant: each line passed is empty. A line in use ends the search; at the number of lines the cache is empty.
use borrow.Author.Count.{below_more}
use mathlib.Core.Path.{sym}
use native.Mathlib.Omega.{arith}
use Rattle.protocol.specs.Rival.{rival}
use Rattle.protocol.proofs.Rival.{lines-empty, line-in-use}
use Rattle.rival_conditions.proofs.cache_empty.Goals as goal

pub loop-line-init : goal.loop-line-init
loop-line-init c = (omega arith, λ l u. absurd (omega arith))

pub returns-then-held-k-ne0 : goal.returns-then-held-k-ne0
returns-then-held-k-ne0 c b m =
    let a = c.args in
    sym (line-in-use a.setup (rival b a.held.now m) a.processor c.loop-line.line c.loop-line-test.true
    (rw c.line_slot-k.ensures.value at c.if-held-k-ne0.true))

pub loop-line-preserved : goal.loop-line-preserved
loop-line-preserved c =
    (omega arith, below_more _ _ c.loop-line.invariant.1 (rw c.line_slot-k.ensures.value at c.if-held-k-ne0.false))

pub returns : goal.returns
returns c b m =
    let a = c.args in
    sym (lines-empty a.setup (rival b a.held.now m) a.processor (λ l u. c.loop-line.invariant.1 l (omega arith)))
