-- The invariants: each line passed of processor i is sound, and each processor passed.
-- Assumes nothing.
use mathlib.Core.Path.{◌≡◌, sym, ◌∙◌}
use native.Mathlib.Omega.{arith}
use Rattle.protocol.specs.Tables.{tables}
use Rattle.parts.proofs.Laws.{all-false}
use Rattle.engine_soundness.proofs.Lines.{line_test, cache_test, sound-is}
use Rattle.engine_soundness.proofs.lines_sound.Goals as goal

pub returns-then-not-line_sound : goal.returns-then-not-line_sound
returns-then-not-line_sound c =
    let a = c.args in
    let s = a.setup in
    let t = (tables a.blocks.now a.counters.now a.marks.now a.words.now a.memory.now) in
    let line = all-false (line_test s t c.loop-i.i) s.lines c.loop-l.l (omega arith) (sym c.line_sound.ensures ∙ c.if-not-line_sound.true) in
    sym (sound-is s t ∙ all-false (cache_test s t) s.processors c.loop-i.i (omega arith) line)

pub returns : goal.returns
returns c =
    let a = c.args in
    let t = (tables a.blocks.now a.counters.now a.marks.now a.words.now a.memory.now) in
    let e : c.loop-i.i ≡ a.setup.processors = omega arith in
    sym (sound-is a.setup t ∙ rw e at c.loop-i.invariant)
