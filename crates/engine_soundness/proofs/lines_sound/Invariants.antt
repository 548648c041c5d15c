use mathlib.Core.Path.{◌≡◌}
use mathlib.Core.Bool.{true}
use Rattle.protocol_types.specs.Lists.{all}
use Rattle.protocol.specs.Tables.{tables}
use Rattle.engine_soundness.proofs.Lines.{line_test, cache_test}
use Rattle.engine_soundness.proofs.lines_sound.Given as goal

abbrev pub invariant-loop-i : goal.invariant-loop-i
invariant-loop-i l = all l.i (cache_test l.setup (tables l.blocks l.counters l.marks l.words l.memory)) ≡ true

abbrev pub invariant-loop-l : goal.invariant-loop-l
invariant-loop-l l = all l.l (line_test l.setup (tables l.blocks l.counters l.marks l.words l.memory) l.i) ≡ true
