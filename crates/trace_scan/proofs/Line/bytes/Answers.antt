-- The fold takes the bytes as `with_bytes` does.
use mathlib.Core.Path.{◌∙◌}
use Rattle.std.proofs.Common.{rules, tests}
use Rattle.std.proofs.lemmas.Iterator.{YieldsList-from_slice}
use Rattle.std.proofs.lemmas.Iterator.Consumers.{fold_from_yields_List}
use Rattle.trace_scan.specs.Automaton.{with_byte}
use Rattle.trace_scan.proofs.Reading.{bytes_fold}
use Rattle.trace_scan.proofs.Line.bytes.Goals as goal

pub returns : goal.returns
returns c =
    let a = c.args in
    fold_from_yields_List _ with_byte a.self _ c.fold.ensures.ran (YieldsList-from_slice a.more.now (cc)) (λ x b y q k. search (rules, tests))
    ∙ bytes_fold a.self a.more.now
