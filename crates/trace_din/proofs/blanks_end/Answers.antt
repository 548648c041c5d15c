-- The bytes that the chain takes are the leading ones that pass.
use mathlib.Core.Path.{ap, ◌∙◌}
use lib.ListN.{drop}
use Rattle.std.proofs.Common.{rules, tests}
use Rattle.std.proofs.lemmas.Iterator.{YieldsList-from_slice}
use Rattle.std.proofs.lemmas.Iterator.Consumers.{count_from_yields_List}
use Rattle.std.proofs.lemmas.Iterator.Search.{YieldsList-from_take_while}
use Rattle.std.proofs.lemmas.List.Folds.{length-prefix_len}
use Prim.Native.Nat.{ℕ, ◌+◌}
use Rattle.trace_din.specs.Lines.{is_blank}
use Rattle.trace_din.proofs.Leading.{rest_part, leading-length}
use Rattle.trace_din.proofs.blanks_end.Goals as goal

pub returns : goal.returns
returns c =
    let rest = drop c.args.from c.args.bytes.now in
    let whole = rest_part c.args.bytes.now c.args.from in
    ap (λ (n : ℕ). c.args.from + n)
    (count_from_yields_List c.take_while.result _ c.count.ensures.ran (YieldsList-from_take_while _ is_blank (YieldsList-from_slice rest (cc whole)) c.take_while.ensures.closure c.take_while.ensures.done (λ x b q k. search (rules, tests)))
    ∙ length-prefix_len is_blank rest
    ∙ leading-length is_blank rest)
