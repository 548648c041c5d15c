-- At j the search of what is left finds what the whole search finds; it ends at the first other copy, or at the number of processors.
use Prim.Native.Nat.{ℕ}
use mathlib.Core.Path.{◌≡◌, ap, sym, ◌∙◌}
use native.Mathlib.Omega.{arith}
use borrow.Author.Tests.{lt-ltb, le-ltb}
use lib.Dec.{ltb}
use Rattle.protocol_types.specs.Lists.{first}
use Rattle.protocol.specs.Rival.{rival}
use Rattle.protocol_types.proofs.Search.{search-started, search-found, search-passed, search-ended}
use Rattle.rival_copies.specs.Copies.{another_keeps}
use Rattle.rival_copies.proofs.Laws.{shared-is}
use Rattle.rival_copies.proofs.shared.Goals as goal

pub loop-j-init : goal.loop-j-init
loop-j-init c =
    let a = c.args in
    (omega arith, λ m. search-started (another_keeps a.setup (rival a.blocks.now a.held.now m) a.processor a.block) a.setup.processors)

pub loop-j-preserved : goal.loop-j-preserved
loop-j-preserved c =
    let a = c.args in (
      omega arith,
      λ m. search-passed (another_keeps a.setup (rival a.blocks.now a.held.now m) a.processor a.block) a.setup.processors c.loop-j.j _
          (c.loop-j.invariant.1 m) c.another_keeps.result (omega arith) (c.another_keeps.ensures m) c.if-another_keeps.false,
    )

pub returns-then-another_keeps : goal.returns-then-another_keeps
returns-then-another_keeps c m =
    let a = c.args in
    let r = rival a.blocks.now a.held.now m in
    let P = another_keeps a.setup r a.processor a.block in
    let n = a.setup.processors in
    let e : c.loop-j.j ≡ first n P =
    search-found P n c.loop-j.j (first n P) (c.loop-j.invariant.1 m) c.another_keeps.result (omega arith) (c.another_keeps.ensures m) c.if-another_keeps.true in
    sym (lt-ltb c.loop-j.j n (omega arith)) ∙ ap (λ (z : ℕ). ltb z n) e ∙ shared-is a.setup r a.processor a.block

pub returns : goal.returns
returns c m =
    let a = c.args in
    let r = rival a.blocks.now a.held.now m in
    let P = another_keeps a.setup r a.processor a.block in
    let n = a.setup.processors in
    let e : c.loop-j.j ≡ first n P = search-ended P n c.loop-j.j (first n P) (c.loop-j.invariant.1 m) (omega arith) in
    sym (le-ltb c.loop-j.j n (omega arith)) ∙ ap (λ (z : ℕ). ltb z n) e ∙ shared-is a.setup r a.processor a.block
