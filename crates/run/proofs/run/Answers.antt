-- By the laws of the loop (Loop): `check` and `turn` answer what the definitions say.
use native.Mathlib.Omega.{arith}
use Rattle.std.proofs.Common.{ap, ◌∙◌}
use Rattle.protocol_types.specs.Answers.{RunAnswer}
use Rattle.protocol.specs.Lent.{lent_masked}
use Rattle.run_progress.specs.Progress.{outcome}
use Rattle.run_steps.specs.Stored.{stored_refusal}
use Rattle.run.specs.Stored.{run_stored}
use Rattle.run.proofs.Loop.{begins, never-begins, inv-end, inv-refused, inv-taken}
use Rattle.run.proofs.run.Goals as goal

pub returns-in-Err : goal.returns-in-Err
returns-in-Err g c =
    let a = c.args in
    let x = lent_masked a.blocks.now a.counters.now a.marks.now a.words.now a.memory.now a.masks.now in
    ap (λ (r : RunAnswer). outcome r x a.account.now a.values.now) c.refused_at.ensures
    ∙ never-begins a.setup x a.account.now (g.C.Stores.records a.requests.now) a.values.now (g.C.Stores.whole a.requests.now) c.in-Err.refusal
    (c.in-Err.ensures ∙ (λ i. stored_refusal a.setup x a.account.now (c.is_whole-whole.ensures i) (c.count-count.ensures i) a.values.now))

pub loop-i-init : goal.loop-i-init
loop-i-init g c =
    let a = c.args in
    let x = lent_masked a.blocks.now a.counters.now a.marks.now a.words.now a.memory.now a.masks.now in
    begins a.setup x a.account.now (g.C.Stores.records a.requests.now) a.values.now (g.C.Stores.whole a.requests.now)
    (c.in_default.ensures ∙ (λ i. stored_refusal a.setup x a.account.now (c.is_whole-whole.ensures i) (c.count-count.ensures i) a.values.now))

pub returns-in-Err-turn : goal.returns-in-Err-turn
returns-in-Err-turn g c =
    let a = c.args in
    let l = c.loop-i in
    let n = c.turn.new in
    let x = lent_masked a.blocks.now a.counters.now a.marks.now a.words.now a.memory.now a.masks.now in
    let u = lent_masked n.blocks n.counters n.marks n.words n.memory n.masks in
    let qs = g.C.Stores.records a.requests.now in
    ap (λ (r : RunAnswer). outcome r u n.account l.values) c.refused_at-in-Err-turn.ensures
    ∙ inv-refused a.setup qs (run_stored a.setup x a.account.now (g.C.Stores.whole a.requests.now) qs a.values.now)
    l.i (lent_masked l.blocks l.counters l.marks l.words l.memory l.masks) l.account l.values l.invariant
    c.record_at-request.result c.record_at-request.ensures u n.account c.in-Err-turn.refusal c.in-Err-turn.ensures

pub loop-i-preserved : goal.loop-i-preserved
loop-i-preserved g c =
    let a = c.args in
    let l = c.loop-i in
    let n = c.turn.new in
    let x = lent_masked a.blocks.now a.counters.now a.marks.now a.words.now a.memory.now a.masks.now in
    let qs = g.C.Stores.records a.requests.now in
    inv-taken a.setup qs (run_stored a.setup x a.account.now (g.C.Stores.whole a.requests.now) qs a.values.now)
    l.i (lent_masked l.blocks l.counters l.marks l.words l.memory l.masks) l.account l.values l.invariant
    c.record_at-request.result c.record_at-request.ensures (lent_masked n.blocks n.counters n.marks n.words n.memory n.masks) n.account c.in-Ok.value c.in-Ok.ensures

pub returns : goal.returns
returns g c = grind (arith, inv-end)
