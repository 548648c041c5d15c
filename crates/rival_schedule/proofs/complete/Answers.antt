-- The refusal, the cycles and the copies are those of the completion.
use mathlib.Core.Path.{refl, sym, ◌∙◌}
use Rattle.std.proofs.lemmas.Result.{err_from_is_err_and}
use Rattle.protocol.proofs.Rival.{completion-legal}
use Rattle.rival_copies.specs.Copies.{rival_lent}
use Rattle.rival_schedule.proofs.Laws.{completion-refusal-is, completion-cost-is}
use Rattle.rival_schedule.proofs.complete.Goals as goal

pub returns-in_err-check_completion : goal.returns-in_err-check_completion
returns-in_err-check_completion c =
    let a = c.args in
    let r = rival_lent a.blocks.now a.held.now a.marks.now in
    let e = err_from_is_err_and c.from_residual.result c.from_residual.ensures.1 in
    rw (e.1, e.2) (sym (c.in_err-check_completion.ensures a.marks.now ∙ completion-refusal-is a.setup r a.request a.broadcast), refl)

pub play_completion-requires-clause-processor_lt_processors : goal.play_completion-requires-clause-processor_lt_processors
play_completion-requires-clause-processor_lt_processors c =
    let a = c.args in
    let r = rival_lent a.blocks.now a.held.now a.marks.now in
    (completion-legal a.setup r a.request a.broadcast (sym (c.in_ok-check_completion.ensures a.marks.now))).valid.processor

pub returns : goal.returns
returns c =
    let a = c.args in
    let r = rival_lent a.blocks.now a.held.now a.marks.now in (
      sym (c.in_ok-check_completion.ensures a.marks.now ∙ completion-refusal-is a.setup r a.request a.broadcast),
      c.completion_cycles-cycles.ensures a.marks.now ∙ completion-cost-is a.setup r a.request a.broadcast,
      c.play_completion.ensures,
    )
