-- The run over numbers, at the setup of the six numbers (setup_of); its answer is stored number by number.
use mathlib.Core.Path.{ap, ◌∙◌}
use Rattle.protocol_types.specs.Answers.{RunAnswer}
use Rattle.protocol.specs.Lent.{lent_masked}
use Rattle.run_progress.specs.Progress.{outcome}
use Rattle.host.proofs.cuzkelor_run.Goals as goal

pub returns : goal.returns
returns c =
    let n = c.run-answer.new in
    ap (λ (r : RunAnswer). outcome r (lent_masked n.blocks n.counters n.marks n.words n.memory n.masks) n.account n.values) c.refusal_numbers-number.ensures
    ∙ rw c.setup_of-setup.ensures at c.run-answer.ensures
