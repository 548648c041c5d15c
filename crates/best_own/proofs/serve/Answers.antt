-- A clear, or a read or a write with what the payer does.
use borrow.Author.Tests.{le-ltb, lt-ltb}
use mathlib.Core.Path.{◌∙◌, sym}
use native.Mathlib.Omega.{arith}
use Rattle.best_own.specs.Own.{serving_codes}
use Rattle.best_own_parts.proofs.Moves.{moved-less, moved_on, ready-less, ready_on}
use Rattle.best_own.proofs.serve.Goals as goal

pub clear-emptied-requires : goal.clear-emptied-requires
clear-emptied-requires c = record { ready = ready-less c.requires.ready 128 (omega arith); processor = omega arith }

pub play_completion-requires : goal.play_completion-requires
play_completion-requires c = ready_on c.requires.ready c.clear-emptied.ensures 1 (omega arith) (omega arith) (omega (arith, c.clear-emptied.ensures.layer, c.requires.left))

pub returns-then-ask-ge-CLEAR : goal.returns-then-ask-ge-CLEAR
unfolding serving_codes
returns-then-ask-ge-CLEAR c = let a = c.args in rw (le-ltb a.ask 16 c.if-ask-ge-CLEAR.true) (moved_on c.clear-emptied.ensures c.play_completion.ensures)

pub obtain-obtained-requires : goal.obtain-obtained-requires
obtain-obtained-requires c = record { ready = ready-less c.requires.ready 3 (omega arith); processor = omega arith; block = omega arith }

pub play_completion-completed-requires : goal.play_completion-completed-requires
play_completion-completed-requires c = ready_on c.requires.ready c.obtain-obtained.ensures 1 (omega arith) (omega arith) (omega (arith, c.obtain-obtained.ensures.layer, c.requires.left))

pub pay-requires : goal.pay-requires
pay-requires c = record {
  ready = ready_on c.requires.ready (moved_on c.obtain-obtained.ensures c.play_completion-completed.ensures) 1 (omega arith) (omega arith)
      (omega (arith, c.obtain-obtained.ensures.layer, c.play_completion-completed.ensures.layer, c.requires.left));
  processor = omega arith;
  block = omega (arith, c.if-ask-ge-CLEAR.false);
}

pub returns-then-is_write : goal.returns-then-is_write
unfolding serving_codes
returns-then-is_write c =
    let a = c.args in
    rw (lt-ltb a.ask 16 c.if-ask-ge-CLEAR.false, sym c.is_write.ensures ∙ c.if-is_write.true)
    (moved-less 129 2080 (omega arith) (omega arith) (moved_on c.obtain-obtained.ensures (moved_on c.play_completion-completed.ensures c.pay.ensures)))

pub returns : goal.returns
unfolding serving_codes
returns c =
    let a = c.args in
    rw (lt-ltb a.ask 16 c.if-ask-ge-CLEAR.false, sym c.is_write.ensures ∙ c.if-is_write.false)
    (moved-less 129 2080 (omega arith) (omega arith) (moved_on c.obtain-obtained.ensures c.play_completion-completed.ensures))
