-- The old digit's part is no more than the number, and a position stays one.
use Rattle.best_positions.specs.Position.{with_digit}
use Rattle.best_moves.proofs.Laws.{digit-part, with-lt}
use Rattle.best_moves.proofs.put_digit.Goals as goal

pub overflow_sub-result : goal.overflow_sub-result
overflow_sub-result c = let a = c.args in rw (c.digit_at.ensures.value, c.digit_weight-w.ensures.value) (digit-part a.u a.b)

pub returns-clause-bound : goal.returns-clause-bound
unfolding with_digit
returns-clause-bound c =
    let a = c.args in rw (c.digit_at.ensures.value, c.digit_weight-w.ensures.value) (with-lt a.u a.b a.d c.requires.position c.requires.state)
