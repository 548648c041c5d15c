use Rattle.std.proofs.Common.{◌*◌}
use Rattle.best_own_parts.specs.Codes.{clearing_codes}
use Rattle.best_own_parts.specs.Playing.{Moved}
use Rattle.best_own_parts.proofs.Playing.clear.Given as goal

abbrev pub invariant-loop-line : goal.invariant-loop-line
invariant-loop-line l = Moved l.setup l.asks (clearing_codes l.setup l.u l.i l.line) (2 * l.line) (32 * l.line) 0 l.initial.cleared l.cleared l.initial.numbers l.numbers
