-- A completion serves one request.
use Rattle.best_own_parts.proofs.Moves.{completion-played}
use Rattle.best_own_parts.proofs.Playing.play_completion.Goals as goal

pub returns : goal.returns
returns c = completion-played c.args.setup c.requires.fits c.args.asks.now c.args.self c.play.result _ _ c.play.ensures
