-- A move serves no request.
use Rattle.best_own_parts.proofs.Moves.{move-played}
use Rattle.best_own_parts.proofs.Playing.play_move.Goals as goal

pub returns : goal.returns
returns c = move-played c.args.setup c.requires.ready.fits c.args.asks.now c.args.self c.play.result _ _ c.args.i c.args.b c.requires.processor c.requires.block c.play.ensures
