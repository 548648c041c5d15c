-- A drop is free.
use Rattle.best_own_parts.proofs.Moves.{drop-played}
use Rattle.best_own_parts.proofs.Playing.play_drop.Goals as goal

pub returns : goal.returns
returns c = drop-played c.args.setup c.requires.ready.fits c.args.asks.now c.args.self c.play.result _ _ c.args.i c.args.b c.requires.processor c.requires.block c.play.ensures
