-- The invariant: the lines passed are emptied, as the position at the start tells them.
use Prim.Native.Nat.{◌*◌, suc}
use mathlib.Core.Path.{◌≡◌}
use native.Mathlib.Omega.{arith}
use native.Mathlib.Numerals.{add-one}
use Rattle.best_own_parts.proofs.Moves.{moved-less, moved_none, moved_on, ready_on}
use Rattle.best_own_parts.proofs.Playing.clear.Goals as goal

pub loop-line-init : goal.loop-line-init
loop-line-init c = let a = c.args in moved_none a.setup a.asks.now 0 0 a.self a.numbers.now

pub evict-cleared-requires : goal.evict-cleared-requires
evict-cleared-requires c = let w = c.loop-line in record { ready = ready_on c.requires.ready w.invariant 2 (omega (arith, c.requires.ready.fits.few-lines)) (omega arith) (omega (arith, w.invariant.layer, c.requires.ready.position)); processor = c.requires.processor }

pub loop-line-preserved : goal.loop-line-preserved
loop-line-preserved c = let l = c.loop-line.line in rw (add-one l) (moved-less (2 * suc l) (32 * suc l) (omega arith) (omega arith) (moved_on c.loop-line.invariant c.evict-cleared.ensures))

pub returns : goal.returns
returns c = let w = c.loop-line in let e : w.line ≡ c.args.setup.lines = omega arith in rw e at (moved-less 128 2048 (omega (arith, c.requires.ready.fits.few-lines)) (omega (arith, c.requires.ready.fits.few-lines)) w.invariant)
