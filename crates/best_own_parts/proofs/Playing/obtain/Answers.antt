-- A hit needs no entry.
use mathlib.Core.Path.{◌∙◌, sym}
use native.Mathlib.Omega.{arith}
use Rattle.protocol_types.specs.Board.{line_of}
use Rattle.best_own_parts.specs.Codes.{obtaining_codes}
use Rattle.best_own_parts.proofs.Moves.{moved_none, moved_on, ready-less, ready_on}
use Rattle.best_own_parts.proofs.Playing.obtain.Goals as goal

pub returns-then-holds_block : goal.returns-then-holds_block
unfolding obtaining_codes
returns-then-holds_block c = let a = c.args in rw (sym c.holds_block.ensures ∙ c.if-holds_block.true) (moved_none a.setup a.asks.now 3 64 a.self a.numbers.now)

pub line_of-line-requires : goal.line_of-line-requires
line_of-line-requires c = (c.requires.ready.fits.some-line, c.requires.ready.fits.few-lines)

pub evict-evicted-requires : goal.evict-evicted-requires
evict-evicted-requires c = record { ready = ready-less c.requires.ready 2 (omega arith); processor = c.requires.processor }

pub play_move-requires : goal.play_move-requires
play_move-requires c = record { ready = ready_on c.requires.ready c.evict-evicted.ensures 1 (omega arith) (omega arith) (omega (arith, c.evict-evicted.ensures.layer, c.requires.ready.position)); processor = c.requires.processor; block = c.requires.block }

pub returns : goal.returns
unfolding obtaining_codes line_of
returns c = let a = c.args in rw (sym c.holds_block.ensures ∙ c.if-holds_block.false, ← c.line_of-line.ensures) (moved_on c.evict-evicted.ensures c.play_move.ensures)
