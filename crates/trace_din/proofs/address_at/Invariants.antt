use Prim.Native.Nat.{◌+◌}
use mathlib.Core.Path.{◌≡◌}
use lib.ListN.{length, drop}
use Rattle.trace_din.specs.Lines.{is_hex, leading}
use Rattle.trace_din.specs.Digits.{shifted_all}
use Rattle.trace_din.proofs.address_at.Given as goal

abbrev pub invariant-loop-i : goal.invariant-loop-i
invariant-loop-i l =
    (l.from + length (leading is_hex (drop l.from l.bytes)) ≡ l.i + length (leading is_hex (drop l.i l.bytes)))
    × (shifted_all 0 (leading is_hex (drop l.from l.bytes)) ≡ shifted_all l.number (leading is_hex (drop l.i l.bytes)))
