-- At i the mask is that of the processors below i: one processor more adds its weight (mask-suc), and the mask stays a byte (mask-room).
use Prim.Native.Nat.{◌+◌, ◌^◌, ◌<◌}
use mathlib.Core.Path.{◌≡◌, ◌∙◌}
use mathlib.Core.List.{[]}
use native.Mathlib.Numerals.{add-one}
use native.Mathlib.Omega.{arith}
use Rattle.protocol.specs.Masks.{holders}
use Rattle.bits.proofs.Bits.{mask-suc, mask-room}
use Rattle.std.proofs.Common.{rules}
use Rattle.engine_soundness.proofs.block_mask.Goals as goal

pub add_holder-mask-requires : goal.add_holder-mask-requires
add_holder-mask-requires c =
    let loop' = c.loop-i in
    let room : loop'.mask + 2 ^ loop'.i < 256 = rw (loop'.invariant [] [] []) (mask-room loop'.i _ (omega arith)) in
    search rules

pub loop-i-preserved : goal.loop-i-preserved
loop-i-preserved c m w g =
    c.add_holder-mask.ensures m w g ∙ rw (add-one, mask-suc, c.loop-i.invariant m w g)

pub returns : goal.returns
unfolding holders
returns c m w g =
    let e : c.loop-i.i ≡ c.args.setup.processors = omega arith in
    c.loop-i.invariant m w g ∙ rw e
