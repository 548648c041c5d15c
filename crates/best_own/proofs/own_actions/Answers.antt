-- The invariant: what is left after so many requests makes the whole.
use Prim.Native.Nat.{◌≤◌}
use mathlib.Core.Path.{refl}
use native.Mathlib.Omega.{arith}
use lib.ListN.{length}
use Rattle.best_own.proofs.Progress.{progress-cost, progress-length, progress-next, progress-numbers, progress-ready, progress_start}
use Rattle.best_own.proofs.own_actions.Goals as goal

pub loop-ask-init : goal.loop-ask-init
loop-ask-init c = progress_start c.args.setup c.args.asks.now c.args.numbers.now c.requires.sized

pub serve-a-requires : goal.serve-a-requires
serve-a-requires c =
    let p = c.loop-ask.invariant in
    let z = c.requires in record {
      ready = progress-ready p z.fits.0 z.fits.1 z.asks_len_bound (omega arith);
      left = omega (arith, p.layer, z.asks_len_bound);
    }

pub loop-ask-preserved : goal.loop-ask-preserved
loop-ask-preserved c =
    progress-next c.loop-ask.invariant (omega arith) c.serve-a.result c.served_counters-next.result _ _ refl c.served_counters-next.ensures c.serve-a.ensures

pub returns : goal.returns
returns c =
    let p = c.loop-ask.invariant in
    let few = c.requires.asks_len_bound in
    let all : length c.args.asks.now ≤ c.loop-ask.ask-index = omega arith in record {
      numbers = progress-numbers p few all c.requires.sized;
      count = progress-length p few all;
      short = omega (arith, p.short, p.few);
      cost = progress-cost p few all;
      small = omega (arith, p.cheap, p.few);
    }
