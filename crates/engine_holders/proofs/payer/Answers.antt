-- Up to each bit that is visited the search has the weakest of the other holders (the laws of visits); what is left of the mask gets smaller. That nothing is
-- left at the end is left to omega, so that a search that stops early fails at a number.
use Prim.Native.Nat.{ℕ, suc, ◌≤◌, ◌<◌, ◌^◌}
use mathlib.Core.Path.{◌≡◌}
use native.Mathlib.Omega.{arith}
use Rattle.protocol.specs.Tables.{tables}
use Rattle.bits.proofs.Bytes.{without-below}
use Rattle.bits.specs.Bits.{without_bit}
use Rattle.bits.proofs.Visits.{Visited, visits-start, turn}
use Rattle.std.proofs.Common.{rules}
use Rattle.engine_holders.proofs.Search.{payer-search-started, payer-search-next, payer-search-ended}
use Rattle.engine_holders.proofs.payer.Goals as goal

-- the visits of what is left of a mask without a bit
visits-others : (n m i others : ℕ) → n ≤ 8 → m < 2 ^ n → others ≡ without_bit m i → Visited n others 0 others
visits-others n m i others few bound e = visits-start n others few (rw e (without-below n few m i bound))

pub loop-j-init : goal.loop-j-init
loop-j-init c =
    let a = c.args in
    let few = c.requires.fits.few-processors in (
      0,
      visits-others a.setup.processors a.mask a.processor _ few c.requires.mask_bound (search rules),
      tt,
      λ b m w g e. payer-search-started a.setup (tables b a.counters.now m w g) a.block a.processor,
      search rules,
    )

pub weaker-requires-clause-weakest_lt_processors :
    goal.weaker-requires-clause-weakest_lt_processors
weaker-requires-clause-weakest_lt_processors c = (c.loop-j.invariant.2, (turn c.loop-j.invariant.1 (omega (arith, c.in-Some.ensures.some)) c.in-Some.ensures.value).below)

pub loop-j-preserved : goal.loop-j-preserved
loop-j-preserved c =
    let a = c.args in
    let t = turn c.loop-j.invariant.1 (omega (arith, c.in-Some.ensures.some)) c.in-Some.ensures.value in (
      suc c.in-Some.j,
      rw c.without_lowest-others.ensures t.next,
      c.weaker.ensures.upper_bound,
      λ b m w g e. payer-search-next a.setup (tables b a.counters.now m w g) a.block e c.requires.fits.few-processors a.processor
          c.loop-j.invariant.4 (c.loop-j.invariant.3 b m w g e) t (c.weaker.ensures.value b m w g),
      c.loop-j.invariant.4,
    )

pub returns : goal.returns
returns c = record {
  value = λ b m w g e.
      let a = c.args in
      payer-search-ended a.setup (tables b a.counters.now m w g) a.block e c.requires.fits.few-processors a.processor
      c.loop-j.invariant.4 (c.loop-j.invariant.3 b m w g e) c.loop-j.invariant.1 (omega (arith, c.in_default.ensures.some));
  in_range = c.loop-j.invariant.2;
}
