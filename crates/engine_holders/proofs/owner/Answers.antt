-- From each bit that is visited on what is left of the search finds the owner (the laws of visits); what is left of the mask gets smaller.
use Prim.Native.Nat.{suc}
use native.Mathlib.Omega.{arith}
use Rattle.protocol.specs.Tables.{tables}
use Rattle.bits.proofs.Visits.{visits-start, turn}
use Rattle.engine_holders.proofs.Search.{owner-search-started, owner-search-found, owner-search-passed, owner-search-ended}
use Rattle.engine_holders.proofs.owner.Goals as goal

pub loop-j-init : goal.loop-j-init
loop-j-init c =
    let a = c.args in (
      0,
      visits-start a.setup.processors a.mask c.requires.fits.few-processors c.requires.mask_bound,
      λ b k w g e. owner-search-started a.setup (tables b k a.marks.now w g) a.block,
    )

pub slot-requires-clause-processor_lt_processors :
    goal.slot-requires-clause-processor_lt_processors
slot-requires-clause-processor_lt_processors c = (turn c.loop-j.invariant.1 (omega (arith, c.in-Some.ensures.some)) c.in-Some.ensures.value).below

pub returns-then-marks-slot-eq1 : goal.returns-then-marks-slot-eq1
returns-then-marks-slot-eq1 c =
    let a = c.args in
    let t = turn c.loop-j.invariant.1 (omega (arith, c.in-Some.ensures.some)) c.in-Some.ensures.value in record {
      value = λ b k w g e. owner-search-found a.setup (tables b k a.marks.now w g) a.block e (c.loop-j.invariant.2 b k w g e) t
          (rw c.slot.ensures.value at c.if-marks-slot-eq1.true);
      in_range = t.below;
    }

pub loop-j-preserved : goal.loop-j-preserved
loop-j-preserved c =
    let a = c.args in
    let t = turn c.loop-j.invariant.1 (omega (arith, c.in-Some.ensures.some)) c.in-Some.ensures.value in (
      suc c.in-Some.j,
      rw c.without_lowest-holders.ensures t.next,
      λ b k w g e. owner-search-passed a.setup (tables b k a.marks.now w g) a.block e (c.loop-j.invariant.2 b k w g e) t
          (rw c.slot.ensures.value at c.if-marks-slot-eq1.false),
    )

pub returns : goal.returns
returns c =
    let a = c.args in record {
      value = λ b k w g e. owner-search-ended a.setup (tables b k a.marks.now w g) a.block e (c.loop-j.invariant.2 b k w g e) c.loop-j.invariant.1 (omega (arith, c.in_default.ensures.some));
      in_range = tt;
    }
