-- Up to each bit that is visited the copies have the word (the laws of visits), which lies within those of its slot (word_index-lt); what is left of the mask
-- gets smaller.
use Prim.Native.Nat.{suc}
use mathlib.Core.Path.{◌∙◌}
use native.Mathlib.Omega.{arith}
use Rattle.protocol_types.specs.Board.{slots}
use Rattle.protocol.specs.Tables.{tables}
use Rattle.protocol_types.proofs.Board.{word_index-lt}
use Rattle.bits.proofs.Visits.{turn}
use Rattle.engine_holders.proofs.Search.{copies-next, copies-ended}
use Rattle.engine_holders.proofs.update_copies.Goals as goal

pub slot-k-requires-clause-processor_lt_processors :
    goal.slot-k-requires-clause-processor_lt_processors
slot-k-requires-clause-processor_lt_processors c = (turn c.loop-j.invariant.1 (omega (arith, c.in-Some.ensures.some)) c.in-Some.ensures.value).below

pub set_word-requires : goal.set_word-requires
set_word-requires c =
    let a = c.args in
    omega (arith, word_index-lt a.setup c.requires.fits c.slot-k.result (slots a.setup) a.offset c.slot-k.ensures.within c.requires.offset_lt_words, c.loop-j.invariant.2)

pub returns : goal.returns
returns c b k m g e =
    let a = c.args in
    copies-ended a.setup (tables b k m a.words.now g) a.block e a.offset a.value (c.loop-j.invariant.3 b k m g e) c.loop-j.invariant.1 (omega (arith, c.in_default.ensures.some))

pub loop-j-preserved : goal.loop-j-preserved
loop-j-preserved c =
    let a = c.args in
    let t = turn c.loop-j.invariant.1 (omega (arith, c.in-Some.ensures.some)) c.in-Some.ensures.value in (
      suc c.in-Some.j,
      rw c.without_lowest-copies.ensures t.next,
      c.set_word.auto.words ∙ c.loop-j.invariant.2,
      λ b k m g e. rw (c.set_word.ensures, c.slot-k.ensures.value)
          (copies-next a.setup (tables b k m a.words.now g) a.block e a.offset a.value (c.loop-j.invariant.3 b k m g e) t),
    )
