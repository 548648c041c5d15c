-- At each position the search of what is left finds what the whole search finds.
use Rattle.std.proofs.Common.{ℕ, ◌+◌, refl, sym, ap, ◌∙◌, arith, eqb, Bool, true, false}
use Rattle.protocol_types.specs.Lists.{first}
use borrow.Author.Tests.{eq-eqb, ne_eqb}
use Rattle.protocol_types.proofs.Search.{search-started, search-found, search-passed, search-ended}
use Rattle.best_lowest.specs.Lowest.{waiting}
use Rattle.best_lowest.proofs.first_waiting.Goals as goal

pub loop-j-init : goal.loop-j-init
loop-j-init c = let a = c.args in search-started (λ i. eqb (waiting a.distances.now a.order.now (a.start + i)) a.distance) a.count

pub loop-j-preserved : goal.loop-j-preserved
loop-j-preserved c =
    let a = c.args in
    let l = c.loop-j in
    let P : ℕ → Bool = λ i. eqb (waiting a.distances.now a.order.now (a.start + i)) a.distance in
    search-passed P a.count l.j (first a.count P) l.invariant false (omega arith) (sym (ne_eqb _ _ (λ e. c.if-waiting-distance.false (c.waiting.ensures ∙ e)))) refl

pub returns-then-waiting-distance : goal.returns-then-waiting-distance
returns-then-waiting-distance c =
    let a = c.args in
    let l = c.loop-j in
    let P : ℕ → Bool = λ i. eqb (waiting a.distances.now a.order.now (a.start + i)) a.distance in
    ap (λ j. a.start + j)
    (search-found P a.count l.j (first a.count P) l.invariant true (omega arith) (sym (eq-eqb _ _ (sym c.waiting.ensures ∙ c.if-waiting-distance.true))) refl)

pub returns : goal.returns
returns c =
    let a = c.args in
    let l = c.loop-j in
    let P : ℕ → Bool = λ i. eqb (waiting a.distances.now a.order.now (a.start + i)) a.distance in
    ap (λ j. a.start + j) (omega arith ∙ search-ended P a.count l.j (first a.count P) l.invariant (omega arith))
