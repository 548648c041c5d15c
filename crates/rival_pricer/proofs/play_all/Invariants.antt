-- The invariant: the verdict on what is left is the whole verdict.
use Rattle.rival_copies.specs.Copies.{rival_lent}
use Rattle.rival_pricer.proofs.Loop.{Inv}
use Rattle.rival_pricer.proofs.play_all.Given as goal

abbrev pub invariant-loop-at : goal.invariant-loop-at
invariant-loop-at g l =
    Inv l.setup (g.D.Stores.records l.entries) (g.C.Stores.records l.requests) (rival_lent l.blocks l.held l.marks) l.at l.next l.cost
