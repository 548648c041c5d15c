-- A row starts at its index of word 0, lies within the words, and comes back as the other (part_copied).
use Prim.Native.Nat.{◌*◌}
use Rattle.std.proofs.Common.{rules}
use native.Mathlib.Nat.{add-zero}
use native.Mathlib.Omega.{arith}
use Rattle.protocol_types.specs.Board.{word_index}
use Rattle.parts.proofs.Laws.{part_copied}
use Rattle.parts.proofs.copy_row.Goals as goal

pub returns : goal.returns
unfolding word_index
returns c =
    let a = c.args in
    let n = a.setup.words in
    simp add-zero
    (part_copied a.to.now _ a.from.now (a.into * n) (a.row * n) n (omega arith) (omega arith) (search (rules, add-zero)))
