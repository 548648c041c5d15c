-- What the trials keep in the first cells: the random generator, the generator as a case began, and counts.
use Rattle.std.specs.Prelude.{ℕ, zero, suc, ◌+◌, ◌*◌, ◌%◌, List, Option, Some, None}
use Rattle.trials_cells.specs.Cells.{summed, reduced, cell, with}
use Rattle.trials_cells.specs.declared.state.Kind.{Kind}
use Rattle.trials_cells.specs.declared.state.Kind.TheVariants.{Start, Run, Look, Price, Trace, Generate, Best}
use Rattle.trials_cells.specs.declared.state.Difference.{Difference}

-- Lehmer's generator modulo 2³¹ − 1: the number after s
unfoldable pub following : ℕ → ℕ
following s = s * 48271 % 2147483647

-- the cells after a draw, and the number below n that it gives
abbrev pub drawn : List ℕ → List ℕ
drawn cells = with cells 0 0 (following (cell cells 0 0))

abbrev pub roll : List ℕ → ℕ → ℕ
roll cells n = reduced (following (cell cells 0 0)) n

-- cell k of the first ones, with x more
abbrev pub added : List ℕ → ℕ → ℕ → List ℕ
added cells k x = with cells 0 k (summed (cell cells 0 k) x)

-- a kind's number
abbrev pub kind_number : Kind → ℕ
kind_number Start = 0
kind_number Run = 1
kind_number Look = 2
kind_number Price = 3
kind_number Trace = 4
kind_number Generate = 5
kind_number Best = 6

-- where the trials of a kind that ended in a number are counted
abbrev pub count_place : Kind → ℕ → ℕ
count_place kind number = summed 16 (kind_number kind * 32 + number % 32)

-- the cells after a trial that differed in `what`, if in anything: cell 2 counts the differences
abbrev pub judged : List ℕ → Option Difference → List ℕ
judged cells None = cells
judged cells (Some what) = added cells 2 1

-- the trials of a kind that ended in a number below n
abbrev pub totalled : List ℕ → Kind → ℕ → ℕ
totalled cells kind zero = 0
totalled cells kind (suc n) = summed (totalled cells kind n) (cell cells 0 (count_place kind n))
