-- Columns by their number, and letters by their settings byte.
use Rattle.std.specs.Prelude.{◌≡◌, ℕ, Some, None, Option, ◌≢◌}
use Rattle.figures.specs.declared.cells.Column.{Column}
use Rattle.figures.specs.declared.cells.Column.TheVariants.{C0, C1, C2, C3}
use Rattle.figures.specs.declared.letters.Letter.{Letter}
use Rattle.figures.specs.declared.letters.Letter.TheVariants.{RowNumber, RunningSum, Rows, Present, Sum, Lowest, Highest, First, Last, Earlier, Later, Mean}

abbrev pub place : Column → ℕ
place C0 = 0
place C1 = 1
place C2 = 2
place C3 = 3

abbrev pub code : Letter → ℕ
code RowNumber = 110  -- n
code RunningSum = 114  -- r
code Rows = 107  -- k
code Present = 99  -- c
code Sum = 115  -- s
code Lowest = 108  -- l
code Highest = 104  -- h
code First = 102  -- f
code Last = 116  -- t
code Earlier = 103  -- g
code Later = 100  -- d
code Mean = 97  -- a

-- what a number names in such a table: the one whose number it is, or nothing where it is none's
abbrev pub Names : {X : Type 0} → (X → ℕ) → ℕ → Option X → Type 0
Names {X} number n None = (x : X) → number x ≢ n
Names number n (Some x) = number x ≡ n
