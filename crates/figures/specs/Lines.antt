-- The letters' lines: each letter's result in the words of SQL (ISO/IEC 9075-2, frames in ROWS), over the whole partition, which is the list of all the rows of a key. An absent cell is a null: the aggregates leave it out, and the others respect it.
use Rattle.std.specs.Prelude.{◌≡◌, ℕ, suc, ◌+◌, ◌-◌, ◌/◌, ◌^◌, ◌<◌, Bool, if◌then◌else◌, ◌&&◌, List, [], ◌∷◌, length, ℤ, pos, negsuc, ◌+ℤ◌, neg_ℤ, ◌≤ℤ◌, Some, None, All, Contains, Option, nat_le}
use Rattle.std.specs.List.{slice_get}
use Rattle.figures.specs.declared.cells.Column.{Column}
use Rattle.figures.specs.declared.extremes.Extreme.{Extreme}
use Rattle.figures.specs.declared.extremes.Extreme.TheVariants.{Least, Greatest}
use Rattle.figures.specs.declared.letters.Letter.{Letter}
use Rattle.figures.specs.declared.letters.Letter.TheVariants.{RowNumber, RunningSum, Rows, Present, Sum, Lowest, Highest, First, Last, Earlier, Later, Mean}
use Rattle.figures.specs.declared.letters.LetterFigure.{LetterFigure}
use Rattle.figures.specs.Cells.{Cell, Outcome, numbers, cell_of, RowsFit}
use Rattle.figures.specs.Extremes.{extreme_of}
use Rattle.figures.specs.Results.{outcome_of}
use Rattle.figures.specs.Rules.{meaning}

-- the rows whose rank passes a test, the first having the rank j
abbrev pub picked : {X : Type 0} → (ℕ → Bool) → ℕ → List X → List X
picked test j [] = []
picked test j (x ∷ xs) = if test j then x ∷ picked test (j + 1) xs else picked test (j + 1) xs

-- ROWS BETWEEN b PRECEDING AND a FOLLOWING, of the row of rank i
abbrev pub rows_between : {X : Type 0} → ℕ → ℕ → ℕ → List X → List X
rows_between b a i rows = picked (λ j. nat_le i (j + b) && nat_le j (i + a)) 0 rows

-- ROWS BETWEEN UNBOUNDED PRECEDING AND CURRENT ROW
abbrev pub rows_so_far : {X : Type 0} → ℕ → List X → List X
rows_so_far i rows = picked (λ j. nat_le j i) 0 rows

abbrev pub first_of : {X : Type 0} → List X → Option X
first_of [] = None
first_of (x ∷ xs) = Some x

abbrev pub last_of : {X : Type 0} → List X → Option X
last_of [] = None
last_of (x ∷ []) = Some x
last_of (x ∷ y ∷ ys) = last_of (y ∷ ys)

abbrev pub total : List ℤ → ℤ
total [] = pos 0
total (x ∷ xs) = x +ℤ total xs

-- an aggregate of no number is null
abbrev pub null_of_none : List ℤ → ℤ → Outcome
null_of_none [] v = None
null_of_none (x ∷ xs) v = Some v

-- SUM
abbrev pub sum_of : List ℤ → Outcome
sum_of ns = null_of_none ns (total ns)

-- a whole number divided by a count, the fraction dropped toward zero
abbrev pub per : ℤ → ℕ → ℤ
per (pos a) n = pos (a / n)
per (negsuc a) n = neg_ℤ (pos (suc a / n))

abbrev pub mean_of : List ℤ → Outcome
mean_of ns = null_of_none ns (per (total ns) (length ns))

-- of a letter, its column, its reaches, the partition and the row's rank
abbrev pub line : Letter → Column → ℕ → ℕ → List (List Cell) → ℕ → Outcome
-- ROW_NUMBER()
line RowNumber c b a rows i = Some (pos (i + 1))
-- SUM(c) over the rows so far
line RunningSum c b a rows i = sum_of (numbers c (rows_so_far i rows))
-- COUNT(*), COUNT(c), SUM(c), MIN(c), MAX(c), SUM(c) / COUNT(c) over the frame
line Rows c b a rows i = Some (pos (length (rows_between b a i rows)))
line Present c b a rows i = Some (pos (length (numbers c (rows_between b a i rows))))
line Sum c b a rows i = sum_of (numbers c (rows_between b a i rows))
line Lowest c b a rows i = extreme_of Least (numbers c (rows_between b a i rows))
line Highest c b a rows i = extreme_of Greatest (numbers c (rows_between b a i rows))
line Mean c b a rows i = mean_of (numbers c (rows_between b a i rows))
-- FIRST_VALUE(c) and LAST_VALUE(c) over the frame
line First c b a rows i = cell_of c (first_of (rows_between b a i rows))
line Last c b a rows i = cell_of c (last_of (rows_between b a i rows))
-- LAG(c, b)
line Earlier c b a rows i = if nat_le b i then cell_of c (slice_get rows (i - b)) else None
-- LEAD(c, a)
line Later c b a rows i = cell_of c (slice_get rows (i + a))

-- for every letter, column, reach, partition and rank, the rule applied to carry, frame and position gives the letter's line: the sums are exact, for cells of 32 bits and fewer than 2 ^ 32 rows
abbrev pub LettersMean : Type 0
LettersMean = (f : LetterFigure) (rows : List (List Cell)) (i : ℕ) → i < length rows → length rows < 2 ^ 32 → RowsFit rows
    → outcome_of meaning f rows i ≡ line f.letter f.column f.before f.after rows i

-- the number y does not lie beyond m
abbrev pub Within : Extreme → ℤ → ℤ → Type 0
Within Least m y = m ≤ℤ y
Within Greatest m y = y ≤ℤ m

-- none of no number; else one of them, and none lies beyond it
abbrev pub IsExtreme : Extreme → List ℤ → Outcome → Type 0
IsExtreme e [] o = o ≡ None
IsExtreme e (x ∷ xs) o = (m : ℤ) × (o ≡ Some m) × Contains (x ∷ xs) m × All (Within e m) (x ∷ xs)

abbrev pub ExtremesHold : Type 0
ExtremesHold = (e : Extreme) (ns : List ℤ) → IsExtreme e ns (extreme_of e ns)
