-- The letters' figures: their value rules over the carry, the frame and the position.
use Rattle.std.specs.Prelude.{ℕ, ◌+◌, ◌-◌, if◌then◌else◌, List, length, take, ℤ, pos, fold, int_div, int_lt, nat_le, Some, None}
use Rattle.std.specs.List.{slice_get}
use Rattle.figures.specs.declared.carry.Carry.{Carry}
use Rattle.figures.specs.declared.cells.Column.{Column}
use Rattle.figures.specs.declared.extremes.Extreme.TheVariants.{Least, Greatest}
use Rattle.figures.specs.declared.figure.Figure as figure
use Rattle.figures.specs.declared.letters.Letter.{Letter}
use Rattle.figures.specs.declared.letters.Letter.TheVariants.{RowNumber, RunningSum, Rows, Present, Sum, Lowest, Highest, First, Last, Earlier, Later, Mean}
use Rattle.figures.specs.declared.letters.LetterFigure.{LetterFigure}
use Rattle.figures.specs.Carries.{absorbed, fresh, plus}
use Rattle.figures.specs.Cells.{Cell, Outcome, cell_of, numbers}
use Rattle.figures.specs.Extremes.{extreme_of}

-- missing where no cell is present
abbrev pub if_any : Carry → ℤ → Outcome
if_any k v = if int_lt (pos 0) k.present then Some v else None

abbrev pub sum_shown : Carry → Outcome
sum_shown k = if_any k k.sum

-- the fraction is dropped toward zero
abbrev pub mean_shown : Carry → Outcome
mean_shown k = if_any k (int_div k.sum k.present)

-- the cell b rows before the position
abbrev pub cell_before : Column → ℕ → List (List Cell) → ℕ → Outcome
cell_before c b rows p = if nat_le b p then cell_of c (slice_get rows (p - b)) else None

-- of a letter, its column, its reaches, the carry, the frame's rows and the position
abbrev pub rule : Letter → Column → ℕ → ℕ → Carry → List (List Cell) → ℕ → Outcome
rule RowNumber c b a k rows p = Some (plus k.rows (pos (length (take (p + 1) rows))))
rule RunningSum c b a k rows p = sum_shown (fold (absorbed c) k (take (p + 1) rows))
rule Rows c b a k rows p = Some (pos (length rows))
rule Present c b a k rows p = Some (fold (absorbed c) fresh rows).present
rule Sum c b a k rows p = sum_shown (fold (absorbed c) fresh rows)
rule Lowest c b a k rows p = extreme_of Least (numbers c rows)
rule Highest c b a k rows p = extreme_of Greatest (numbers c rows)
rule First c b a k rows p = cell_of c (slice_get rows 0)
rule Last c b a k rows p = cell_of c (slice_get rows (length rows - 1))
rule Earlier c b a k rows p = cell_before c b rows p
rule Later c b a k rows p = cell_of c (slice_get rows (p + a))
rule Mean c b a k rows p = mean_shown (fold (absorbed c) fresh rows)

abbrev pub meaning : figure.Ghosts LetterFigure
meaning = record {
  back = λ f. f.before;
  ahead = λ f. f.after;
  starts = λ f. fresh;
  absorbs = λ f. absorbed f.column;
  yields = λ f. rule f.letter f.column f.before f.after;
}
