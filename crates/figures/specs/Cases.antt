-- Cases worked by hand, on the definition of a result and on the lines alike.
use Rattle.std.specs.Prelude.{◌≡◌, ℕ, List, [], ◌∷◌, ℤ, pos, negsuc, Some, None}
use Rattle.figures.specs.declared.cells.Column.TheVariants.{C0}
use Rattle.figures.specs.declared.letters.Letter.{Letter}
use Rattle.figures.specs.declared.letters.Letter.TheVariants.{Mean, Earlier, Later}
use Rattle.figures.specs.Cells.{Cell, Outcome}
use Rattle.figures.specs.Lines.{line}
use Rattle.figures.specs.Results.{outcome_of}
use Rattle.figures.specs.Rules.{meaning}

abbrev pub row_of : ℤ → List Cell
row_of x = Some x ∷ None ∷ None ∷ None ∷ []

abbrev pub three : List (List Cell)
three = row_of (pos 10) ∷ row_of (pos 20) ∷ row_of (pos 30) ∷ []

-- at a rank of the key with these rows the letter gives this outcome, by its rule and by its line
pub record Gives (l : Letter) (b a : ℕ) (rows : List (List Cell)) (i : ℕ) (o : Outcome) : Type 0 where
  pub ruled : outcome_of meaning (record { letter = l; column = C0; before = b; after = a }) rows i ≡ o
  pub lined : line l C0 b a rows i ≡ o

pub record Worked : Type 0 where
  -- the mean of -3 and -4 is -3
  pub mean : Gives Mean 1 0 (row_of (negsuc 2) ∷ row_of (negsuc 3) ∷ []) 1 (Some (negsuc 2))
  -- the cell two rows earlier: missing at rank 1, and rank 0's cell at rank 2
  pub early : Gives Earlier 2 0 three 1 None
  pub earlier : Gives Earlier 2 0 three 2 (Some (pos 10))
  -- the cell one row later: missing at the last row of an ended key
  pub later : Gives Later 0 1 three 1 (Some (pos 30))
  pub late : Gives Later 0 1 three 2 None
