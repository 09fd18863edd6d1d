-- Settings by numbers and letters: what they say, or the first cause against them.
use Rattle.std.specs.Prelude.{ℕ, ◌+◌, Bool, true, false, if◌then◌else◌, not, ◌&&◌, List, [], ◌∷◌, take, Some, None, Ok, Err, Option, Result, ◌==◌, nat_le}
use Rattle.figures.specs.declared.cells.Column.{Column}
use Rattle.figures.specs.declared.cells.Column.TheVariants.{C0, C1, C2, C3}
use Rattle.figures.specs.declared.letters.Letter.{Letter}
use Rattle.figures.specs.declared.letters.Letter.TheVariants as letter
use Rattle.figures.specs.declared.letters.LetterFigure.{LetterFigure}
use Rattle.figures.specs.Named.{place, code}
use Rattle.searchers.specs.declared.modes.Mode.{Mode}
use Rattle.searchers.specs.declared.modes.Mode.TheVariants as mode
use Rattle.searchers.specs.Modes.{number}
use Rattle.faults.specs.declared.told.Told.{Told}
use Rattle.faults.specs.Numbers.{of_settings}
use Rattle.settings.specs.declared.raw.RawFigure.{RawFigure}
use Rattle.settings.specs.declared.raw.RawSettings.{RawSettings}

-- the first of some whose number it is, or none
abbrev pub named : {X : Type 0} → (X → ℕ) → List X → ℕ → Option X
named number_of [] n = None
named number_of (x ∷ xs) n = if number_of x == n then Some x else named number_of xs n

abbrev pub letters : List Letter
letters =
    letter.RowNumber ∷ letter.RunningSum ∷ letter.Rows ∷ letter.Present ∷ letter.Sum ∷ letter.Lowest
    ∷ letter.Highest ∷ letter.First ∷ letter.Last ∷ letter.Earlier ∷ letter.Later ∷ letter.Mean ∷ []

abbrev pub columns : List Column
columns = C0 ∷ C1 ∷ C2 ∷ C3 ∷ []

abbrev pub modes : List Mode
modes = mode.Sorted ∷ mode.PartlySorted ∷ mode.Linear ∷ []

-- the letters that look at no cell, so that their column is 0
abbrev pub no_column : Letter → Bool
no_column letter.RowNumber = true
no_column letter.RunningSum = false
no_column letter.Rows = true
no_column letter.Present = false
no_column letter.Sum = false
no_column letter.Lowest = false
no_column letter.Highest = false
no_column letter.First = false
no_column letter.Last = false
no_column letter.Earlier = false
no_column letter.Later = false
no_column letter.Mean = false

-- which of the two reaches, before and after, may be other than 0
abbrev pub free : Letter → Bool × Bool
free letter.RowNumber = (false, false)
free letter.RunningSum = (false, false)
free letter.Rows = (true, true)
free letter.Present = (true, true)
free letter.Sum = (true, true)
free letter.Lowest = (true, true)
free letter.Highest = (true, true)
free letter.First = (true, true)
free letter.Last = (true, true)
free letter.Earlier = (true, false)
free letter.Later = (false, true)
free letter.Mean = (true, true)

-- a reach is at most 512, and 0 where it is not free
abbrev pub longest : Bool → ℕ
longest may = if may then 512 else 0

abbrev pub within_reach : Bool → ℕ → Bool
within_reach may n = nat_le n (longest may)

-- one figure, at a place among the others

abbrev pub reaching : ℕ → RawFigure → Letter → Column → Bool → Result LetterFigure Told
reaching at raw l c true = Ok (record { letter = l; column = c; before = raw.before; after = raw.after })
reaching at raw l c false = Err (of_settings 6 at)

abbrev pub over_column : ℕ → RawFigure → Letter → Option Column → Result LetterFigure Told
over_column at raw l None = Err (of_settings 5 at)
over_column at raw l (Some c) = reaching at raw l c (within_reach (free l).0 raw.before && within_reach (free l).1 raw.after)

-- the column that a letter takes: one of four, and 0 where the letter looks at no cell
abbrev pub column_of : Letter → ℕ → Option Column
column_of l n = if no_column l && not (n == 0) then None else named place columns n

abbrev pub by_letter : ℕ → RawFigure → Option Letter → Result LetterFigure Told
by_letter at raw None = Err (of_settings 4 at)
by_letter at raw (Some l) = over_column at raw l (column_of l raw.column)

abbrev pub figure_given : ℕ → RawFigure → Result LetterFigure Told
figure_given at raw = by_letter at raw (named code letters raw.letter)

-- the figures in their order, or the first cause against one of them

abbrev pub joined : Result LetterFigure Told → Result (List LetterFigure) Told → Result (List LetterFigure) Told
joined (Err told) rest = Err told
joined (Ok f) (Err told) = Err told
joined (Ok f) (Ok fs) = Ok (f ∷ fs)

abbrev pub figures_given : ℕ → List RawFigure → Result (List LetterFigure) Told
figures_given at [] = Ok []
figures_given at (raw ∷ raws) = joined (figure_given at raw) (figures_given (at + 1) raws)

-- what settings say: the number of the key kind, the mode, and the figures
pub record Given : Type 0 where
  pub kind : ℕ
  pub mode : Mode
  pub figures : List LetterFigure

abbrev pub between : ℕ → ℕ → ℕ → Bool
between low high n = nat_le low n && nat_le n high

-- the number of a key kind, or that there is none of that number
abbrev pub kind_given : ℕ → Result ℕ Told
kind_given n = if between 1 3 n then Ok n else Err (of_settings 1 0)

-- the mode by its number

abbrev pub mode_told : Option Mode → Result Mode Told
mode_told None = Err (of_settings 2 0)
mode_told (Some m) = Ok m

abbrev pub mode_given : ℕ → Result Mode Told
mode_given n = mode_told (named number modes n)

abbrev pub with_figures : ℕ → Mode → Result (List LetterFigure) Told → Result Given Told
with_figures kind m (Err told) = Err told
with_figures kind m (Ok fs) = Ok (record { kind = kind; mode = m; figures = fs })

-- the figures, as many as the settings say: one to four
abbrev pub set_given : RawSettings → Result (List LetterFigure) Told
set_given raw =
    if between 1 4 raw.figures
    then figures_given 0 (take raw.figures (raw.first ∷ raw.second ∷ raw.third ∷ raw.fourth ∷ []))
    else Err (of_settings 3 0)

abbrev pub in_mode : RawSettings → Result Mode Told → Result Given Told
in_mode raw (Err told) = Err told
in_mode raw (Ok m) = with_figures raw.key_kind m (set_given raw)

abbrev pub given : RawSettings → Result Given Told
given raw = if between 1 3 raw.key_kind then in_mode raw (mode_given raw.mode) else Err (of_settings 1 0)

-- something of what was answered
abbrev pub mapped_ok : {A B E : Type 0} → (A → B) → Result A E → Result B E
mapped_ok f (Ok a) = Ok (f a)
mapped_ok f (Err e) = Err e
