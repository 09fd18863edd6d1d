-- A row's cells, and the numbers that stand in a column of some rows.
use Rattle.std.specs.Prelude.{List, All, ℤ, None, Option, option_and_then, filter_map, IfSome, FitsSigned, slice_index_or}
use Rattle.std.specs.Int.{w32}
use Rattle.figures.specs.declared.cells.Column.{Column}
use Rattle.figures.specs.Named.{place}

-- a cell is a number, or none where it is absent
abbrev pub Cell : Type 0
Cell = Option ℤ

-- a result is a value, or none where it is missing; a cell is a result as it is
abbrev pub Outcome : Type 0
Outcome = Option ℤ

-- the cell of a column
abbrev pub cell : Column → List Cell → Cell
cell c cells = slice_index_or cells (place c) None

-- the cell of a row that there may be
abbrev pub cell_of : Column → Option (List Cell) → Outcome
cell_of c row = option_and_then (cell c) row

-- the numbers of a column in order, without the absent cells
abbrev pub numbers : Column → List (List Cell) → List ℤ
numbers c rows = filter_map (cell c) rows

-- a cell's number has 32 bits
abbrev pub CellFits : Cell → Type 0
CellFits x = IfSome x (FitsSigned w32)

abbrev pub RowsFit : List (List Cell) → Type 0
RowsFit rows = All (λ cells. All CellFits cells) rows
