-- A table as the list of what it holds.
use Rattle.std.specs.Prelude.{ℕ, List}
use Rattle.tables.specs.declared.table.Table.{Table}
use Rattle.tables.specs.declared.table.iter.Iter.{Iter}
use Rattle.tables.specs.Places.{somes}

unfoldable pub rows : {T : Type 0} {N : ℕ} → Table T N → List T
rows table = somes table.places

-- what an iterator of a table has still to give
abbrev pub values_left : {T : Type 0} → Iter T → List T
values_left it = somes it.left.now
