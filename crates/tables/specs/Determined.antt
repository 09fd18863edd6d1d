-- A table is determined by the list of what it holds.
use Rattle.std.specs.Prelude.{◌≡◌, ℕ}
use Rattle.tables.specs.declared.table.Table.{Table}
use Rattle.tables.specs.Rows.{rows}

abbrev pub Determined : Type 0 → ℕ → Type 0
Determined T N = (a b : Table T N) → rows a ≡ rows b → a ≡ b
