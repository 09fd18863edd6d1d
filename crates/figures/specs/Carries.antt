-- What the letters' carry holds, and what it becomes with a row: its numbers wrap at 64 bits.
use Rattle.std.specs.Prelude.{List, ℤ, pos, ◌+ℤ◌, Some, None}
use Rattle.std.specs.Int.{int_wrap, w64}
use Rattle.figures.specs.declared.carry.Carry.{Carry}
use Rattle.figures.specs.declared.cells.Column.{Column}
use Rattle.figures.specs.Cells.{Cell, cell}

abbrev pub fresh : Carry
fresh = record { sum = pos 0; present = pos 0; rows = pos 0 }

abbrev pub plus : ℤ → ℤ → ℤ
plus a b = int_wrap w64 (a +ℤ b)

-- one row more, whose cell is given
abbrev pub added : Carry → Cell → Carry
added k None = record { sum = k.sum; present = k.present; rows = plus k.rows (pos 1) }
added k (Some x) = record { sum = plus k.sum x; present = plus k.present (pos 1); rows = plus k.rows (pos 1) }

abbrev pub absorbed : Column → Carry → List Cell → Carry
absorbed c k cells = added k (cell c cells)
