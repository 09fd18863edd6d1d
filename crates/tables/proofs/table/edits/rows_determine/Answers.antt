use base.Stored.{Coded-set}
use Rattle.std.specs.contracts.option.Option.{the_row}
use Rattle.tables.proofs.Determines.{determined}
use Rattle.tables.proofs.table.edits.rows_determine.Goals as goal

pub returns : goal.returns
returns g c = determined g.row.N (Coded-set (the_row g.row.T).coded)
