use Rattle.tables.specs.Rows.{rows}
use Rattle.tables.proofs.table.Table.places.Goals as goal

pub returns : goal.returns
unfolding rows
returns g c = c.args.self.now.packed
