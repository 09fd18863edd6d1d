use Rattle.tables.proofs.Edits.{front_values}
use Rattle.tables.proofs.table.Table.iter.Goals as goal

pub returns : goal.returns
returns g c = front_values c.args.self.now
