use Rattle.tables.specs.Rows.{rows}
use Rattle.tables.proofs.table.Table.len.Goals as goal

pub returns-clause-count : goal.returns-clause-count
unfolding rows
returns-clause-count g c = c.args.self.now.count
