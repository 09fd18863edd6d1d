use Rattle.std.proofs.Common.{[], refl, arith}
use Rattle.tables.specs.Rows.{rows}
use Rattle.tables.proofs.Laid.{blank_laid, somes_of, laid_table}
use Rattle.tables.proofs.table.Table.new.Goals as goal

pub invariant_of-result : goal.invariant_of-result
invariant_of-result g c = laid_table g.row.N _ [] (blank_laid g.row.N) refl (omega arith)

pub returns : goal.returns
unfolding rows
returns g c = somes_of g.row.N _ [] (blank_laid g.row.N)
