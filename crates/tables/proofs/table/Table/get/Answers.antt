use Rattle.std.proofs.Common.{◌∙◌, sym, arith}
use Rattle.tables.specs.Rows.{rows}
use Rattle.tables.proofs.Edits.{place_read, rows_long}
use Rattle.std.proofs.lemmas.Option.{slice_get_past}
use Rattle.tables.proofs.table.Table.get.Goals as goal

pub returns-then-i-self : goal.returns-then-i-self
returns-then-i-self g c = c.as_ref.ensures.value ∙ sym c.index-self-i.is ∙ place_read c.args.self.now c.args.i _ c.if-i-self.true c.index-self-i.is

pub returns-else-i-self : goal.returns-else-i-self
returns-else-i-self g c = sym (slice_get_past (rows c.args.self.now) c.args.i (omega (arith, c.if-i-self.false, rows_long c.args.self.now)))
