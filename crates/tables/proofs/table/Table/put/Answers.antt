use Rattle.std.proofs.Common.{sym, ◌∙◌, arith, length-set}
use Rattle.std.proofs.lemmas.List.{set_past}
use Rattle.tables.specs.Rows.{rows}
use Rattle.tables.proofs.Edits.{put_places, rows_long}
use Rattle.tables.proofs.Laid.{somes_of, laid_table}
use Rattle.tables.proofs.table.Table.put.Goals as goal

pub invariant_of-self : goal.invariant_of-self
invariant_of-self g c =
    let s = c.args.self.now in
    let e = put_places s c.args.i c.args.x c.if-i-self.true in
    laid_table g.row.N _ _ e (rows_long s ∙ sym (length-set (rows s) c.args.i c.args.x)) s.few

pub returns-then-i-self : goal.returns-then-i-self
unfolding rows
returns-then-i-self g c = somes_of g.row.N _ _ (put_places c.args.self.now c.args.i c.args.x c.if-i-self.true)

pub returns-else-i-self : goal.returns-else-i-self
returns-else-i-self g c = let s = c.args.self.now in sym (set_past (rows s) c.args.i c.args.x (omega (arith, rows_long s, c.if-i-self.false)))
