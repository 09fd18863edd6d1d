use Rattle.std.proofs.Common.{sym, arith, rules, length-take-le}
use Rattle.std.proofs.lemmas.List.{take_all}
use Rattle.tables.specs.Rows.{rows}
use Rattle.tables.proofs.Edits.{rows_long, cut_places}
use Rattle.tables.proofs.Laid.{somes_of, laid_table}
use Rattle.tables.proofs.table.Table.truncate.Goals as goal

pub invariant_of-self : goal.invariant_of-self
invariant_of-self g c =
    let s = c.args.self.now in
    let e = cut_places s c.args.n c.if-n-self.true c.fill.new.self (search rules) in
    laid_table g.row.N _ _ e (sym (length-take-le c.args.n (rows s) (omega (arith, rows_long s, c.if-n-self.true)))) (omega (arith, s.few, c.if-n-self.true))

pub returns-then-n-self : goal.returns-then-n-self
unfolding rows
returns-then-n-self g c = somes_of g.row.N _ _ (cut_places c.args.self.now c.args.n c.if-n-self.true c.fill.new.self (search rules))

pub returns-else-n-self : goal.returns-else-n-self
returns-else-n-self g c = let s = c.args.self.now in sym (take_all c.args.n (rows s) (omega (arith, rows_long s, c.if-n-self.false)))
