use Rattle.std.proofs.Common.{◌+◌, ◌∙◌, sym, ap, arith}
use Rattle.std.proofs.lemmas.List.{length_push}
use Rattle.tables.specs.Rows.{rows}
use Rattle.tables.proofs.Edits.{places_size, rows_long, push_places}
use Rattle.tables.proofs.Laid.{somes_of, laid_table}
use Rattle.tables.proofs.table.Table.push.Goals as goal

pub listed : goal.listed
listed g c = let s = c.args.self.now in omega (arith, c.requires, rows_long s, places_size s)

pub bounds-self-self : goal.bounds-self-self
bounds-self-self g c = omega (arith, c.requires, rows_long c.args.self.now)

pub invariant_of-self : goal.invariant_of-self
invariant_of-self g c =
    let s = c.args.self.now in
    let e = push_places s c.args.x c.requires in
    laid_table g.row.N _ _ e (ap (λ n. n + 1) (rows_long s) ∙ sym (length_push (rows s) c.args.x)) (omega (arith, c.requires, rows_long s))

pub returns : goal.returns
unfolding rows
returns g c = somes_of g.row.N _ _ (push_places c.args.self.now c.args.x c.requires)
