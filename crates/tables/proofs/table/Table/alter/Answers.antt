use Rattle.std.proofs.Common.{◌<◌, ◌≤◌, length, set, sym, refl, ap, ◌∙◌, arith, length-set}
use Rattle.std.proofs.lemmas.Option.{slice_get_past}
use Rattle.tables.specs.Rows.{rows}
use Rattle.tables.proofs.Edits.{rows_long, place_read, put_places}
use Rattle.tables.proofs.Laid.{somes_of, laid_table}
use Rattle.tables.proofs.Lent.{turned, alter_get, altered_past}
use Rattle.tables.proofs.table.Table.alter.Goals as goal

pub turn-requires : goal.turn-requires
turn-requires g c x e = c.requires x (sym (place_read c.args.self.now c.args.at c.index-self-at.result c.if-at-self.true c.index-self-at.is) ∙ c.index-self-at.is ∙ e)

pub invariant_of-self : goal.invariant_of-self
invariant_of-self g c =
    let s = c.args.self.now in
    let low : c.args.at < length (rows s) = omega (arith, rows_long s, c.if-at-self.true) in
    let t = turned g.F.FnOnce c.args.f (rows s) c.args.at _ c.turn.new.place low (sym c.index-self-at.is ∙ place_read s c.args.at c.index-self-at.result c.if-at-self.true c.index-self-at.is) c.turn.ensures in
    let e = ap (set s.places c.args.at) t.is ∙ put_places s c.args.at t.left c.if-at-self.true in
    laid_table g.row.N _ _ e (rows_long s ∙ sym (length-set (rows s) c.args.at t.left)) s.few

pub returns-then-at-self : goal.returns-then-at-self
unfolding rows
returns-then-at-self g c =
    let s = c.args.self.now in
    let low : c.args.at < length (rows s) = omega (arith, rows_long s, c.if-at-self.true) in
    let t = turned g.F.FnOnce c.args.f (rows s) c.args.at _ c.turn.new.place low (sym c.index-self-at.is ∙ place_read s c.args.at c.index-self-at.result c.if-at-self.true c.index-self-at.is) c.turn.ensures in
    let is = somes_of g.row.N _ _ (ap (set s.places c.args.at) t.is ∙ put_places s c.args.at t.left c.if-at-self.true) in
    record {
      value = rw t.stood (t.left, t.called, is);
      function = λ h leaves. is ∙ ap (set (rows s) c.args.at) (leaves t.was t.left t.called) ∙ alter_get h (rows s) c.args.at t.was t.stood;
    }

pub returns-else-at-self : goal.returns-else-at-self
returns-else-at-self g c =
    let s = c.args.self.now in
    let past : length (rows s) ≤ c.args.at = omega (arith, rows_long s, c.if-at-self.false) in
    record { value = rw (slice_get_past (rows s) c.args.at past) refl; function = λ h leaves. sym (altered_past h (rows s) c.args.at past) }
