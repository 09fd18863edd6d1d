use Rattle.std.proofs.Common.{◌≡◌, ◌<◌, ◌≤◌, ◌++◌, length, get_or, set, drop, Some, None, sym, refl, ap, ◌∙◌, subst, arith, of_calls, length-set}
use Rattle.std.proofs.lemmas.List.{map-set}
use Rattle.std.specs.List.{slice_get}
use Rattle.tables.specs.Altered.{LeavesEach}
use Rattle.tables.specs.Rows.{rows}
use Rattle.tables.proofs.Edits.{rows_long, front_places, front_long, front_written}
use Rattle.tables.proofs.Laid.{front_get, somes_of, laid_table}
use Rattle.tables.proofs.Lent.{get_read, get_none, leaves_call}
use Rattle.tables.proofs.Over.{over_more, over_all}
use Rattle.tables.proofs.table.Table.for_each_mut.Goals as goal
use Rattle.tables.proofs.table.Table.for_each_mut.Goals.{in-Some, in_default}

pub returns : goal.returns
unfolding rows
returns g c =
    let s = c.args.self.now in
    let q = c.loop-place.invariant in
    let end : length (rows s) ≤ c.loop-place.place-index = omega (arith, front_long s, c.loop-place-test.false) in
    let is = somes_of g.row.N _ _ (ap (λ l. l ++ drop s.len s.places) q.2 ∙ front_written s q.1 q.3) in
    record { count = ap length is ∙ q.3; function = λ h k. is ∙ over_all c.loop-place.place-index (q.4 h k).1 end }

pub loop-place-init : goal.loop-place-init
loop-place-init g c = (c.requires, rows c.args.self.now, front_places c.args.self.now, refl, λ h k. (k, record { is = refl; long = refl }))

pub invariant_of-self : goal.invariant_of-self
invariant_of-self g c =
    let s = c.args.self.now in
    let q = c.loop-place.invariant in
    let e = ap (λ l. l ++ drop s.len s.places) q.2 ∙ front_written s q.1 q.3 in
    laid_table g.row.N _ _ e (rows_long s ∙ sym q.3) s.few

pub loop-place-preserved : goal.loop-place-preserved
loop-place-preserved g c =
    let s = c.args.self.now in
    let q = c.loop-place.invariant in
    let ys = q.1 in
    let i = c.loop-place.place-index in
    let o = get_or c.loop-place.place-items i c.place-item.result in
    let low : i < length ys = omega (arith, q.3, front_long s, c.loop-place-test.true) in
    let read : o ≡ slice_get ys i = sym c.place-item.is ∙ front_get ys i c.place-item.result low (c.place-item.is ∙ ap (λ l. get_or l i c.place-item.result) q.2) in
    elim c.match-place.branch [
      | in-Some w ↦
          let y = w.f.new.arg2 in (
            search of_calls,
            set ys i y,
            w.place-items-is ∙ ap (λ l. set l i (Some y)) q.2 ∙ sym (map-set Some ys i y),
            length-set ys i y ∙ q.3,
            λ h k.
                let m = q.4 h k in
                let n = leaves_call h m.0 w.f.ensures in (
                  subst (λ f. LeavesEach g.F.FnMut f h) (sym w.f-is) n.0,
                  over_more i w.in-Some.x m.1 (omega (arith, low, q.3)) (get_read ys i w.in-Some.x (sym read ∙ w.in-Some.is)).1 (ap (set ys i) n.1),
                ),
          )
      | in_default w ↦ let none : o ≡ None = w.in_default.is in absurd (omega (arith, low, get_none ys i (sym read ∙ none)))
    ]
