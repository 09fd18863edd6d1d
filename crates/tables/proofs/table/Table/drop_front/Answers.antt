use Rattle.std.proofs.Common.{◌≡◌, ◌-◌, ◌<◌, ◌≤◌, ◌++◌, length, take, drop, sym, ap, ◌∙◌, arith, length-drop, length-append}
use Rattle.std.proofs.lemmas.List.{take_at, drop_all}
use Rattle.tables.specs.Places.{laid}
use Rattle.tables.specs.Rows.{rows}
use Rattle.tables.proofs.Edits.{rows_long, shift_places}
use Rattle.tables.proofs.Laid.{somes_of, laid_table}
use Rattle.tables.proofs.table.Table.drop_front.Goals as goal
use Rattle.tables.proofs.table.Table.drop_front.Goals.{then-left-gt0, else-left-gt0}

pub invariant_of-self : goal.invariant_of-self
invariant_of-self g c =
    let s = c.args.self.now in
    let n = c.args.n in
    let xs = rows s in
    let low : n < s.len = omega (arith, c.saturating_sub-left.ensures, c.if-left-gt0.true) in
    let e : c.copy_within.new.self ≡ laid g.row.N (drop n xs ++ drop (s.len - n) xs) = shift_places s n low {there = c.copy_within.new.self} c.copy_within.ensures.after in
    let long : length (drop n xs ++ drop (s.len - n) xs) ≡ s.len = omega (arith, length-append (drop n xs) (drop (s.len - n) xs), length-drop n xs, length-drop (s.len - n) xs, rows_long s) in
    laid_table g.row.N _ _ e (sym long) s.few

pub returns : goal.returns
unfolding rows
returns g c =
    let s = c.args.self.now in
    let n = c.args.n in
    let xs = rows s in
    let left = s.len - n in
    elim c.if-left-gt0.branch [
      | then-left-gt0 w ↦
          let low : n < s.len = omega (arith, c.saturating_sub-left.ensures, w.if-left-gt0.true) in
          let e = shift_places s n low {there = w.copy_within.new.self} w.copy_within.ensures.after in
          let long : length (drop n xs) ≡ c.saturating_sub-left.result = omega (arith, length-drop n xs, rows_long s, c.saturating_sub-left.ensures) in
          c.truncate.ensures ∙ ap (take c.saturating_sub-left.result) (ap rows w.self-is ∙ somes_of g.row.N _ _ e) ∙ take_at (drop n xs) (drop left xs) c.saturating_sub-left.result long
      | else-left-gt0 w ↦
          let none : c.saturating_sub-left.result ≡ 0 = omega (arith, w.if-left-gt0.false) in
          let past : length xs ≤ n = omega (arith, c.saturating_sub-left.ensures, none, rows_long s) in
          c.truncate.ensures ∙ ap (λ k. take k (rows c.if-left-gt0.self)) none ∙ sym (drop_all n xs past)
    ]
