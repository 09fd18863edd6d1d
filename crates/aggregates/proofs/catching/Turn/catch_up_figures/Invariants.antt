use Rattle.std.proofs.Common.{◌≡◌, length, take, drop}
use Rattle.figures.specs.Sets.{figures, figures_left}
use Rattle.tables.specs.Rows.{rows}
use Rattle.aggregates.specs.Sets.{next_carries, next_results}
use Rattle.aggregates.specs.Writing.{all_rewritten}
use Rattle.aggregates.proofs.catching.Turn.catch_up_figures.Given as goal

-- the figures before the place are done
abbrev pub invariant-loop-j : goal.invariant-loop-j
invariant-loop-j g l =
    (l.next ≡ next_carries g.F.Figure l.self.entry.progress.rows l.self.entry.rows l.self.entry.ended l.self.cells.now (take l.j (figures l.set)) l.initial.next)
    × (rows l.waiting ≡ all_rewritten l.self.place (next_results g.F.Figure l.self.entry.progress.rows l.self.entry.rows l.self.entry.ended l.self.cells.now (take l.j (figures l.set)) l.initial.next) (rows l.initial.waiting))
    × (length l.next ≡ 4)
    × (figures_left l.figure-iterator ≡ drop l.j (figures l.set))
