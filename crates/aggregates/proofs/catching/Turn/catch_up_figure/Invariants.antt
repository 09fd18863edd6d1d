use Rattle.std.proofs.Common.{◌≡◌, ◌-◌, length}
use Rattle.figures.specs.Catching.{stretch, carry_after}
use Rattle.tables.specs.Rows.{rows}
use Rattle.aggregates.specs.Writing.{all_rewritten, figure_taken}
use Rattle.aggregates.proofs.catching.Turn.catch_up_figure.Given as goal

-- what is done, and what the rest will give, make the whole
abbrev pub invariant-loop-rank : goal.invariant-loop-rank
invariant-loop-rank g l =
    (carry_after g.F.Figure l.figure l.next l.kept.first l.self.cells.now l.rank (l.end - l.rank)
    ≡ carry_after g.F.Figure l.figure l.initial.next l.kept.first l.self.cells.now l.initial.rank (l.end - l.initial.rank))
    × (all_rewritten l.self.place (figure_taken l.number (stretch g.F.Figure l.figure l.next l.kept.first l.self.cells.now l.rank (l.end - l.rank)) l.rank) (rows l.waiting)
    ≡ all_rewritten l.self.place (figure_taken l.number (stretch g.F.Figure l.figure l.initial.next l.kept.first l.self.cells.now l.initial.rank (l.end - l.initial.rank)) l.initial.rank) (rows l.initial.waiting))
    × (length l.results ≡ 512)

abbrev pub decreases-loop-rank : goal.decreases-loop-rank
decreases-loop-rank g l = l.end - l.rank
