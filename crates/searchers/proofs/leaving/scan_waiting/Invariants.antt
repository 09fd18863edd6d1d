use Rattle.std.proofs.Common.{◌≡◌, ◌+◌, drop}
use Rattle.figures.specs.Sets.{figures, figures_left}
use Rattle.searchers.specs.Leaving.{by_each, leaving}
use Rattle.searchers.proofs.leaving.scan_waiting.Given as goal

-- the figures that are left decide
abbrev pub invariant-loop-figure : goal.invariant-loop-figure
invariant-loop-figure g l =
    by_each g.F.Figure.ahead (figures_left l.figure-iterator) l.rank l.rows ≡ by_each g.F.Figure.ahead (figures l.set) l.rank l.rows

-- n rows leave, and what leaves of the rest
abbrev pub invariant-loop-n : goal.invariant-loop-n
invariant-loop-n g l =
    let due = by_each g.F.Figure.ahead (figures l.set) in
    l.n + leaving due l.held (drop l.n l.waiting) ≡ leaving due l.held l.waiting
