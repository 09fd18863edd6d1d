use Rattle.std.proofs.Common.{◌≡◌, length, take, drop}
use Rattle.figures.specs.Carries.{fresh}
use Rattle.figures.specs.Sets.{figures, figures_left}
use Rattle.aggregates.specs.Sets.{four}
use Rattle.aggregates.proofs.progress.start_of.Given as goal

abbrev pub invariant-loop-j : goal.invariant-loop-j
invariant-loop-j g l =
    (l.carries ≡ four fresh g.F.Figure.starts (take l.j (figures l.set)))
    × (length l.carries ≡ 4)
    × (figures_left l.figure-iterator ≡ drop l.j (figures l.set))
