use Rattle.std.proofs.Common.{◌≡◌, ◌+◌, ◌-◌, ◌++◌, length, take}
use Rattle.figures.specs.Catching.{stretch, carry_after}
use Rattle.figures.proofs.catching.catch_up.Given as goal

-- what is done, and what the rest will give, make the whole
abbrev pub invariant-loop-place : goal.invariant-loop-place
invariant-loop-place g l =
    (take l.place l.results ++ stretch g.F.Figure l.figure l.next l.kept.first l.kept.rows.now (l.from + l.place) (length l.initial.results - l.place)
    ≡ stretch g.F.Figure l.figure l.initial.next l.kept.first l.kept.rows.now l.from (length l.initial.results))
    × (carry_after g.F.Figure l.figure l.next l.kept.first l.kept.rows.now (l.from + l.place) (length l.initial.results - l.place)
    ≡ carry_after g.F.Figure l.figure l.initial.next l.kept.first l.kept.rows.now l.from (length l.initial.results))
