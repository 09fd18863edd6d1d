use Rattle.std.proofs.Common.{◌≡◌, List, map, length, Some}
use Rattle.tables.specs.Altered.{LeavesEach}
use Rattle.tables.specs.Rows.{rows}
use Rattle.tables.proofs.Over.{Over}
use Rattle.tables.proofs.table.Table.for_each_mut.Given as goal

abbrev pub invariant-loop-place : goal.invariant-loop-place
invariant-loop-place g l =
    goal.F-IsAlwaysCallable g l.f
    × (ys : List g.row.T.Denot) × (l.place-items ≡ map Some ys) × (length ys ≡ length (rows l.fn.self))
    × ((h : g.row.T.Denot → g.row.T.Denot) → LeavesEach g.F.FnMut l.initial.f h → LeavesEach g.F.FnMut l.f h × Over h (rows l.fn.self) ys l.place-index)
