use Rattle.std.proofs.Common.{◌≡◌, ◌+◌, ◌≤◌, ◌++◌, length}
use Rattle.tables.specs.Rows.{rows, values_left}
use Rattle.aggregates.specs.CatchingUp.{cells_at}
use Rattle.aggregates.proofs.gathering.gather.Given as goal

-- with what the rows left will give they make the whole
abbrev pub invariant-loop-one : goal.invariant-loop-one
invariant-loop-one g l = record {
  is : l.cells.items ++ cells_at l.place (values_left l.one-iterator) ≡ cells_at l.place (rows l.kept);
  few : length l.cells.items + length (values_left l.one-iterator) ≤ 1024;
}
