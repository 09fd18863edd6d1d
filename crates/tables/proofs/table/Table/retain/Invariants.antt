use Rattle.std.specs.Fn.{CalledAtMut}
use Rattle.tables.specs.Rows.{rows}
use Rattle.tables.proofs.Lent.{Retaining}
use Rattle.tables.proofs.table.Table.retain.Given as goal

abbrev pub invariant-loop-i : goal.invariant-loop-i
invariant-loop-i g l =
    goal.F-IsAlwaysCallable g l.f
    × Retaining (CalledAtMut g.F.FnMut) l.initial.f (rows l.initial.self) l.f (rows l.self) l.kept l.i
