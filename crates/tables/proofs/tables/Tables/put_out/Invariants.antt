use Rattle.std.proofs.Common.{◌≡◌, ◌++◌, map, take, drop, length}
use Rattle.tables.specs.Lists.{out_row}
use Rattle.tables.specs.Rows.{rows}
use Rattle.tables.proofs.tables.Tables.put_out.Given as goal

abbrev pub invariant-loop-i : goal.invariant-loop-i
invariant-loop-i g l = l.out ≡ map out_row (take (length l.yielded) (rows l.self.waiting)) ++ drop (length l.yielded) l.initial.out
