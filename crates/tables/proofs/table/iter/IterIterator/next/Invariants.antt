use Rattle.std.proofs.Common.{◌≡◌, length}
use Rattle.tables.specs.Rows.{values_left}
use Rattle.tables.proofs.table.iter.IterIterator.next.Given as goal

abbrev pub invariant-loop-place : goal.invariant-loop-place
invariant-loop-place g l = values_left l.self ≡ values_left l.initial.self

abbrev pub decreases-loop-place : goal.decreases-loop-place
decreases-loop-place g l = length l.self.left.now
