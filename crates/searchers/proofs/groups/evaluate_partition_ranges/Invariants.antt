use Rattle.searchers.specs.Order.{keys_of}
use Rattle.searchers.proofs.Sorts.{Sorting}
use Rattle.searchers.proofs.groups.evaluate_partition_ranges.Given as goal

abbrev pub invariant-loop-i : goal.invariant-loop-i
invariant-loop-i g l = Sorting g.K.PartialEq.eq g.K.Ord.cmp (keys_of l.rows) l.before l.ids l.firsts l.i
