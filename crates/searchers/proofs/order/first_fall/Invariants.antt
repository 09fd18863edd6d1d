use Rattle.std.proofs.Common.{◌≡◌, drop}
use Rattle.searchers.specs.Order.{keys_of, lower, first_fall}
use Rattle.searchers.proofs.order.first_fall.Given as goal

-- the check of the rows that are left gives the answer
abbrev pub invariant-loop-i : goal.invariant-loop-i
invariant-loop-i g l =
    let low = lower l.mode g.K.Ord.cmp g.K.OrderedKey.parts in
    first_fall low l.before l.i (drop l.i (keys_of l.rows)) ≡ first_fall low l.initial.before 0 (keys_of l.rows)
