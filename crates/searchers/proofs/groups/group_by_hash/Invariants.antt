use Rattle.std.proofs.Common.{◌≡◌}
use Rattle.searchers.specs.Order.{keys_of}
use Rattle.searchers.specs.Table.{picked}
use Rattle.searchers.proofs.Gathers.{Gathering}
use Rattle.searchers.proofs.groups.group_by_hash.Given as goal

abbrev pub invariant-loop-i : goal.invariant-loop-i
invariant-loop-i g l =
    let index = l.index in
    record { keys : index.keys ≡ keys_of l.rows; gathers : Gathering g.K.PartialEq.eq index.keys (picked index.keys index.firsts) l.ids index.firsts l.i }
