use Rattle.std.proofs.Common.{◌≡◌, ◌+◌, ◌≤◌, [], length, drop}
use Rattle.searchers.specs.Groups.{group_firsts}
use Rattle.searchers.specs.Order.{keys_of}
use Rattle.tables.specs.Lists.{held_keys, distinct}
use Rattle.tables.specs.Rows.{rows}
use Rattle.tables.proofs.Tallying.{tally}
use Rattle.tables.proofs.tables.Tables.keys_with.Given as goal

abbrev pub invariant-loop-first : goal.invariant-loop-first
invariant-loop-first g l =
    let same = g.K.PartialEq.eq in
    let keys = held_keys (rows l.self.held) in
    (l.count + tally same keys l.batch (drop l.first-index (group_firsts same [] 0 (keys_of l.batch))) ≡ length (distinct same keys l.batch))
    × (l.count ≤ 64 + l.first-index)
