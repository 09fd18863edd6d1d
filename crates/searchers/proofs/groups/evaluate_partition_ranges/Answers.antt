use Rattle.std.proofs.Common.{sym, ap}
use Rattle.searchers.specs.Order.{keys_of}
use Rattle.searchers.specs.Groups.{grouped, if_sorted}
use Rattle.searchers.proofs.Places.{key_within, key_read}
use Rattle.searchers.proofs.Sorts.{old_step, new_step, ends_sorting}
use Rattle.searchers.proofs.groups.evaluate_partition_ranges.Goals as goal
use Rattle.searchers.proofs.groups.evaluate_partition_ranges.Goals.{in-Equal, in-Greater}

pub returns-in-Less : goal.returns-in-Less
returns-in-Less g c =
    let same = g.K.PartialEq.eq in
    let rows = c.args.rows.now in
    let keys = keys_of rows in
    let i = c.loop-i.i in
    let r = c.index-rows-i.result in
    let low = key_within rows i c.loop-i-test.true in
    let read = key_read rows i r c.loop-i-test.true c.index-rows-i.is in
    let met = g.met.K.OrderedKey in
    ap (λ fall. if_sorted fall (grouped same keys))
    (sym (ends_sorting same g.K.Ord.cmp g.met.K.Eq.laws g.met.K.Ord.total g.met.K.Ord.matches_eq c.loop-i.invariant r.key low read (sym c.in-Less.ensures)))

pub loop-i-preserved : goal.loop-i-preserved
loop-i-preserved g c =
    let same = g.K.PartialEq.eq in
    let order = g.K.Ord.cmp in
    let equality = g.met.K.Eq.laws in
    let met = g.met.K.OrderedKey in
    let rows = c.args.rows.now in
    let i = c.loop-i.i in
    let r = c.index-rows-i.result in
    let low = key_within rows i c.loop-i-test.true in
    let read = key_read rows i r c.loop-i-test.true c.index-rows-i.is in
    elim c.match-rises.branch [
      | in-Equal w ↦ rw (c.push-in-loop-i.ensures, c.len.ensures.value, w.firsts-is) (old_step same order equality g.met.K.Ord.total g.met.K.Ord.matches_eq c.loop-i.invariant r.key low read (sym w.in-Equal.ensures))
      | in-Greater w ↦ rw (c.push-in-loop-i.ensures, c.len.ensures.value, w.firsts-is, w.push.ensures) (new_step same order equality g.met.K.Ord.total g.met.K.Ord.matches_eq c.loop-i.invariant r.key low read (sym w.in-Greater.ensures))
    ]
