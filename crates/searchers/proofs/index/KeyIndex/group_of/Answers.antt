use Rattle.std.proofs.Common.{◌<◌, length, get_or, arith}
use Rattle.std.proofs.lemmas.List.{length-map}
use Rattle.searchers.specs.Order.{keys_of}
use Rattle.searchers.specs.Table.{Vacant, picked}
use Rattle.searchers.proofs.Tables.{many, index_more}
use Rattle.searchers.proofs.index.KeyIndex.group_of.Goals as goal

pub invariant_of-self : goal.invariant_of-self
invariant_of-self g c =
    let k = g.K.Key in
    let index = c.self.inside in
    let rows = index.rows.now in
    let firsts = index.firsts in
    let i = c.args.i in
    let r = c.index-rows-i.result in
    let row : i < length rows = omega (arith, rw (← c.self.view_is) at c.requires.row, length-map rows (λ r. r.key)) in
    let long = many c.self.invariant (omega arith) in
    let vacant : Vacant g.K.PartialEq.eq k.hashed (picked (keys_of rows) firsts) index.slots (get_or rows i r).key c.in-Err.free = rw (← c.self.view_is) at c.in-Err.ensures in
    rw (c.push.ensures, c.len-group.ensures.value) (index_more c.self.invariant (omega arith) i c.in-Err.free r row (rw (← c.self.view_is) at c.requires.room) vacant)
