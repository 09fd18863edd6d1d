use Rattle.std.proofs.Common.{arith}
use Rattle.tables.proofs.Tallying.{count_low}
use Rattle.tables.proofs.batch.Batch.groups.Goals as goal

pub returns : goal.returns
returns g c =
    let b = c.self.inside in
    let i = c.self.invariant in
    rw (← c.self.view_is)
    (record { value = i.grouped; few = omega (arith, count_low g.K.PartialEq.eq b.rows.now b.groups i.grouped, i.short) })
