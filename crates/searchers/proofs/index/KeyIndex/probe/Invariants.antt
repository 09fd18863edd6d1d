use Rattle.searchers.specs.Order.{keys_of}
use Rattle.searchers.specs.Table.{picked}
use Rattle.searchers.proofs.Tables.{Passed}
use Rattle.searchers.proofs.index.KeyIndex.probe.Given as goal

abbrev pub invariant-loop-step : goal.invariant-loop-step
invariant-loop-step g l =
    let index = l.self-inside in
    Passed g.K.PartialEq.eq g.K.Key.hashed (picked (keys_of index.rows.now) index.firsts) index.slots l.key l.step
