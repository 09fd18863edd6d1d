use Rattle.std.proofs.Common.{refl, rules, of_calls}
use Rattle.std.proofs.lemmas.Fn.{always_returns_same}
use Rattle.searchers.specs.Ends.{ended_at, marked}
use Rattle.tables.proofs.Admitting.{lists_are}
use Rattle.tables.proofs.tables.Tables.mark_partition_end.Goals as goal

pub for_each_mut-requires : goal.for_each_mut-requires
for_each_mut-requires g c = (search rules, search (rules, of_calls))

pub returns : goal.returns
returns g c =
    let ended = ended_at (g.S.PartitionSearcher.mode c.args.searcher.now) g.K.PartialEq.eq g.K.OrderedKey.parts c.args.last.now in
    lists_are (c.for_each_mut.ensures.function (marked ended) (always_returns_same _ _ _ (λ a r q k. search rules))) refl refl
