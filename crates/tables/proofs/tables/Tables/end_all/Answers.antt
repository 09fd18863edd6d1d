use Rattle.std.proofs.Common.{true, refl, rules, of_calls}
use Rattle.std.proofs.lemmas.Fn.{always_returns_same}
use Rattle.searchers.specs.Ends.{marked}
use Rattle.tables.proofs.Admitting.{lists_are}
use Rattle.tables.proofs.tables.Tables.end_all.Goals as goal

pub for_each_mut-requires : goal.for_each_mut-requires
for_each_mut-requires g c = (search rules, search (rules, of_calls))

pub returns : goal.returns
returns g c = lists_are (c.for_each_mut.ensures.function (marked (λ _. true)) (always_returns_same _ _ _ (λ a r q k. search rules))) refl refl
