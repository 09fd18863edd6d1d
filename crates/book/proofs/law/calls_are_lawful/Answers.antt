use Rattle.book.proofs.Holds.{lawful}
use Rattle.book.proofs.law.calls_are_lawful.Goals as goal

pub returns : goal.returns
returns g c mode f th =
    let met = g.met.K.OrderedKey in
    lawful
    (record { kind = record { same = g.K.PartialEq.eq; order = g.K.Ord.cmp; parts = g.K.OrderedKey.parts }; mode = mode; figures = f }) th
    (record { equality = g.met.K.Eq.laws; ranked = g.met.K.Ord.total; sorted = met.sorted; ties = g.met.K.Ord.matches_eq; tied = met.tied })
