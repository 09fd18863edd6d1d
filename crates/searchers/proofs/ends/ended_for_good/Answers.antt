use Rattle.searchers.proofs.Stays.{ended_for_good}
use Rattle.searchers.proofs.ends.ended_for_good.Goals as goal

pub returns : goal.returns
returns g c =
    let met = g.met.K.OrderedKey in
    ended_for_good g.K.PartialEq.eq g.K.Ord.cmp g.K.OrderedKey.parts g.met.K.Eq.laws g.met.K.Ord.total met.sorted g.met.K.Ord.matches_eq met.tied
