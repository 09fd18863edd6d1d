use Rattle.std.proofs.Common.{rules, tests, ◌≡◌}
use Rattle.std.proofs.lemmas.Iterator.{YieldsList-from_slice}
use Rattle.std.proofs.lemmas.Iterator.Search.{position_from_yields_List}
use Rattle.keys.specs.Found.{first_same}
use Rattle.keys.proofs.Finds.{means_first}
use Rattle.keys.proofs.search.find.Goals as goal

pub returns : goal.returns
returns g c =
    let same = g.K.PartialEq.eq in
    let place : c.position.result ≡ first_same same c.args.key.now c.args.held.now = position_from_yields_List (λ x. same x c.args.key.now) _ _ _ c.position.ensures.ran (YieldsList-from_slice c.args.held.now cc) (λ x b q k. search (rules, tests)) in
    record { place = place; first = means_first same c.args.key.now c.args.held.now _ place }
