use Rattle.std.proofs.Common.{length, ap, inl, arith, rules}
use Rattle.std.proofs.lemmas.Iterator.Consumers.{YieldsList-from_first}
use Rattle.std.proofs.lemmas.Iterator.Search.{position_from_yields_List}
use borrow.Author.Tests.{tests}
use Rattle.tables.specs.Rows.{rows, values_left}
use Rattle.tables.proofs.Edits.{rows_few}
use Rattle.tables.proofs.Holding.{place_found}
use Rattle.tables.proofs.held.find.Goals as goal

pub position-requires-clause-fits : goal.position-requires-clause-fits
position-requires-clause-fits g c = inl (omega (arith, ap length c.iter.ensures, rows_few c.args.held.now))

pub returns : goal.returns
returns g c =
    let held = rows c.args.held.now in
    place_found g.K.PartialEq.eq c.args.key.now held c.position.result
    (position_from_yields_List (λ e. g.K.PartialEq.eq e.key c.args.key.now) c.position.new.self _ c.position.result c.position.ensures.ran (YieldsList-from_first (λ y. y.now) values_left held c.iter.ensures) (λ x b q k. search (rules, tests)))
