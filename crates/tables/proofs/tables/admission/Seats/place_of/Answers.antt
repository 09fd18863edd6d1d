use Rattle.std.proofs.Common.{◌≡◌, ◌≤◌, length, sym, ap, ◌∙◌, ◌++◌, [], ◌∷◌}
use Rattle.tables.specs.Lists.{place_in}
use Rattle.tables.specs.Rows.{rows}
use Rattle.tables.proofs.Admitting.{seated_old, seated_new}
use Rattle.tables.proofs.Holding.{value_read, value_past, found_or}
use Rattle.tables.proofs.Lent.{got_some, got_none}
use Rattle.tables.proofs.tables.admission.Seats.place_of.Goals as goal

pub returns-in-Some : goal.returns-in-Some
returns-in-Some g c =
    let places = rows c.args.self.now.places in
    let at = place_in g.K.PartialEq.eq c.args.key.now (rows c.args.held.now) in
    let r = got_some places c.args.group c.get.result c.get.ensures c.in-Some.place c.in-Some.is in
    record { place = value_read (λ p. p) at places c.args.group c.in-Some.place.now r.0 r.1; places = sym (seated_old c.args.group at places r.0) }

pub returns : goal.returns
returns g c =
    let places = rows c.args.self.now.places in
    let at = place_in g.K.PartialEq.eq c.args.key.now (rows c.args.held.now) in
    let past : length places ≤ c.args.group = got_none places c.args.group c.get.result c.get.ensures c.in_default.is in
    let is : c.unwrap_or-place.result ≡ at = c.unwrap_or-place.ensures ∙ found_or _ _ c.find.result c.len.result at c.find.ensures c.len.ensures.count in
    record {
      place = is ∙ sym (value_past (λ p. p) at places c.args.group past);
      places = c.push.ensures ∙ ap (λ p. places ++ p ∷ []) is ∙ sym (seated_new c.args.group at places past);
    }
