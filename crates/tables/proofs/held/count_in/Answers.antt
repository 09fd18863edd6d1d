use Rattle.std.proofs.Common.{◌≡◌, ◌+◌, ◌^◌, ◌<◌, ◌≤◌, length, sym, ap, arith, rules}
use lib.ListN.{length-map}
use Rattle.std.proofs.lemmas.List.{length_push}
use Rattle.searchers.proofs.Places.{noticed_new}
use Rattle.tables.specs.Lists.{held_keys, place_in, one_more}
use Rattle.tables.specs.Rows.{rows}
use Rattle.tables.proofs.Holding.{value_read, value_past, counted_old, counted_new}
use Rattle.tables.proofs.Keys.{place_le}
use Rattle.tables.proofs.Lent.{get_read, got_some, got_none}
use Rattle.tables.proofs.held.count_in.Goals as goal

pub alter-requires : goal.alter-requires
alter-requires g c = (
  search rules,
  λ x e p s.
      let held = rows c.args.held.now in
      let r = get_read held c.args.at x e in
      let fits : p.now.rows + 1 < 2 ^ 32 = omega (arith, ap (λ e. e.rows) s, value_read (λ e. e.rows) 0 held c.args.at x r.0 r.1, c.requires.fits) in
      search rules,
)

pub push-requires : goal.push-requires
push-requires g c =
    let held = rows c.args.held.now in
    let keys = held_keys held in
    let past : length held ≤ c.args.at = got_none held c.args.at c.get.result c.get.ensures c.in_default.is in
    let long : length keys ≡ length held = length-map held (λ e. e.key) in
    let last : place_in g.K.PartialEq.eq c.args.key held ≡ length keys = omega (arith, c.requires.place, place_le g.K.PartialEq.eq c.args.key keys) in
    let room : length held < 64 = omega (arith, c.requires.room, ap length (noticed_new g.K.PartialEq.eq c.args.key keys last), length_push keys c.args.key) in
    (search rules, room)

pub returns-in-Some : goal.returns-in-Some
returns-in-Some g c =
    let held = rows c.args.held.now in
    let r = got_some held c.args.at c.get.result c.get.ensures c.in-Some.entry c.in-Some.is in
    record {
      rank = value_read (λ e. e.rows) 0 held c.args.at c.in-Some.entry.now r.0 r.1;
      rows = counted_old g.K.PartialEq.eq c.args.start.now c.args.key held {there = rows c.alter.new.self} c.requires.place r.0 (c.alter.ensures.function one_more (λ x y e. search rules));
    }

pub returns-in_default : goal.returns-in_default
returns-in_default g c =
    let held = rows c.args.held.now in
    let keys = held_keys held in
    let past : length held ≤ c.args.at = got_none held c.args.at c.get.result c.get.ensures c.in_default.is in
    let long : length keys ≡ length held = length-map held (λ e. e.key) in
    let last : place_in g.K.PartialEq.eq c.args.key held ≡ length held = omega (arith, c.requires.place, place_le g.K.PartialEq.eq c.args.key keys) in
    record { rank = sym (value_past (λ e. e.rows) 0 held c.args.at past); rows = counted_new g.K.PartialEq.eq c.args.start.now c.args.key held last c.push.ensures }
