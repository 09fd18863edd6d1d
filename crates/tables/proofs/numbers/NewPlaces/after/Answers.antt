use Rattle.std.proofs.Common.{◌<◌, length, arith, rules}
use Rattle.std.proofs.lemmas.List.{length_push}
use Rattle.tables.specs.Rows.{rows}
use Rattle.tables.proofs.Edits.{rows_few}
use Rattle.tables.proofs.Numbering.{numbering_none, numbering_live, numbering_ended, numbering_all}
use Rattle.tables.proofs.Turns.{loop_turn, loop_end}
use Rattle.tables.proofs.numbers.NewPlaces.after.Goals as goal

pub loop-entry-init : goal.loop-entry-init
loop-entry-init g c = numbering_none (rows c.args.held.now) c.new-places.ensures

pub push-requires : goal.push-requires
push-requires g c =
    let t = loop_turn c.into_iter-entry-iterator.ensures.into_iter_gives c.iter-entry-items.ensures _ _ c.next.new.self c.loop-entry.yielded_by c.next.ensures.steps c.in-Some.is in
    let room : length (rows c.loop-entry.places) < 64 = omega (arith, t.0, c.loop-entry.invariant.long, rows_few c.args.held.now) in
    (search rules, room)

pub overflow_add-live : goal.overflow_add-live
overflow_add-live g c =
    let t = loop_turn c.into_iter-entry-iterator.ensures.into_iter_gives c.iter-entry-items.ensures _ _ c.next.new.self c.loop-entry.yielded_by c.next.ensures.steps c.in-Some.is in
    omega (arith, t.0, c.loop-entry.invariant.few, rows_few c.args.held.now)

pub loop-entry-preserved-then-not-entry : goal.loop-entry-preserved-then-not-entry
loop-entry-preserved-then-not-entry g c =
    let t = loop_turn c.into_iter-entry-iterator.ensures.into_iter_gives c.iter-entry-items.ensures _ _ c.next.new.self c.loop-entry.yielded_by c.next.ensures.steps c.in-Some.is in
    numbering_live c.loop-entry.invariant t.0 t.1 c.if-not-entry.true c.push.ensures (length_push c.loop-entry.yielded c.in-Some.entry)

pub loop-entry-preserved : goal.loop-entry-preserved
loop-entry-preserved g c =
    let t = loop_turn c.into_iter-entry-iterator.ensures.into_iter_gives c.iter-entry-items.ensures _ _ c.next.new.self c.loop-entry.yielded_by c.next.ensures.steps c.in-Some.is in
    numbering_ended c.loop-entry.invariant t.0 t.1 c.if-not-entry.false c.push.ensures (length_push c.loop-entry.yielded c.in-Some.entry)

pub returns : goal.returns
returns g c =
    let all = loop_end c.into_iter-entry-iterator.ensures.into_iter_gives c.iter-entry-items.ensures _ _ c.next.new.self c.loop-entry.yielded_by c.next.ensures.steps c.in-None.is in
    numbering_all (record { places = c.loop-entry.places; live = c.loop-entry.live }) c.loop-entry.invariant all
