use Rattle.std.proofs.Common.{◌<◌, length, refl, arith, rules}
use borrow.Author.Rules.{scaled_Fits}
use Rattle.std.proofs.lemmas.List.{length_push}
use Rattle.tables.specs.Lists.{out_row}
use Rattle.tables.specs.Rows.{rows}
use Rattle.tables.proofs.Over.{copy_turn, copy_end}
use Rattle.tables.proofs.Turns.{place_turn, place_end}
use Rattle.tables.proofs.tables.Tables.put_out.Goals as goal

pub offset_bounds-out-i : goal.offset_bounds-out-i
offset_bounds-out-i g c =
    let t = place_turn c.requires.waiting c.into_iter-i-iterator.ensures.into_iter_gives c.enumerate-i-items.ensures.source c.enumerate-i-items.ensures.count c.take.ensures.source c.take.ensures.count c.iter.ensures _ _ c.next.new.self c.loop-i.yielded_by c.next.ensures.steps c.in-Some.is in
    let low : c.in-Some.i < length c.loop-i.out = omega (arith, t.0, t.1, c.requires.room, c.loop-i.auto.out) in
    scaled_Fits c.in-Some.i (length c.loop-i.out) _ low (search rules)

pub bounds-out-i : goal.bounds-out-i
bounds-out-i g c =
    let t = place_turn c.requires.waiting c.into_iter-i-iterator.ensures.into_iter_gives c.enumerate-i-items.ensures.source c.enumerate-i-items.ensures.count c.take.ensures.source c.take.ensures.count c.iter.ensures _ _ c.next.new.self c.loop-i.yielded_by c.next.ensures.steps c.in-Some.is in
    omega (arith, t.0, t.1, c.requires.room, c.loop-i.auto.out)

pub loop-i-preserved : goal.loop-i-preserved
loop-i-preserved g c =
    let t = place_turn c.requires.waiting c.into_iter-i-iterator.ensures.into_iter_gives c.enumerate-i-items.ensures.source c.enumerate-i-items.ensures.count c.take.ensures.source c.take.ensures.count c.iter.ensures _ _ c.next.new.self c.loop-i.yielded_by c.next.ensures.steps c.in-Some.is in
    copy_turn out_row (rows c.args.self.now.waiting) c.args.out.now c.loop-i.invariant t.0 (omega (arith, t.1, c.requires.waiting)) (omega (arith, t.1, c.requires.room)) t.2 refl (length_push c.loop-i.yielded (c.in-Some.i, c.in-Some.one))

pub returns : goal.returns
returns g c =
    let all = place_end c.requires.waiting c.into_iter-i-iterator.ensures.into_iter_gives c.enumerate-i-items.ensures.source c.enumerate-i-items.ensures.count c.take.ensures.source c.take.ensures.count c.iter.ensures _ _ c.next.new.self c.loop-i.yielded_by c.next.ensures.steps c.in-None.is in
    copy_end out_row (rows c.args.self.now.waiting) c.args.out.now c.loop-i.invariant all
