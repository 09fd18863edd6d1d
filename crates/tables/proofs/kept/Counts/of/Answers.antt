use Rattle.std.proofs.Common.{◌+◌, ◌^◌, ◌<◌, length, ◌∙◌, arith, rules}
use Rattle.std.proofs.lemmas.List.{length_push}
use Rattle.std.proofs.lemmas.Option.{get_or_from_slice_get}
use Rattle.tables.specs.Rows.{rows}
use Rattle.tables.proofs.Edits.{rows_few}
use Rattle.tables.proofs.Pruning.{counting_none, zeros_push, counting_more, counting_all}
use Rattle.tables.proofs.Turns.{loop_turn, loop_end}
use Rattle.tables.proofs.kept.Counts.of.Goals as goal

pub push-requires : goal.push-requires
push-requires g c =
    let t = loop_turn c.into_iter-iterator.ensures.into_iter_gives c.iter-items.ensures _ _ c.next.new.self c.loop.yielded_by c.next.ensures.steps c.in-Some.is in
    let room : length (rows c.loop.counts) < 64 = omega (arith, t.0, c.loop.invariant.0, rows_few c.args.held.now) in
    (search rules, room)

pub loop-preserved : goal.loop-preserved
loop-preserved g c = zeros_push (rows c.loop.counts) c.loop.invariant.0 c.loop.invariant.1 c.push.ensures (length_push c.loop.yielded c.in-Some.field-0)

pub loop-one-init : goal.loop-one-init
loop-one-init g c =
    let all = loop_end c.into_iter-iterator.ensures.into_iter_gives c.iter-items.ensures _ _ c.next.new.self c.loop.yielded_by c.next.ensures.steps c.in-None.is in
    counting_none (rows c.args.store.now) (c.loop.invariant.0 ∙ all) c.loop.invariant.1

pub alter-requires : goal.alter-requires
alter-requires g c =
    let counts = rows c.loop-one.counts in
    let place = c.in-Some-one.one.now.place in
    let t = loop_turn c.into_iter-one-iterator.ensures.into_iter_gives c.iter-one-items.ensures _ _ c.next-in-loop-one.new.self c.loop-one.yielded_by c.next-in-loop-one.ensures.steps c.in-Some-one.is in (
      search rules,
      λ x e p s.
          let fits : p.now + 1 < 2 ^ 16 = omega (arith, s, get_or_from_slice_get counts place x 0 e, c.loop-one.invariant.few place, t.0, rows_few c.args.store.now) in
          search rules,
    )

pub loop-one-preserved : goal.loop-one-preserved
loop-one-preserved g c =
    let t = loop_turn c.into_iter-one-iterator.ensures.into_iter_gives c.iter-one-items.ensures _ _ c.next-in-loop-one.new.self c.loop-one.yielded_by c.next-in-loop-one.ensures.steps c.in-Some-one.is in
    counting_more c.loop-one.invariant t.0 t.1 {there = rows c.alter.new.self} (c.alter.ensures.function (λ k. k + 1) (λ x y e. search rules)) (length_push c.loop-one.yielded c.in-Some-one.one)

pub returns-clause-each : goal.returns-clause-each
returns-clause-each g c =
    let all = loop_end c.into_iter-one-iterator.ensures.into_iter_gives c.iter-one-items.ensures _ _ c.next-in-loop-one.new.self c.loop-one.yielded_by c.next-in-loop-one.ensures.steps c.in-None-one.is in
    counting_all c.loop-one.invariant (omega (arith, all))
