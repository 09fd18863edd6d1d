use Rattle.std.proofs.Common.{◌≡◌, ℕ, ◌<◌, ◌≤◌, cond, [], length, get_or, ap, ◌∙◌, arith}
use lib.ListN.{length-map}
use Rattle.searchers.specs.Groups.{place, group_firsts}
use Rattle.searchers.specs.Order.{keys_of}
use Rattle.tables.specs.Lists.{held_keys}
use Rattle.tables.specs.Rows.{rows}
use Rattle.tables.proofs.Holding.{not_found, there_found}
use Rattle.tables.proofs.Tallying.{among_low, among_past, tally_step, tally_end, tally_all, first_low, front_is, front_low}
use Rattle.tables.proofs.tables.Tables.keys_with.Goals as goal
use Rattle.tables.proofs.tables.Tables.keys_with.Goals.{then-is_none, else-is_none}

pub loop-first-init : goal.loop-first-init
loop-first-init g c =
    let keys = held_keys (rows c.args.self.now.held) in
    let long : length keys ≡ length (rows c.args.self.now.held) = length-map (rows c.args.self.now.held) (λ e. e.key) in
    let all = tally_all g.K.PartialEq.eq g.met.K.Eq.laws keys c.args.batch.now in
    (omega (arith, all, c.len-count.ensures.count), c.len-count.ensures.few)

pub offset_bounds-rows-from : goal.offset_bounds-rows-from
offset_bounds-rows-from g c =
    let firsts = group_firsts g.K.PartialEq.eq [] 0 (keys_of c.args.batch.now) in
    let front = front_is g.K.PartialEq.eq c.args.batch.now c.groups-groups.result.now c.groups-groups.ensures.value in
    let low : c.loop-first.first-index < length firsts = omega (arith, c.loop-first-test.true, ap length front) in
    omega (arith, ap length c.rows-rows.ensures.rows, c.from.ensures, ap (λ l. get_or l c.loop-first.first-index 0) front, first_low g.K.PartialEq.eq c.args.batch.now c.loop-first.first-index low)

pub bounds-rows-from : goal.bounds-rows-from
bounds-rows-from g c =
    let firsts = group_firsts g.K.PartialEq.eq [] 0 (keys_of c.args.batch.now) in
    let front = front_is g.K.PartialEq.eq c.args.batch.now c.groups-groups.result.now c.groups-groups.ensures.value in
    let low : c.loop-first.first-index < length firsts = omega (arith, c.loop-first-test.true, ap length front) in
    omega (arith, ap length c.rows-rows.ensures.rows, c.from.ensures, ap (λ l. get_or l c.loop-first.first-index 0) front, first_low g.K.PartialEq.eq c.args.batch.now c.loop-first.first-index low)

pub overflow_add-count : goal.overflow_add-count
overflow_add-count g c =
    omega (arith, c.loop-first.invariant.1, c.loop-first-test.true, front_low g.K.PartialEq.eq c.args.batch.now c.groups-groups.result.now c.groups-groups.ensures.value, c.rows-rows.ensures.short)

pub loop-first-preserved : goal.loop-first-preserved
loop-first-preserved g c =
    let same = g.K.PartialEq.eq in
    let held = rows c.args.self.now.held in
    let keys = held_keys held in
    let long : length keys ≡ length held = length-map held (λ e. e.key) in
    let batch = c.args.batch.now in
    let firsts = group_firsts same [] 0 (keys_of batch) in
    let i = c.loop-first.first-index in
    let front = front_is g.K.PartialEq.eq c.args.batch.now c.groups-groups.result.now c.groups-groups.ensures.value in
    let low : i < length firsts = omega (arith, c.loop-first-test.true, ap length front) in
    let first : c.from.result ≡ get_or firsts i 0 = c.from.ensures ∙ ap (λ l. get_or l i 0) front in
    let row = c.index-rows-from.result in
    let step = tally_step same keys batch firsts i row low (first_low same batch i low) (c.index-rows-from.is ∙ ap (λ l. get_or l c.from.result row) c.rows-rows.ensures.rows ∙ ap (λ p. get_or batch p row) first) in
    elim c.if-is_none.branch [
      | then-is_none w ↦
          let past : length keys ≤ place same row.key keys = omega (arith, not_found _ _ c.find.result c.find.ensures w.if-is_none.ensures, long) in
          let new = ap {B = ℕ} (λ b. cond b 0 1) (among_past same row.key keys past) in
          (omega (arith, c.loop-first.invariant.0, step, new, w.count-is), omega (arith, c.loop-first.invariant.1, w.count-is))
      | else-is_none w ↦
          let f = there_found _ _ c.find.result c.find.ensures w.if-is_none.ensures in
          let there : place same row.key keys < length keys = omega (arith, f.1.0, f.1.1, long) in
          let old = ap {B = ℕ} (λ b. cond b 0 1) (among_low same row.key keys there) in
          (omega (arith, c.loop-first.invariant.0, step, old, w.count-is), omega (arith, c.loop-first.invariant.1, w.count-is))
    ]

pub returns : goal.returns
returns g c =
    let batch = c.args.batch.now in
    let firsts = group_firsts g.K.PartialEq.eq [] 0 (keys_of batch) in
    let front = front_is g.K.PartialEq.eq c.args.batch.now c.groups-groups.result.now c.groups-groups.ensures.value in
    let past : length firsts ≤ c.loop-first.first-index = omega (arith, c.loop-first-test.false, ap length front) in
    omega (arith, c.loop-first.invariant.0, tally_end g.K.PartialEq.eq (held_keys (rows c.args.self.now.held)) batch firsts c.loop-first.first-index past)
