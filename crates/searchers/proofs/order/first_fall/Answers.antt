use Rattle.std.proofs.Common.{◌≡◌, Some, None, sym, ◌∙◌}
use Rattle.std.proofs.lemmas.List.{at_drop_all}
use Rattle.searchers.specs.Order.{keys_of, lower, first_fall}
use Rattle.searchers.proofs.Falls.{fall_here, no_fall_here, means_first_fall}
use Rattle.searchers.proofs.Places.{key_within, key_read, keys_past}
use Rattle.searchers.proofs.order.first_fall.Goals as goal

pub returns-then-falls : goal.returns-then-falls
returns-then-falls g c =
    let low = lower c.args.mode g.K.Ord.cmp g.K.OrderedKey.parts in
    let r = c.index-rows-i.result in
    let rows = c.args.rows.now in
    let i = c.loop-i.i in
    let value : Some i ≡ first_fall low c.args.last 0 (keys_of rows) = sym (fall_here low c.loop-i.before (keys_of rows) i r.key (key_within rows i c.loop-i-test.true) (key_read rows i r c.loop-i-test.true c.index-rows-i.is) (sym c.if-falls.ensures)) ∙ c.loop-i.invariant in
    record { value = value; first = means_first_fall low c.args.last (keys_of rows) (Some i) value }

pub loop-i-preserved : goal.loop-i-preserved
loop-i-preserved g c =
    let low = lower c.args.mode g.K.Ord.cmp g.K.OrderedKey.parts in
    let r = c.index-rows-i.result in
    let rows = c.args.rows.now in
    let i = c.loop-i.i in
    sym (no_fall_here low c.loop-i.before (keys_of rows) i r.key (key_within rows i c.loop-i-test.true) (key_read rows i r c.loop-i-test.true c.index-rows-i.is) (sym c.if-falls.ensures)) ∙ c.loop-i.invariant

pub returns : goal.returns
returns g c =
    let low = lower c.args.mode g.K.Ord.cmp g.K.OrderedKey.parts in
    let rows = c.args.rows.now in
    let i = c.loop-i.i in
    let value : None ≡ first_fall low c.args.last 0 (keys_of rows) = sym (at_drop_all (first_fall low c.loop-i.before i) (keys_of rows) i (keys_past rows i c.loop-i-test.false)) ∙ c.loop-i.invariant in
    record { value = value; first = means_first_fall low c.args.last (keys_of rows) None value }
