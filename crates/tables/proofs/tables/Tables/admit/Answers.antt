use Rattle.std.proofs.Common.{◌≡◌, ◌-◌, ◌^◌, ◌<◌, [], length, replicate, sym, refl, ap, ◌∙◌, subst, arith, rules}
use Rattle.std.specs.Iterator.Adapters.{zip_first, zip_second}
use Rattle.std.specs.Slice.Iter.{iter_rest}
use Rattle.std.proofs.lemmas.List.{length_push}
use Rattle.std.proofs.lemmas.Slice.Zip.{zip_turn, zip_end}
use Rattle.searchers.specs.Groups.{group_ids}
use Rattle.searchers.specs.Order.{keys_of}
use Rattle.tables.specs.Rows.{rows}
use Rattle.tables.specs.Whole.{lists}
use Rattle.tables.proofs.Admitting.{Admitting, batch_ids, admitting_none, admitting_more, admitting_all, ids_enough, here, room, rank_fits}
use Rattle.tables.proofs.Holding.{rows_within}
use prog.Memory.{size}
use denote.Param as param
use Rattle.tables.specs.contracts.tables.Tables as tables
use Rattle.tables.specs.contracts.tables.Tables.admit as call
use Rattle.tables.proofs.tables.Tables.admit.Given.{Over}
use Rattle.tables.proofs.tables.Tables.admit.Goals as goal
use Rattle.tables.proofs.tables.Tables.admit.Goals.{Start}

-- the tables have room in memory
tables_small : (g : Over) → Start g → size (param.layout (tables.the_row (call.K-row g.row.K g.row.R g.row.P) (call.R-row g.row.K g.row.R g.row.P) (call.P-row g.row.K g.row.R g.row.P))) < 2 ^ 63
tables_small g c = search rules

pub loop-row-init : goal.loop-row-init
loop-row-init g c =
    let t = lists c.args.self.now in
    subst (λ places. Admitting g.K.PartialEq.eq c.args.start.now c.args.blank.now c.args.accepted t t c.args.batch.now (batch_ids g.K.PartialEq.eq c.args.batch.now) places 0) (sym c.new.ensures)
    (admitting_none g.K.PartialEq.eq c.args.start.now c.args.blank.now c.args.accepted t c.args.batch.now (batch_ids g.K.PartialEq.eq c.args.batch.now)
    (replicate (256 - length (group_ids g.K.PartialEq.eq [] (keys_of c.args.batch.now))) 256) refl (rows_within c.args.accepted t.held c.requires.counts))

pub place_of-at-requires : goal.place_of-at-requires
place_of-at-requires g c =
    let q = c.loop-row.invariant in
    let s = c.into_iter-row-iterator.ensures.into_iter_gives in
    let second : iter_rest (zip_second c.zip-row-items.result) ≡ batch_ids g.K.PartialEq.eq c.args.batch.now = c.zip-row-items.ensures.second.0 ∙ ap (λ groups. groups.ids) c.groups-groups.ensures.value in
    let t = zip_turn c.args.batch.now (batch_ids g.K.PartialEq.eq c.args.batch.now) c.loop-row.yielded c.into_iter-row-iterator.result _ c.next.new.self c.next.result (ap (λ z. iter_rest (zip_first z)) s ∙ ap iter_rest c.zip-row-items.ensures.first ∙ c.iter.ensures.rest ∙ c.rows-rows.ensures.rows) (ap (λ z. iter_rest (zip_second z)) s ∙ second) c.loop-row.yielded_by (c.in-Some.row, c.in-Some.group) c.in-Some.is c.next.ensures.steps in
    let free : length (rows c.loop-row.seats.places) < 256 = omega (arith, q.few, t.0, c.rows-rows.ensures.short) in
    (search rules, free)

pub admit_at-requires : goal.admit_at-requires
admit_at-requires g c =
    let q = c.loop-row.invariant in
    let u = lists c.loop-row.self in
    let s = c.into_iter-row-iterator.ensures.into_iter_gives in
    let second : iter_rest (zip_second c.zip-row-items.result) ≡ batch_ids g.K.PartialEq.eq c.args.batch.now = c.zip-row-items.ensures.second.0 ∙ ap (λ groups. groups.ids) c.groups-groups.ensures.value in
    let t = zip_turn c.args.batch.now (batch_ids g.K.PartialEq.eq c.args.batch.now) c.loop-row.yielded c.into_iter-row-iterator.result _ c.next.new.self c.next.result (ap (λ z. iter_rest (zip_first z)) s ∙ ap iter_rest c.zip-row-items.ensures.first ∙ c.iter.ensures.rest ∙ c.rows-rows.ensures.rows) (ap (λ z. iter_rest (zip_second z)) s ∙ second) c.loop-row.yielded_by (c.in-Some.row, c.in-Some.group) c.in-Some.is c.next.ensures.steps in
    let r = c.in-Some.row.now in
    let h = t.0 in
    let is = t.2 r in
    let waits : length u.waiting < 512 = omega (arith, q.waits, c.requires.waiting, h) in
    let keeps : length u.kept < 1024 = omega (arith, q.keeps, c.requires.kept, h) in
    let place = c.place_of-at.ensures.place ∙ here g.K.PartialEq.eq g.met.K.Eq.laws c.args.start.now c.args.blank.now c.args.accepted (lists c.args.self.now) (lists c.loop-row.self) c.args.batch.now (batch_ids g.K.PartialEq.eq c.args.batch.now) (rows c.loop-row.seats.places) (length c.loop-row.yielded) q r h is c.from.result (c.from.ensures ∙ t.3 0) in
    (tables_small g (goal.at.admit_at-requires g c).Start, (waits, (keeps, (place, (room g.K.PartialEq.eq g.met.K.Eq.laws c.args.start.now c.args.blank.now c.args.accepted (lists c.args.self.now) (lists c.loop-row.self) c.args.batch.now (batch_ids g.K.PartialEq.eq c.args.batch.now) (rows c.loop-row.seats.places) (length c.loop-row.yielded) q r h is c.requires.held, rank_fits g.K.PartialEq.eq g.met.K.Eq.laws c.args.start.now c.args.blank.now c.args.accepted (lists c.args.self.now) (lists c.loop-row.self) c.args.batch.now (batch_ids g.K.PartialEq.eq c.args.batch.now) (rows c.loop-row.seats.places) (length c.loop-row.yielded) q r h is c.requires.fits _)))))

pub loop-row-preserved : goal.loop-row-preserved
loop-row-preserved g c =
    let q = c.loop-row.invariant in
    let s = c.into_iter-row-iterator.ensures.into_iter_gives in
    let second : iter_rest (zip_second c.zip-row-items.result) ≡ batch_ids g.K.PartialEq.eq c.args.batch.now = c.zip-row-items.ensures.second.0 ∙ ap (λ groups. groups.ids) c.groups-groups.ensures.value in
    let t = zip_turn c.args.batch.now (batch_ids g.K.PartialEq.eq c.args.batch.now) c.loop-row.yielded c.into_iter-row-iterator.result _ c.next.new.self c.next.result (ap (λ z. iter_rest (zip_first z)) s ∙ ap iter_rest c.zip-row-items.ensures.first ∙ c.iter.ensures.rest ∙ c.rows-rows.ensures.rows) (ap (λ z. iter_rest (zip_second z)) s ∙ second) c.loop-row.yielded_by (c.in-Some.row, c.in-Some.group) c.in-Some.is c.next.ensures.steps in
    subst (Admitting g.K.PartialEq.eq c.args.start.now c.args.blank.now c.args.accepted (lists c.args.self.now) (lists c.admit_at.new.self) c.args.batch.now (batch_ids g.K.PartialEq.eq c.args.batch.now) (rows c.place_of-at.new.self.places)) (sym (length_push c.loop-row.yielded (c.in-Some.row, c.in-Some.group)))
    (admitting_more g.K.PartialEq.eq g.met.K.Eq.laws c.args.start.now c.args.blank.now c.args.accepted (lists c.args.self.now) (lists c.loop-row.self) c.args.batch.now (batch_ids g.K.PartialEq.eq c.args.batch.now) (rows c.loop-row.seats.places) (length c.loop-row.yielded) q c.in-Some.row.now t.0 (t.2 c.in-Some.row.now) c.from.result (c.from.ensures ∙ t.3 0) (rows c.place_of-at.new.self.places) c.place_of-at.ensures.places (lists c.admit_at.new.self) c.admit_at.ensures)

pub returns : goal.returns
returns g c =
    let q = c.loop-row.invariant in
    let s = c.into_iter-row-iterator.ensures.into_iter_gives in
    let second : iter_rest (zip_second c.zip-row-items.result) ≡ batch_ids g.K.PartialEq.eq c.args.batch.now = c.zip-row-items.ensures.second.0 ∙ ap (λ groups. groups.ids) c.groups-groups.ensures.value in
    let all = zip_end c.args.batch.now (batch_ids g.K.PartialEq.eq c.args.batch.now) c.loop-row.yielded c.into_iter-row-iterator.result _ c.next.new.self c.next.result (ap (λ z. iter_rest (zip_first z)) s ∙ ap iter_rest c.zip-row-items.ensures.first ∙ c.iter.ensures.rest ∙ c.rows-rows.ensures.rows) (ap (λ z. iter_rest (zip_second z)) s ∙ second) c.loop-row.yielded_by c.in-None.is c.next.ensures.steps in
    let enough = ids_enough g.K.PartialEq.eq c.args.batch.now (batch_ids g.K.PartialEq.eq c.args.batch.now) _ refl in
    admitting_all g.K.PartialEq.eq g.met.K.Eq.laws c.args.start.now c.args.blank.now c.args.accepted (lists c.args.self.now) (lists c.loop-row.self) c.args.batch.now (batch_ids g.K.PartialEq.eq c.args.batch.now) (rows c.loop-row.seats.places) (length c.loop-row.yielded) q (omega (arith, all, enough))
