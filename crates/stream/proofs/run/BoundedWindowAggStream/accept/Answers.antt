-- A push that is not refused meets what each step requires, and its steps make up the accepted push.
use Rattle.std.proofs.Common.{◌≡◌, ◌+◌, ◌^◌, ◌<◌, length, refl, ap, ◌∙◌, arith, rules}
use Rattle.tables.specs.Whole.{lists}
use mir.Syntax.{Ty}
use prog.Memory.{up, align, size}
use denote.Array as array
use denote.Param as param
use denote.Struct as struct'
use borrow.Rule.Slice.AtParam.{field_room}
use denote.Enum as enum
use Rattle.std.specs.contracts.option.Option as option
use Rattle.tables.specs.contracts.tables.Tables as tables
use Rattle.aggregates.specs.contracts.progress.Progress as progress
use Rattle.book.specs.Calls.{last_key, view_facts, kind_by}
use Rattle.stream.specs.contracts.run.BoundedWindowAggStream as run-type
use Rattle.stream.specs.contracts.run.BoundedWindowAggStream.accept as here
use Rattle.stream.specs.Views.{view, settings_of}
use Rattle.stream.proofs.Passes.{Passed, passed}
use Rattle.stream.proofs.Accepted.{Stepped, all_wait, counts_put, holds_accepted, writes_put, still_counted, still_few}
use Rattle.stream.proofs.run.BoundedWindowAggStream.accept.Given.{Over}
use Rattle.stream.proofs.run.BoundedWindowAggStream.accept.Goals as goal
use Rattle.stream.proofs.run.BoundedWindowAggStream.accept.Goals.{After-last_key_of-self, After-ready, After-let_leave-n}

-- how a run and the tables in it lie in memory
abbrev run_layout : Over → Ty
run_layout g = param.layout (run-type.the_row (here.K-row g.row.K g.row.S g.row.F) (here.S-row g.row.K g.row.S g.row.F) (here.F-row g.row.K g.row.S g.row.F))

abbrev tables_layout : Over → Ty
tables_layout g = struct'.Struct.layout (struct'.Declared.shape (tables.the_type (here.K-row g.row.K g.row.S g.row.F) (array.Array (enum.Declared.row (option.the_type struct'.Field.i64-field.row)) 4) progress.the_row))

-- the tables have room where the run that holds them has
tables_room : (g : Over) → size (run_layout g) < 2 ^ 63 → size (tables_layout g) < 2 ^ 63
tables_room g small = field_room (run_layout g) 0 (tables_layout g) (up (align (tables_layout g)) 0) refl small

-- there is no cause against the push
goes : (g : Over) (c : After-last_key_of-self g)
    → Passed (settings_of (kind_by g.K.PartialEq.eq g.K.Ord.cmp g.K.OrderedKey.parts) g.S.PartitionSearcher g.F.Figure c.args.self.now) (view_facts (view c.args.self.now)) c.args.batch.now (length c.args.out.now)
goes g c =
    let run = c.args.self.now in
    passed (settings_of (kind_by g.K.PartialEq.eq g.K.Ord.cmp g.K.OrderedKey.parts) g.S.PartitionSearcher g.F.Figure run) (view_facts (view run)) c.args.batch.now (length c.args.out.now) c.requires.passed

-- the rows that waited and those of the batch wait
waits : (g : Over) (c : After-ready g) → length (lists c.ready.new.tables).waiting ≡ length (lists c.args.self.now.tables).waiting + length c.args.batch.now
waits g c =
    let run = c.args.self.now in
    all_wait (settings_of (kind_by g.K.PartialEq.eq g.K.Ord.cmp g.K.OrderedKey.parts) g.S.PartitionSearcher g.F.Figure run) (view run) c.args.batch.now c.last_key_of-self.result (lists c.ready.new.tables) c.ready.ensures

-- the steps of the push
steps : (g : Over) (c : After-let_leave-n g)
    → Stepped (settings_of (kind_by g.K.PartialEq.eq g.K.Ord.cmp g.K.OrderedKey.parts) g.S.PartitionSearcher g.F.Figure c.args.self.now) (view c.args.self.now) c.args.batch.now c.last_key_of-self.result
    (lists c.ready.new.tables) (lists c.let_leave-n.new.tables) c.let_leave-n.result c.args.out.now c.let_leave-n.new.out
steps g c = record {
  last_is = c.last_key_of-self.ensures ∙ ap (last_key c.args.self.now.last) c.rows-rows.ensures.rows;
  ready_is = c.ready.ensures;
  count = c.let_leave-n.ensures.count;
  few = c.let_leave-n.ensures.few;
  left_is = c.let_leave-n.ensures.tables;
  writes = c.let_leave-n.ensures.out;
}

pub ready-requires : goal.ready-requires
ready-requires g c =
    let small : size (run_layout g) < 2 ^ 63 = search rules in
    let p = goes g (goal.at.ready-requires g c).After-last_key_of-self in
    (tables_room g small, (p.waiting, (p.kept, (p.keys, (c.args.self.now.few, p.countable)))))

pub let_leave-n-requires : goal.let_leave-n-requires
let_leave-n-requires g c =
    let small : size (run_layout g) < 2 ^ 63 = search rules in
    (tables_room g small, omega (arith, waits g (goal.at.let_leave-n-requires g c).After-ready, (goes g (goal.at.let_leave-n-requires g c).After-last_key_of-self).output))

pub overflow_cast-self : goal.overflow_cast-self
overflow_cast-self g c = omega (arith, ap length c.rows-rows.ensures.rows, c.rows-rows.ensures.short)

pub overflow_add-self : goal.overflow_add-self
overflow_add-self g c = omega (arith, ap length c.rows-rows.ensures.rows, (goes g (goal.at.overflow_add-self g c).After-last_key_of-self).countable)

pub overflow_cast-self-2 : goal.overflow_cast-self-2
overflow_cast-self-2 g c =
    let at = goal.at.overflow_cast-self-2 g c in
    omega (arith, c.let_leave-n.ensures.few, waits g at.After-ready, (goes g at.After-last_key_of-self).waiting)

-- accepted is out plus waiting, so that what leaves is counted in it
pub overflow_add-self-2 : goal.overflow_add-self-2
overflow_add-self-2 g c =
    let at = goal.at.overflow_add-self-2 g c in
    omega (arith, c.args.self.now.counted, c.let_leave-n.ensures.few, waits g at.After-ready, (goes g at.After-last_key_of-self).countable)

pub invariant_of-self : goal.invariant_of-self
invariant_of-self g c =
    let s = steps g (goal.at.invariant_of-self g c).After-let_leave-n in
    rw c.rows-rows.ensures.rows (record { counted = still_counted s c.args.self.now.counted; few = still_few s c.args.self.now.few })

pub returns : goal.returns
returns g c =
    let at = goal.at.returns g c in
    let s = steps g at.After-let_leave-n in
    rw c.rows-rows.ensures.rows (record { count = counts_put s; holds = holds_accepted s (goes g at.After-last_key_of-self).going; writes = writes_put s; stays = refl })
