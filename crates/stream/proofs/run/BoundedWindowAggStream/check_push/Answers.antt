-- Each way out is the first cause, since those in front of it are not there.
use Rattle.std.proofs.Common.{◌≡◌, ◌+◌, ◌^◌, ◌<◌, [], ◌∷◌, length, Some, Err, sym, refl, ap, ◌∙◌, arith, rules}
use Rattle.std.proofs.lemmas.List.{take_all}
use Rattle.std.proofs.lemmas.Result.{err_from_is_err_and}
use Rattle.searchers.specs.Groups.{grouped}
use Rattle.searchers.specs.Order.{keys_of, lower, first_fall}
use Rattle.std.specs.Bool.{then_some}
use Rattle.faults.specs.Causes.{first_of}
use Rattle.faults.specs.Numbers.{of_run}
use Rattle.tables.specs.Lists.{held_keys}
use Rattle.book.specs.Calls.{out_of_order, room_causes, push_causes, view_facts, kind_by}
use mir.Syntax.{Ty}
use prog.Memory.{up, align, size}
use denote.Array as array
use denote.Param as param
use denote.Struct as struct'
use borrow.Rule.Slice.AtParam.{field_room}
use denote.Enum as enum
use Rattle.std.specs.contracts.option.Option as option
use Rattle.tables.specs.contracts.tables.Tables as tables
use Rattle.aggregates.specs.contracts.progress.Progress as progress
use Rattle.stream.specs.contracts.run.BoundedWindowAggStream as run-type
use Rattle.stream.specs.contracts.run.BoundedWindowAggStream.check_push as here
use Rattle.stream.specs.Views.{view, settings_of}
use Rattle.faults.proofs.Causes.{first_at, past, when_above, when_not_above}
use Rattle.stream.proofs.Checks.{handed_on, gives_none}
use Rattle.stream.proofs.run.BoundedWindowAggStream.check_push.Given.{Over}
use Rattle.stream.proofs.run.BoundedWindowAggStream.check_push.Goals as goal
use Rattle.stream.proofs.run.BoundedWindowAggStream.check_push.Goals.{After-check_order}

-- the first row out of order, by the settings' mode
in_order : (g : Over) (c : After-check_order g)
    → first_fall (lower (g.S.PartitionSearcher.mode c.args.self.now.settings.searcher) g.K.Ord.cmp g.K.OrderedKey.parts) c.args.self.now.last 0 (keys_of c.args.rows.now) ≡ c.check_order.result
in_order g c =
    sym (c.check_order.ensures.value
    ∙ ap (λ s. first_fall (lower (g.S.PartitionSearcher.mode s) g.K.Ord.cmp g.K.OrderedKey.parts) c.args.self.now.last 0 (keys_of c.args.rows.now)) c.searcher-searcher.ensures)

pub returns-then-rows-gt256 : goal.returns-then-rows-gt256
returns-then-rows-gt256 g c =
    let run = c.args.self.now in
    let batch = c.args.rows.now in
    record {
      refusal = first_at 1 (push_causes (settings_of (kind_by g.K.PartialEq.eq g.K.Ord.cmp g.K.OrderedKey.parts) g.S.PartitionSearcher g.F.Figure run) (view_facts (view run)) batch c.args.places) (of_run 8 0)
          (ap (λ b. then_some b (of_run 7 0)) c.if-self.false, tt)
          (ap Some (when_above 256 (length batch) (of_run 8 0) c.if-rows-gt256.true));
      batch = tt;
    }

pub returns-in-Some : goal.returns-in-Some
returns-in-Some g c =
    let run = c.args.self.now in
    let batch = c.args.rows.now in
    let at = goal.at.returns-in-Some g c in
    record {
      refusal = first_at 2 (push_causes (settings_of (kind_by g.K.PartialEq.eq g.K.Ord.cmp g.K.OrderedKey.parts) g.S.PartitionSearcher g.F.Figure run) (view_facts (view run)) batch c.args.places) (of_run 9 c.in-Some.row)
          (ap (λ b. then_some b (of_run 7 0)) c.if-self.false, (when_not_above 256 (length batch) (of_run 8 0) c.if-rows-gt256.false, tt))
          (ap (λ o. Some (out_of_order o)) (in_order g at.After-check_order ∙ c.in-Some.is));
      batch = tt;
    }

pub returns-then-rows-self : goal.returns-then-rows-self
returns-then-rows-self g c =
    let run = c.args.self.now in
    let batch = c.args.rows.now in
    let at = goal.at.returns-then-rows-self g c in
    record {
      refusal = first_at 3 (push_causes (settings_of (kind_by g.K.PartialEq.eq g.K.Ord.cmp g.K.OrderedKey.parts) g.S.PartitionSearcher g.F.Figure run) (view_facts (view run)) batch c.args.places) (of_run 10 0) (
        ap (λ b. then_some b (of_run 7 0)) c.if-self.false,
        (when_not_above 256 (length batch) (of_run 8 0) c.if-rows-gt256.false, (ap out_of_order (in_order g at.After-check_order ∙ c.in_default.is), tt)),
      )
          (ap Some (when_above 4294967295 (run.accepted + length batch) (of_run 10 0) (omega arith)));
      batch = tt;
    }

pub of-batch-requires : goal.of-batch-requires
of-batch-requires g c = record {
  short = c.if-rows-gt256.false;
  grouped = c.evaluate_partition_batches.ensures.value ∙ ap (λ rows. grouped g.K.PartialEq.eq (keys_of rows)) (take_all 256 c.args.rows.now c.if-rows-gt256.false);
}

pub check_room-requires : goal.check_room-requires
check_room-requires g c =
    -- the tables have room where the run that holds them has
    let whole : Ty = param.layout (run-type.the_row (here.K-row g.row.K g.row.S g.row.F) (here.S-row g.row.K g.row.S g.row.F) (here.F-row g.row.K g.row.S g.row.F)) in
    let part : Ty = struct'.Struct.layout (struct'.Declared.shape (tables.the_type (here.K-row g.row.K g.row.S g.row.F) (array.Array (enum.Declared.row (option.the_type struct'.Field.i64-field.row)) 4) progress.the_row)) in
    let small : size whole < 2 ^ 63 = search rules in
    field_room whole 0 part (up (align part) 0) refl small

pub returns-in_err-check_room : goal.returns-in_err-check_room
returns-in_err-check_room g c =
    let run = c.args.self.now in
    let batch = c.args.rows.now in
    let t = (view run).tables in
    let at = goal.at.returns-in_err-check_room g c in
    let p = err_from_is_err_and c.from_residual.result c.from_residual.ensures.1 in
    let is = p.1 ∙ ap Err p.2 in
    record {
      refusal = handed_on _ c.from_residual.result c.in_err-check_room.field-0.0 is
          (past (then_some run.finished (of_run 7 0) ∷ _ ∷ _ ∷ _ ∷ []) (room_causes g.K.PartialEq.eq (length t.waiting) (length t.kept) (held_keys t.held) batch c.args.places) (
            ap (λ b. then_some b (of_run 7 0)) c.if-self.false,
            (
              when_not_above 256 (length batch) (of_run 8 0) c.if-rows-gt256.false,
              (ap out_of_order (in_order g at.After-check_order ∙ c.in_default.is), (when_not_above 4294967295 (run.accepted + length batch) (of_run 10 0) (omega arith), tt)),
            ),
          )
          ∙ ap (λ b. first_of (room_causes g.K.PartialEq.eq (length t.waiting) (length t.kept) (held_keys t.held) b c.args.places)) (sym c.of-batch.ensures)
          ∙ c.in_err-check_room.ensures);
      batch = gives_none _ c.from_residual.result c.in_err-check_room.field-0.0 is;
    }

pub returns : goal.returns
returns g c =
    let run = c.args.self.now in
    let batch = c.args.rows.now in
    let t = (view run).tables in
    let at = goal.at.returns g c in
    record {
      refusal =
          past (then_some run.finished (of_run 7 0) ∷ _ ∷ _ ∷ _ ∷ []) _ (
            ap (λ b. then_some b (of_run 7 0)) c.if-self.false,
            (
              when_not_above 256 (length batch) (of_run 8 0) c.if-rows-gt256.false,
              (ap out_of_order (in_order g at.After-check_order ∙ c.in_default.is), (when_not_above 4294967295 (run.accepted + length batch) (of_run 10 0) (omega arith), tt)),
            ),
          )
          ∙ ap (λ b. first_of (room_causes g.K.PartialEq.eq (length t.waiting) (length t.kept) (held_keys t.held) b c.args.places)) (sym c.of-batch.ensures)
          ∙ c.in_ok-check_room.ensures;
      batch = c.of-batch.ensures;
    }
