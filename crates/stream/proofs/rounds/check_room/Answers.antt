-- Each way out is the first cause, since those in front of it are not there.
use Rattle.std.proofs.Common.{◌+◌, length, Some, ap, arith}
use Rattle.faults.specs.Numbers.{of_run}
use Rattle.tables.specs.Lists.{held_keys, distinct}
use Rattle.tables.specs.Whole.{lists}
use Rattle.book.specs.Calls.{room_causes}
use Rattle.faults.proofs.Causes.{first_at, none_first, when_above, when_not_above}
use Rattle.stream.proofs.rounds.check_room.Goals as goal

pub returns-then-waiting-gt512 : goal.returns-then-waiting-gt512
returns-then-waiting-gt512 g c =
    let t = lists c.args.tables.now in
    let batch = c.args.batch.now in
    first_at 0 (room_causes g.K.PartialEq.eq (length t.waiting) (length t.kept) (held_keys t.held) batch c.args.places) (of_run 11 0)
    tt (ap Some (when_above 512 (length t.waiting + length batch) (of_run 11 0) (omega (arith, ap length c.rows-rows.ensures.rows))))

pub returns-then-len-rows-gt1024 : goal.returns-then-len-rows-gt1024
returns-then-len-rows-gt1024 g c =
    let t = lists c.args.tables.now in
    let batch = c.args.batch.now in
    first_at 1 (room_causes g.K.PartialEq.eq (length t.waiting) (length t.kept) (held_keys t.held) batch c.args.places) (of_run 12 0)
    (when_not_above 512 (length t.waiting + length batch) (of_run 11 0) (omega (arith, ap length c.rows-rows.ensures.rows)), tt)
    (ap Some (when_above 1024 (length t.kept + length batch) (of_run 12 0) (omega (arith, ap length c.rows-rows.ensures.rows))))

pub returns-then-keys_with-gt64 : goal.returns-then-keys_with-gt64
returns-then-keys_with-gt64 g c =
    let t = lists c.args.tables.now in
    let batch = c.args.batch.now in
    first_at 2 (room_causes g.K.PartialEq.eq (length t.waiting) (length t.kept) (held_keys t.held) batch c.args.places) (of_run 13 0)
    (when_not_above 512 (length t.waiting + length batch) (of_run 11 0) (omega (arith, ap length c.rows-rows.ensures.rows)), (when_not_above 1024 (length t.kept + length batch) (of_run 12 0) (omega (arith, ap length c.rows-rows.ensures.rows)), tt))
    (ap Some (when_above 64 (length (distinct g.K.PartialEq.eq (held_keys t.held) batch)) (of_run 13 0) (omega (arith, ap length c.rows-rows.ensures.rows))))

pub returns-then-places-waiting : goal.returns-then-places-waiting
returns-then-places-waiting g c =
    let t = lists c.args.tables.now in
    let batch = c.args.batch.now in
    first_at 3 (room_causes g.K.PartialEq.eq (length t.waiting) (length t.kept) (held_keys t.held) batch c.args.places) (of_run 14 0) (
      when_not_above 512 (length t.waiting + length batch) (of_run 11 0) (omega (arith, ap length c.rows-rows.ensures.rows)),
      (
        when_not_above 1024 (length t.kept + length batch) (of_run 12 0) (omega (arith, ap length c.rows-rows.ensures.rows)),
        (when_not_above 64 (length (distinct g.K.PartialEq.eq (held_keys t.held) batch)) (of_run 13 0) (omega (arith, ap length c.rows-rows.ensures.rows)), tt),
      ),
    )
    (ap Some (when_above c.args.places (length t.waiting + length batch) (of_run 14 0) (omega (arith, ap length c.rows-rows.ensures.rows))))

pub returns : goal.returns
returns g c =
    let t = lists c.args.tables.now in
    let batch = c.args.batch.now in
    none_first (room_causes g.K.PartialEq.eq (length t.waiting) (length t.kept) (held_keys t.held) batch c.args.places) (
      when_not_above 512 (length t.waiting + length batch) (of_run 11 0) (omega (arith, ap length c.rows-rows.ensures.rows)),
      (
        when_not_above 1024 (length t.kept + length batch) (of_run 12 0) (omega (arith, ap length c.rows-rows.ensures.rows)),
        (
          when_not_above 64 (length (distinct g.K.PartialEq.eq (held_keys t.held) batch)) (of_run 13 0) (omega (arith, ap length c.rows-rows.ensures.rows)),
          (when_not_above c.args.places (length t.waiting + length batch) (of_run 14 0) (omega (arith, ap length c.rows-rows.ensures.rows)), tt),
        ),
      ),
    )
