use Rattle.std.proofs.Common.{length}
use Rattle.tables.specs.Rows.{rows}
use Rattle.tables.specs.Whole.{lists}
use Rattle.tables.proofs.Admitting.{Admitting, batch_ids}
use Rattle.tables.proofs.tables.Tables.admit.Given as goal

abbrev pub invariant-loop-row : goal.invariant-loop-row
invariant-loop-row g l = Admitting g.K.PartialEq.eq l.start l.blank l.accepted (lists l.initial.self) (lists l.self) l.batch (batch_ids g.K.PartialEq.eq l.batch) (rows l.seats.places) (length l.yielded)
