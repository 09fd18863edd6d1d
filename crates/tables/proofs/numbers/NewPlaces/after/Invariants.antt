use Rattle.std.proofs.Common.{length}
use Rattle.tables.specs.Rows.{rows}
use Rattle.tables.proofs.Numbering.{Numbering}
use Rattle.tables.proofs.numbers.NewPlaces.after.Given as goal

abbrev pub invariant-loop-entry : goal.invariant-loop-entry
invariant-loop-entry g l = Numbering (rows l.held) (rows l.places) l.live (length l.yielded)
