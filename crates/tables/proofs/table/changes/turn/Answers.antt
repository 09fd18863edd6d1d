use Rattle.std.proofs.Common.{refl}
use Rattle.tables.proofs.table.changes.turn.Goals as goal

pub returns-in-Some : goal.returns-in-Some
returns-in-Some g c = rw c.in-Some.is (c.f.new.arg2, record { shown = _; shows = refl; left = _; met = c.f.ensures; leaves = refl }, refl)
