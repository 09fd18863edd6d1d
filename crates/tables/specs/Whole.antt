-- The three tables as their lists.
use Rattle.tables.specs.declared.tables.Tables.{Tables}
use Rattle.tables.specs.Lists.{Lists}
use Rattle.tables.specs.Rows.{rows}

abbrev pub lists : {K R P : Type 0} → Tables K R P → Lists K R P
lists t = record { held = rows t.held; waiting = rows t.waiting; kept = rows t.kept }
