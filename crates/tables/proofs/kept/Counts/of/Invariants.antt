use Rattle.std.proofs.Common.{◌≡◌, ℕ, length, get_or}
use Rattle.tables.specs.Rows.{rows}
use Rattle.tables.proofs.Pruning.{Counting}
use Rattle.tables.proofs.kept.Counts.of.Given as goal

abbrev pub invariant-loop : goal.invariant-loop
invariant-loop g l = (length (rows l.counts) ≡ length l.yielded) × ((p : ℕ) → get_or (rows l.counts) p 0 ≡ 0)

abbrev pub invariant-loop-one : goal.invariant-loop-one
invariant-loop-one g l = Counting (length (rows l.held)) (rows l.store) (rows l.counts) (length l.yielded)
