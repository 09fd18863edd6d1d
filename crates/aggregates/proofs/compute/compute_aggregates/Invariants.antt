use Rattle.std.proofs.Common.{◌≡◌}
use Rattle.tables.specs.Whole.{lists}
use Rattle.aggregates.specs.Sets.{set_figures}
use Rattle.aggregates.proofs.KeyByKey.{caught_up_to}
use Rattle.aggregates.proofs.compute.compute_aggregates.Given as goal

-- the keys before the place are caught up
abbrev pub invariant-loop-place : goal.invariant-loop-place
invariant-loop-place g l = lists l.tables ≡ caught_up_to (set_figures g.F.Figure l.set) l.place (lists l.initial.tables)
