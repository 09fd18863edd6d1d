use Rattle.std.proofs.Common.{◌-◌, ◌≤◌, length}
use Rattle.figures_cases.proofs.caught.Given as goal

abbrev pub invariant-loop-came : goal.invariant-loop-came
invariant-loop-came l = (l.first ≤ l.came) × (l.came ≤ length l.rows)

abbrev pub decreases-loop-came : goal.decreases-loop-came
decreases-loop-came l = length l.rows - l.came
