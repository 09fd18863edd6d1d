-- The modes, by their numbers.
use Rattle.std.specs.Prelude.{ℕ}
use Rattle.searchers.specs.declared.modes.Mode.{Mode}
use Rattle.searchers.specs.declared.modes.Mode.TheVariants as mode
use Rattle.searchers.specs.declared.modes.LinearKind.{LinearKind}
use Rattle.searchers.specs.declared.modes.LinearKind.TheVariants as kind

abbrev pub number : Mode → ℕ
number mode.Sorted = 1
number mode.PartlySorted = 2
number mode.Linear = 3

-- the mode that a linear search was made with
abbrev pub linear_mode : LinearKind → Mode
linear_mode kind.PartlySorted = mode.PartlySorted
linear_mode kind.Linear = mode.Linear
