-- The kinds of keys by their numbers.
use Rattle.std.specs.Prelude.{ℕ}
use Rattle.settings.specs.declared.check.KeyKind.{KeyKind}
use Rattle.settings.specs.declared.check.KeyKind.TheVariants.{Berths, RoutesAndBerths, CallSigns}

abbrev pub kind_number : KeyKind → ℕ
kind_number Berths = 1
kind_number RoutesAndBerths = 2
kind_number CallSigns = 3
