-- What checked settings say.
use Rattle.std.specs.Prelude.{Ok, Err, Result}
use Rattle.figures.specs.declared.set.FigureSet.{FigureSet}
use Rattle.searchers.specs.declared.modes.Mode.{Mode}
use Rattle.searchers.specs.declared.modes.Mode.TheVariants as mode
use Rattle.searchers.specs.Modes.{linear_mode}
use Rattle.faults.specs.declared.told.Told.{Told}
use Rattle.faults.specs.Numbers.{settings_told}
use Rattle.settings.specs.declared.search.Search.{Search}
use Rattle.settings.specs.declared.search.Search.TheVariants.{Sorted, Linear}
use Rattle.settings.specs.declared.checked.Settings.{Settings}
use Rattle.settings.specs.declared.checked.Unchecked.{Unchecked}

-- the mode of a searcher
abbrev pub mode_of : Search → Mode
mode_of (Sorted one) = mode.Sorted
mode_of (Linear one) = linear_mode one.kind

-- settings of a mode by its number and a set: the set is handed back where they are refused
abbrev pub said_with : {K F : Type 0} → Result (Settings K Search F) (Unchecked F) → Result (Mode × FigureSet F) (Told × FigureSet F)
said_with (Ok s) = Ok (mode_of s.searcher, s.set)
said_with (Err u) = Err (settings_told u.fault, u.set)

abbrev pub beside : {F : Type 0} → FigureSet F → Result Mode Told → Result (Mode × FigureSet F) (Told × FigureSet F)
beside set (Ok m) = Ok (m, set)
beside set (Err told) = Err (told, set)
