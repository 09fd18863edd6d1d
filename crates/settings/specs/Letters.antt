-- What settings over letters say.
use Rattle.std.specs.Prelude.{ℕ}
use Rattle.figures.specs.declared.letters.LetterFigure.{LetterFigure}
use Rattle.figures.specs.Sets.{figures}
use Rattle.settings.specs.declared.search.Search.{Search}
use Rattle.settings.specs.declared.checked.Settings.{Settings}
use Rattle.settings.specs.declared.check.LetterSettings.{LetterSettings}
use Rattle.settings.specs.declared.check.LetterSettings.TheVariants.{Berths, RoutesAndBerths, CallSigns}
use Rattle.settings.specs.Given.{Given}
use Rattle.settings.specs.Searches.{mode_of}

abbrev pub said_by : {K : Type 0} → ℕ → Settings K Search LetterFigure → Given
said_by kind s = record { kind = kind; mode = mode_of s.searcher; figures = figures s.set }

abbrev pub said : LetterSettings → Given
said (Berths s) = said_by 1 s
said (RoutesAndBerths s) = said_by 2 s
said (CallSigns s) = said_by 3 s
