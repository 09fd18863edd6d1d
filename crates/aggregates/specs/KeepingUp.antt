-- The theory of one key holds of every set of figures.
use Rattle.figures.specs.declared.figure.Figure as figure
use Rattle.figures.specs.declared.set.FigureSet.{FigureSet}
use Rattle.aggregates.specs.Figures.{Theory}
use Rattle.aggregates.specs.Sets.{set_figures}

abbrev pub SetsKeepUp : {F : Type 0} → figure.Ghosts F → Type 0
SetsKeepUp {F} g = (set : FigureSet F) → Theory (set_figures g set)
