-- The lowest or the highest of some numbers.
use Rattle.std.specs.Prelude.{List, ℤ, Some, None}
use Rattle.std.specs.Int.{int_min, int_max}
use Rattle.std.specs.List.{reduce}
use Rattle.figures.specs.declared.extremes.Extreme.{Extreme}
use Rattle.figures.specs.declared.extremes.Extreme.TheVariants.{Least, Greatest}
use Rattle.figures.specs.Cells.{Cell, Outcome}

-- the one of two numbers that lies further to that side
abbrev pub further : Extreme → ℤ → ℤ → ℤ
further Least x y = int_min x y
further Greatest x y = int_max x y

-- the extreme so far, with one cell more
abbrev pub extended : Extreme → Outcome → Cell → Outcome
extended e best None = best
extended e None (Some x) = Some x
extended e (Some m) (Some x) = Some (further e m x)

-- missing of no number
abbrev pub extreme_of : Extreme → List ℤ → Outcome
extreme_of e ns = reduce (further e) ns
