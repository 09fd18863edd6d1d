-- The result of any figure at a rank, over the list of all the rows of a key. A difference of numbers stops at 0.
use Rattle.std.specs.Prelude.{ℕ, ◌+◌, ◌-◌, List, take, drop, fold}
use Rattle.figures.specs.declared.carry.Carry.{Carry}
use Rattle.figures.specs.declared.figure.Figure as figure
use Rattle.figures.specs.Cells.{Cell, Outcome}

-- the rows of the ranks max(0, i - b) to min(n - 1, i + a), where there are n
abbrev pub frame : {X : Type 0} → ℕ → ℕ → ℕ → List X → List X
frame b a i rows = drop (i - b) (take (i + a + 1) rows)

module _ {F : Type 0} (g : figure.Ghosts F) (f : F) where
  -- the carry of rank i: what the starting carry becomes with the rows before the frame
  abbrev pub carried : List (List Cell) → ℕ → Carry
  carried rows i = fold (g.absorbs f) (g.starts f) (take (i - g.back f) rows)

  -- the value of the carry, the frame and the position, which is i less the frame's first rank
  abbrev pub outcome_of : List (List Cell) → ℕ → Outcome
  outcome_of rows i = g.yields f (carried rows i) (frame (g.back f) (g.ahead f) i rows) (i - (i - g.back f))
