-- Results that are written to the waiting rows of one key.
use Rattle.std.specs.Prelude.{ℕ, ◌-◌, Bool, if◌then◌else◌, List, map, ◌==◌, nat_lt, slice_index_or, slice_set, None}
use Rattle.figures.specs.declared.carry.Carry.{Carry}
use Rattle.figures.specs.declared.figure.Figure as figure
use Rattle.figures.specs.Cells.{Cell, Outcome}
use Rattle.searchers.specs.declared.rows.Waiting.{Waiting}
use Rattle.aggregates.specs.Sets.{next_result}

-- the waiting rows of the place p, each with the results that its rank and its results so far give
abbrev pub rewritten : {K R : Type 0} → ℕ → (ℕ → R → R) → Waiting K R → Waiting K R
rewritten p change w = if w.place == p then record { row = w.row; place = w.place; rank = w.rank; results = change w.rank w.results } else w

abbrev pub all_rewritten : {K R : Type 0} → ℕ → (ℕ → R → R) → List (Waiting K R) → List (Waiting K R)
all_rewritten p change waiting = map (rewritten p change) waiting

-- the result of rank i out of some, the first of which has the rank `from`, or o where it is not among them
abbrev pub result_among : List Outcome → ℕ → ℕ → Outcome → Outcome
result_among os from i o = if nat_lt i from then o else slice_index_or os (i - from) o

-- in the results of a row of rank i, that of one figure is taken from some
abbrev pub figure_taken : ℕ → List Outcome → ℕ → ℕ → List Outcome → List Outcome
figure_taken figure os from i results = slice_set results figure (result_among os from i (slice_index_or results figure None))

-- and that of one figure as its key is caught up
abbrev pub figure_renewed : {F : Type 0} → figure.Ghosts F → ℕ → ℕ → Bool → List (List Cell) → ℕ → F → Carry → ℕ → List Outcome → List Outcome
figure_renewed g old n ended cells number f k i results = slice_set results number (next_result g old n ended cells f k i (slice_index_or results number None))
