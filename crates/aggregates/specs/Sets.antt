-- What a run needs of a set of figures, from the meaning of each.
use Rattle.std.specs.Prelude.{ℕ, ◌+◌, ◌-◌, Bool, false, if◌then◌else◌, List, [], ◌∷◌, ◌++◌, map, length, replicate, nat_lt, slice_index_or, None}
use Rattle.figures.specs.declared.carry.Carry.{Carry}
use Rattle.figures.specs.declared.set.FigureSet.{FigureSet}
use Rattle.figures.specs.declared.figure.Figure as figure
use Rattle.figures.specs.Carries.{fresh}
use Rattle.figures.specs.Catching.{due, is_due, stretch, carry_after}
use Rattle.figures.specs.Results.{outcome_of}
use Rattle.figures.specs.Sets.{figures, largest}
use Rattle.figures.specs.Cells.{Cell, Outcome}
use Rattle.aggregates.specs.declared.progress.Progress.{Progress}
use Rattle.aggregates.specs.Figures.{Figures}

-- one for each figure, and d in each unused place of four
abbrev pub four : {F X : Type 0} → X → (F → X) → List F → List X
four d value fs = map value fs ++ replicate (4 - length fs) d

module _ {F : Type 0} (g : figure.Ghosts F) where
  -- One figure, for a key that had `old` rows when it was last caught up and has `n` now, has ended or not, and whose last rows are kept:
  -- its carry, and its result of the rank i, where o stood so far
  module _ (old n : ℕ) (ended : Bool) (cells : List (List Cell)) where
    -- the first rank whose result was not due, and how many came due
    abbrev pub due_from : F → ℕ
    due_from f = due old false (g.ahead f)

    abbrev pub newly_due : F → ℕ
    newly_due f = due n ended (g.ahead f) - due_from f

    abbrev pub next_carry : F → Carry → Carry
    next_carry f k = carry_after g f k (n - length cells) cells (due_from f) (newly_due f)

    abbrev pub next_result : F → Carry → ℕ → Outcome → Outcome
    next_result f k i o = if nat_lt i (due_from f) then o else slice_index_or (stretch g f k (n - length cells) cells (due_from f) (newly_due f)) (i - due_from f) o

    -- figure by figure; what stands behind the figures stays
    abbrev pub next_carries : List F → List Carry → List Carry
    next_carries [] ks = ks
    next_carries (f ∷ fs) [] = []
    next_carries (f ∷ fs) (k ∷ ks) = next_carry f k ∷ next_carries fs ks

    abbrev pub next_results : List F → List Carry → ℕ → List Outcome → List Outcome
    next_results [] ks i os = os
    next_results (f ∷ fs) [] i os = os
    next_results (f ∷ fs) (k ∷ ks) i [] = []
    next_results (f ∷ fs) (k ∷ ks) i (o ∷ os) = next_result f k i o ∷ next_results fs ks i os

  -- the result of a rank where it is due
  abbrev pub if_due : Bool → List (List Cell) → ℕ → F → Outcome
  if_due ended xs i f = if is_due (length xs) ended (g.ahead f) i then outcome_of g f xs i else None

  abbrev pub set_figures : FigureSet F → Figures Progress (List Outcome)
  set_figures set = record {
    ahead = largest g.ahead (figures set);
    reach = largest (λ f. g.back f + g.ahead f) (figures set);
    start = record { rows = 0; carries = four fresh g.starts (figures set) };
    blank = replicate 4 None;
    forward = λ p n ended cells. record { rows = n; carries = next_carries p.rows n ended cells (figures set) p.carries };
    write = λ p n ended cells i os. next_results p.rows n ended cells (figures set) p.carries i os;
    result = λ xs i. four None (λ f. outcome_of g f xs i) (figures set);
    so_far = λ ended xs i. four None (if_due ended xs i) (figures set);
  }
