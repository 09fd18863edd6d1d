-- A run as the lists that it holds, and what its calls promise.
use Rattle.std.specs.Prelude.{◌≡◌, ℕ, List, ◌++◌, length, drop, Some, None, Ok, Err, Option, Result}
use Rattle.std.specs.List.{AllByRecursion, All}
use Rattle.figures.specs.declared.figure.Figure as figure
use Rattle.figures.specs.declared.set.FigureSet.{FigureSet}
use Rattle.figures.specs.Cells.{CellFits, Outcome}
use Rattle.searchers.specs.declared.search.PartitionSearcher as searcher
use Rattle.searchers.specs.declared.rows.Row.{Row}
use Rattle.faults.specs.declared.run.RunFault.{RunFault}
use Rattle.faults.specs.declared.told.Told.{Told}
use Rattle.faults.specs.Numbers.{run_told, answered}
use Rattle.tables.specs.declared.rows.OutRow.{OutRow}
use Rattle.tables.specs.Whole.{lists}
use Rattle.aggregates.specs.declared.progress.Progress.{Progress}
use Rattle.aggregates.specs.Sets.{set_figures}
use Rattle.book.specs.Calls.{Kind, Settings, View, After, fresh, pushed, finished_by}
use Rattle.stream.specs.declared.run.BoundedWindowAggStream.{BoundedWindowAggStream}

-- what a run holds
abbrev pub view : {K S F : Type 0} → BoundedWindowAggStream K S F → View K (List Outcome) Progress
view r = record { tables = lists r.tables; last = r.last; accepted = r.accepted; out = r.out; finished = r.finished }

-- what a call answers: how many rows it put out, or why it was refused
abbrev pub answer : {X : Type 0} → Option Told → List X → Result ℕ Told
answer None put = Ok (length put)
answer (Some told) put = Err told

module _ {K S F : Type 0} (k : Kind K) (s : searcher.Ghosts S K) (f : figure.Ghosts F) where
  -- the meaning of a run's settings: those of its key kind, its searcher's mode and its figures
  abbrev pub settings : S → FigureSet F → Settings K (List Outcome) Progress
  settings by set = record { kind = k; mode = s.mode by; figures = set_figures f set }

  abbrev pub settings_of : BoundedWindowAggStream K S F → Settings K (List Outcome) Progress
  settings_of r = settings r.settings.searcher r.settings.set

  -- a run that was made: it has the searcher and the figures of its settings, and holds nothing
  pub record Makes (by : S) (set : FigureSet F) (r : BoundedWindowAggStream K S F) : Type 0 where
    pub searcher_is : r.settings.searcher ≡ by
    pub set_is : r.settings.set ≡ set
    pub holds : view r ≡ fresh

  -- what a call answered and left in the run and the output, against what it has to
  pub record Leaves (before : BoundedWindowAggStream K S F) (out : List (OutRow K (List Outcome))) (told : Result ℕ RunFault)
      (after : BoundedWindowAggStream K S F) (out' : List (OutRow K (List Outcome))) (a : After K (List Outcome) Progress) : Type 0 where
    pub answers : answered run_told told ≡ answer a.fault a.put
    pub holds : view after ≡ a.view
    pub searcher_stays : after.settings.searcher ≡ before.settings.searcher
    pub set_stays : after.settings.set ≡ before.settings.set
    -- the rows out in the first places, and every other place as it was
    pub writes : out' ≡ a.put ++ drop (length a.put) out
    -- a refused call leaves the run as it was
    pub refused : (cause : Told) → a.fault ≡ Some cause → after ≡ before

  pub record Pushes (before : BoundedWindowAggStream K S F) (batch : List (Row K)) (out : List (OutRow K (List Outcome))) (told : Result ℕ RunFault)
      (after : BoundedWindowAggStream K S F) (out' : List (OutRow K (List Outcome))) : Type 0 where
    pub leaves : Leaves before out told after out' (pushed (settings_of before) (view before) batch (length out))
    -- the rows' numbers have 32 bits
    pub fits : AllByRecursion (λ row. All CellFits row.cells) batch

  abbrev pub Finishes : BoundedWindowAggStream K S F → List (OutRow K (List Outcome)) → Result ℕ RunFault
      → BoundedWindowAggStream K S F → List (OutRow K (List Outcome)) → Type 0
  Finishes before out told after out' = Leaves before out told after out' (finished_by (settings_of before) (view before) (length out))
