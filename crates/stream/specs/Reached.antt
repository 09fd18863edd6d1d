-- The runs that any list of pushes and finishes leads to from a new one, each with its book, the rows out and the latest call; and that the law holds of them.
use Rattle.std.specs.Prelude.{◌≡◌, ℕ, List, [], ◌++◌, map, length, take, Ok, Err, Result, None}
use Rattle.figures.specs.declared.figure.Figure as figure
use Rattle.figures.specs.declared.letters.LetterFigure.{LetterFigure}
use Rattle.figures.specs.declared.set.FigureSet.{FigureSet}
use Rattle.figures.specs.Lines.{line}
use Rattle.figures.specs.Rules.{meaning}
use Rattle.figures.specs.Sets.{figures}
use Rattle.figures.specs.Cells.{Outcome}
use Rattle.searchers.specs.declared.search.PartitionSearcher as searcher
use Rattle.searchers.specs.declared.rows.Row.{Row}
use Rattle.faults.specs.declared.run.RunFault.{RunFault}
use Rattle.tables.specs.declared.rows.OutRow.{OutRow}
use Rattle.aggregates.specs.Sets.{four}
use Rattle.book.specs.Calls.{Kind}
use Rattle.book.specs.Book.{Book, Ranked, unwritten, entered, closed, cells_of, in_turn}
use Rattle.book.specs.Law.{Latest, kept_rows, Law}
use Rattle.stream.specs.declared.run.BoundedWindowAggStream.{BoundedWindowAggStream}
use Rattle.stream.specs.Views.{view, settings_of, Makes, Pushes, Finishes}

-- what an accepted call does to the book; a refused one alters nothing
abbrev pub booked : {K : Type 0} → Result ℕ RunFault → Book K → Book K → Book K
booked (Ok n) b b' = b'
booked (Err fault) b b' = b

-- the rows out of a call: the first places of its output, as many as answered, none when refused
abbrev pub taken : {X : Type 0} → Result ℕ RunFault → List X → List X
taken (Ok n) out = take n out
taken (Err fault) out = []

-- the latest call, from the rows kept before it and the rows that it was given
abbrev pub latest_call : {K : Type 0} → Result ℕ RunFault → List (Row K) → List (Row K) → Latest K
latest_call (Ok n) before batch = record { put = n; before = before; came = batch }
latest_call (Err fault) before batch = record { put = 0; before = before; came = [] }

module _ {K S F : Type 0} (k : Kind K) (s : searcher.Ghosts S K) (f : figure.Ghosts F) where
  pub data Reached : BoundedWindowAggStream K S F → Book K → List (OutRow K (List Outcome)) → Latest K → Type 0 where
    made : (by : S) (set : FigureSet F) (r : BoundedWindowAggStream K S F) → Makes k s f by set r → Reached r unwritten [] (record { put = 0; before = []; came = [] })
    push : (r r' : BoundedWindowAggStream K S F) (b : Book K) (outs : List (OutRow K (List Outcome))) (latest : Latest K)
        (batch : List (Row K)) (out out' : List (OutRow K (List Outcome))) (told : Result ℕ RunFault)
        → Reached r b outs latest → Pushes k s f r batch out told r' out'
        → Reached r' (booked told b (entered b batch)) (outs ++ taken told out') (latest_call told (kept_rows (view r)) batch)
    finish : (r r' : BoundedWindowAggStream K S F) (b : Book K) (outs : List (OutRow K (List Outcome))) (latest : Latest K)
        (out out' : List (OutRow K (List Outcome))) (told : Result ℕ RunFault)
        → Reached r b outs latest → Finishes k s f r out told r' out'
        → Reached r' (booked told b (closed b)) (outs ++ taken told out') (latest_call told (kept_rows (view r)) [])

  -- the law holds of every run that is reached
  abbrev pub RunsLawful : Type 0
  RunsLawful = (r : BoundedWindowAggStream K S F) (b : Book K) (outs : List (OutRow K (List Outcome))) (latest : Latest K)
      → Reached r b outs latest → Law (settings_of k s f r) (view r) b outs latest

module _ {K S : Type 0} (k : Kind K) (s : searcher.Ghosts S K) where
  -- a row with each letter's line, over all the rows of its key
  abbrev pub lined : List LetterFigure → Book K → Ranked K → OutRow K (List Outcome)
  lined fs b t = record {
    row = t.row;
    results = four None (λ f. line f.letter f.column f.before f.after (cells_of k.same t.row.key b.rows) t.rank) fs;
  }

  -- the results of the rows out are the letters' lines
  abbrev pub LinesOut : Type 0
  LinesOut = (r : BoundedWindowAggStream K S LetterFigure) (b : Book K) (outs : List (OutRow K (List Outcome))) (latest : Latest K)
      → Reached k s meaning r b outs latest
      → outs ≡ map (lined (figures r.settings.set) b) (take (length outs) (in_turn (settings_of k s meaning r) b))
