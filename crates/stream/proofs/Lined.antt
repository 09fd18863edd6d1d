-- The rows out of a run over letters have each letter's line: the premises of that theorem hold of every run that is reached.
use Rattle.std.proofs.Common.{◌≡◌, suc, ◌+◌, ◌-◌, ◌^◌, ◌<◌, ◌≤◌, Bool, cond, not, List, [], ◌∷◌, ◌++◌, length, take, replicate, Some, None, Ok, Err, Option, refl, ap, ◌∙◌, subst, arith}
use Rattle.std.specs.List.{AllByRecursion, All}
use Rattle.std.proofs.lemmas.List.Elements.{filter-append}
use Rattle.std.proofs.ByRecursion.{All-append, All-map, all_kept_by, All-take, All-weaker, every_from_all}
use Rattle.std.proofs.lemmas.List.{append_assoc, length-append, length-map}
use Rattle.std.proofs.lemmas.List.Filters.{length-filter_both}
use Rattle.std.specs.Cmp.{IsEquivalence}
use Rattle.figures.specs.declared.figure.Figure as figure
use Rattle.figures.specs.declared.letters.LetterFigure.{LetterFigure}
use Rattle.figures.specs.Cells.{CellFits, RowsFit, Outcome}
use Rattle.figures.specs.Lines.{line, LettersMean}
use Rattle.figures.specs.Results.{outcome_of}
use Rattle.figures.specs.Rules.{meaning}
use Rattle.figures.specs.Sets.{figures}
use Rattle.searchers.specs.declared.search.PartitionSearcher as searcher
use Rattle.searchers.specs.declared.rows.Row.{Row}
use Rattle.faults.specs.declared.told.Told.{Told}
use Rattle.tables.specs.declared.rows.OutRow.{OutRow}
use Rattle.aggregates.specs.declared.progress.Progress.{Progress}
use Rattle.book.specs.Calls.{Kind, Settings, View, push_refusal, finish_refusal, view_facts, accepted_push, accepted_finish, unless}
use Rattle.book.specs.Book.{Book, Ranked, rows_of, cells_of, ranked, in_turn, afresh, entered, closed}
use Rattle.book.specs.Law.{Latest, Law}
use Rattle.book.specs.Reached as on-lists
use Rattle.book.proofs.Basics.{all_always, map_cong}
use Rattle.stream.specs.declared.run.BoundedWindowAggStream.{BoundedWindowAggStream}
use Rattle.stream.specs.Views.{view, settings_of}
use Rattle.stream.specs.Reached.{booked, lined, Reached, made, push, finish, RunsLawful, LinesOut}
use Rattle.stream.proofs.Passes.{passed}
use Rattle.stream.proofs.Plays.{views_reached}

-- a row's rank is below the number of its key's rows
ranks_below : {K : Type 0} (same : K → K → Bool) → IsEquivalence same → (before rows : List (Row K))
    → AllByRecursion (λ t. t.rank < length (rows_of same t.row.key (before ++ rows))) (ranked same before rows)
ranks_below same eq before [] = tt
ranks_below {K} same eq before (row ∷ rows) =
    let mine : List (Row K) → List (Row K) = rows_of same row.key in
    let here : length (mine (row ∷ rows)) ≡ suc (length (mine rows)) = ap (λ b. length (cond b (row ∷ mine rows) (mine rows))) (eq.refl row.key) in (
      omega (arith, here, ap length (filter-append (λ r. same r.key row.key) before (row ∷ rows)), length-append (mine before) (mine (row ∷ rows))),
      subst (λ (all : List (Row K)). AllByRecursion (λ t. t.rank < length (rows_of same t.row.key all)) (ranked same (before ++ (row ∷ [])) rows)) (append_assoc before (row ∷ []) rows)
          (ranks_below same eq (before ++ (row ∷ [])) rows),
    )

-- the numbers of a key's rows fit where those of all rows do
key_fits : {K : Type 0} (same : K → K → Bool) (key : K) (rows : List (Row K)) → AllByRecursion (λ row. All CellFits row.cells) rows → RowsFit (cells_of same key rows)
key_fits same key rows fit =
    let mine : AllByRecursion (All CellFits) (cells_of same key rows) = All-map (λ cells. All CellFits cells) (λ r. r.cells) (rows_of same key rows) (all_kept_by (λ r. same r.key key) (λ r. All CellFits r.cells) rows fit) in
    λ k d h. every_from_all (All CellFits) (cells_of same key rows) mine k d (omega arith) h

module _ {K R P : Type 0} (s : Settings K R P) where
  push_few : (fault : Option Told) (v : View K R P) (b : Book K) (batch : List (Row K)) → length b.rows < 2 ^ 32 → (fault ≡ None → length b.rows + length batch < 2 ^ 32)
      → length (on-lists.noted (unless fault v (accepted_push s v batch)).fault b (entered b batch)).rows < 2 ^ 32
  push_few None v b batch was on = omega (arith, on refl, length-append b.rows batch)
  push_few (Some told) v b batch was on = was

  finish_few : (fault : Option Told) (v : View K R P) (b : Book K) → length b.rows < 2 ^ 32 → length (on-lists.noted (unless fault v (accepted_finish s v)).fault b (closed b)).rows < 2 ^ 32
  finish_few None v b was = was
  finish_few (Some told) v b was = was

  -- fewer than 2 ^ 32 rows are accepted
  few_accepted : ((v : View K R P) (b : Book K) (outs : List (OutRow K R)) (latest : Latest K) → on-lists.Reached s v b outs latest → Law s v b outs latest)
      → (v : View K R P) (b : Book K) (outs : List (OutRow K R)) (latest : Latest K) → on-lists.Reached s v b outs latest → length b.rows < 2 ^ 32
  few_accepted law v b outs latest on-lists.made = omega arith
  few_accepted law v b outs latest (on-lists.push v0 b0 outs0 latest0 batch places h) =
      push_few (push_refusal s (view_facts v0) batch places) v0 b0 batch (few_accepted law v0 b0 outs0 latest0 h)
      (λ e. let all = (law v0 b0 outs0 latest0 h).accepted in let few = (passed s (view_facts v0) batch places e).countable in omega arith)
  few_accepted law v b outs latest (on-lists.finish v0 b0 outs0 latest0 places h) =
      finish_few (finish_refusal s (view_facts v0) places) v0 b0 (few_accepted law v0 b0 outs0 latest0 h)

module _ {K S F : Type 0} (k : Kind K) (s : searcher.Ghosts S K) (f : figure.Ghosts F) where
  abbrev Fit : List (Row K) → Type 0
  Fit rows = AllByRecursion (λ row. All CellFits row.cells) rows

  -- the numbers of all accepted rows have 32 bits
  accepted_fit : (r : BoundedWindowAggStream K S F) (b : Book K) (outs : List (OutRow K (List Outcome))) (latest : Latest K) → Reached k s f r b outs latest → Fit b.rows
  accepted_fit r b outs latest (made by set _ m) = tt
  accepted_fit r b outs latest (push r0 _ b0 outs0 latest0 batch out out' told h q) =
      let was = accepted_fit r0 b0 outs0 latest0 h in
      elim told as (λ t. Fit (booked t b0 (entered b0 batch)).rows)
      [ Ok n ↦ All-append (λ row. All CellFits row.cells) b0.rows batch was q.fits | Err fault ↦ was ]
  accepted_fit r b outs latest (finish r0 _ b0 outs0 latest0 out out' told h q) =
      let was = accepted_fit r0 b0 outs0 latest0 h in
      elim told as (λ t. Fit (booked t b0 (closed b0)).rows) [ Ok n ↦ was | Err fault ↦ was ]

module _ {K S : Type 0} (k : Kind K) (s : searcher.Ghosts S K) where
  -- one row's results are the letters' lines
  row_lined : LettersMean → (r : BoundedWindowAggStream K S LetterFigure) (b : Book K) → length b.rows < 2 ^ 32 → AllByRecursion (λ row. All CellFits row.cells) b.rows
      → (t : Ranked K) → t.rank < length (rows_of k.same t.row.key b.rows) → afresh (settings_of k s meaning r) b t ≡ lined k s (figures r.settings.set) b t
  row_lined mean r b few fit t below =
      let fs = figures r.settings.set in
      let mine = rows_of k.same t.row.key b.rows in
      let cells = cells_of k.same t.row.key b.rows in
      let long : length cells ≡ length mine = length-map mine (λ (row : Row K). row.cells) in
      let part : length mine ≤ length b.rows = omega (arith, length-filter_both (λ (row : Row K). k.same row.key t.row.key) (λ row. not (k.same row.key t.row.key)) (λ row. refl) b.rows) in
      ap (λ (os : List Outcome). record { row = t.row; results = os ++ replicate (4 - length fs) None })
      (map_cong (λ f. outcome_of meaning f cells t.rank) (λ f. line f.letter f.column f.before f.after cells t.rank) fs
      (all_always _ (λ f. mean f cells t.rank (omega arith) (omega arith) (key_fits k.same t.row.key b.rows fit)) fs))

  pub lines_out : IsEquivalence k.same → LettersMean → RunsLawful k s meaning
      → ((by : BoundedWindowAggStream K S LetterFigure) (v : View K (List Outcome) Progress) (b : Book K) (outs : List (OutRow K (List Outcome))) (latest : Latest K) → on-lists.Reached (settings_of k s meaning by) v b outs latest → Law (settings_of k s meaning by) v b outs latest)
      → LinesOut k s
  lines_out eq mean lawful law r b outs latest h =
      let set = settings_of k s meaning r in
      let few = few_accepted set (law r) (view r) b outs latest (views_reached k s meaning r b outs latest h) in
      let fit = accepted_fit k s meaning r b outs latest h in
      (lawful r b outs latest h).out_afresh
      ∙ map_cong (afresh set b) (lined k s (figures r.settings.set) b) (take (length outs) (in_turn set b))
      (All-take _ (length outs) (in_turn set b) (All-weaker (λ t. t.rank < length (rows_of k.same t.row.key b.rows)) _ (row_lined mean r b few fit) (in_turn set b) (ranks_below k.same eq [] b.rows)))
