-- At each rank of a key's rows a letter's figure gives the letter's line.
use Rattle.std.proofs.Common.{◌≡◌, ℕ, ◌+◌, ◌-◌, ◌^◌, ◌<◌, ◌≤◌, leb, List, length, take, pos, fold, sym, ap, ◌∙◌, ⊎_elim, arith, w64}
use Rattle.std.specs.List.{slice_get, All}
use Rattle.std.specs.Prelude.{Some}
use Rattle.std.specs.Int.{int_wrap}
use Rattle.std.proofs.iter.runs.Lists.{fold-append}
use Rattle.std.proofs.lemmas.List.Elements.{All-take, All-drop}
use Rattle.std.proofs.lemmas.List.{length-take, length-take-le}
use Rattle.std.proofs.lemmas.Bool.{cases_lt, le-leb, lt-leb, cond-true, cond-false}
use Rattle.figures.specs.declared.cells.Column.{Column}
use Rattle.figures.specs.declared.extremes.Extreme.TheVariants.{Least, Greatest}
use Rattle.figures.specs.declared.letters.Letter.{Letter}
use Rattle.figures.specs.declared.letters.Letter.TheVariants.{RowNumber, RunningSum, Rows, Present, Sum, Lowest, Highest, First, Last, Earlier, Later, Mean}
use Rattle.figures.specs.Carries.{absorbed, fresh, plus}
use Rattle.figures.specs.Cells.{Cell, CellFits, Outcome, cell_of, numbers, RowsFit}
use Rattle.figures.specs.Extremes.{extreme_of}
use Rattle.figures.specs.Lines.{line, rows_between, first_of, last_of, sum_of, mean_of, LettersMean}
use Rattle.figures.specs.Results.{frame}
use Rattle.figures.specs.Rules.{rule, sum_shown, mean_shown}
use Rattle.figures.proofs.Framed.{rows_between_is, rows_so_far_is, frame_nth, length_frame, frame_front, first_is, last_is}
use Rattle.figures.proofs.Tallied.{tallied, tally_is, count_fits, sum_is, mean_is}

module _ (c : Column) (b a : ℕ) (rows : List (List Cell)) (i : ℕ) (in' : i < length rows) (few : length rows < 2 ^ 32) (fit : RowsFit rows) where
  abbrev framed : List (List Cell)
  framed = frame b a i rows

  before_frame : fold (absorbed c) fresh (take (i - b) rows) ≡ tallied c (take (i - b) rows)
  before_frame =
      let short : length (take (i - b) rows) < 2 ^ 32 = omega (arith, length-take (i - b) rows) in
      tally_is c (take (i - b) rows) short (All-take (All CellFits) (i - b) rows fit)

  -- the carry of the rank, with the frame's rows up to the row itself: the rows so far
  so_far : fold (absorbed c) (fold (absorbed c) fresh (take (i - b) rows)) (take (i - (i - b) + 1) framed) ≡ tallied c (take (i + 1) rows)
  so_far =
      let short : length (take (i + 1) rows) < 2 ^ 32 = omega (arith, length-take-le (i + 1) rows (omega arith)) in
      sym (fold-append (absorbed c) fresh (take (i - b) rows) (take (i - (i - b) + 1) framed))
      ∙ ap (fold (absorbed c) fresh) (frame_front b a i rows)
      ∙ tally_is c (take (i + 1) rows) short (All-take (All CellFits) (i + 1) rows fit)

  in_frame : fold (absorbed c) fresh framed ≡ tallied c framed
  in_frame =
      let short : length framed < 2 ^ 32 = omega (arith, length_frame b a i rows) in
      tally_is c framed short (All-drop (All CellFits) (i - b) (take (i + a + 1) rows) (All-take (All CellFits) (i + a + 1) rows fit))

  -- what is said of the frame is said of SQL's frame
  over : (say : List (List Cell) → Outcome) → say framed ≡ say (rows_between b a i rows)
  over say = sym (ap say (rows_between_is b a i rows))

  shows : (k j : ℕ) → i - b + k ≡ j → j < i + a + 1 → cell_of c (slice_get framed k) ≡ cell_of c (slice_get rows j)
  shows k j e h = ap (cell_of c) (frame_nth b a i rows k (omega arith) ∙ ap (slice_get rows) e)

  meant : (l : Letter) → rule l c b a (fold (absorbed c) fresh (take (i - b) rows)) framed (i - (i - b)) ≡ line l c b a rows i
  meant RowNumber =
      let front : List (List Cell) = take (i - (i - b) + 1) framed in
      let number : length (take (i - b) rows) + length (take (i - (i - b) + 1) framed) ≡ i + 1 = omega (arith, length-take (i - b) rows, length-take (i - (i - b) + 1) framed, length_frame b a i rows) in
      ap (λ k. Some (plus k.rows (pos (length front)))) before_frame
      ∙ ap (λ n. Some (int_wrap w64 (pos n))) number
      ∙ ap Some (count_fits (i + 1) (omega arith))
  meant RunningSum = ap sum_shown so_far ∙ sum_is c (take (i + 1) rows) ∙ sym (ap (λ rs. sum_of (numbers c rs)) (rows_so_far_is i rows))
  meant Rows = over (λ rs. Some (pos (length rs)))
  meant Present = ap (λ k. Some k.present) in_frame ∙ over (λ rs. Some (pos (length (numbers c rs))))
  meant Sum = ap sum_shown in_frame ∙ sum_is c framed ∙ over (λ rs. sum_of (numbers c rs))
  meant Lowest = over (λ rs. extreme_of Least (numbers c rs))
  meant Highest = over (λ rs. extreme_of Greatest (numbers c rs))
  meant First = sym (ap (cell_of c) (first_is framed)) ∙ over (λ rs. cell_of c (first_of rs))
  meant Last = sym (ap (cell_of c) (last_is framed)) ∙ over (λ rs. cell_of c (last_of rs))
  meant Earlier =
      ⊎_elim
      (λ (h : i < b). cond-false (leb b (i - (i - b))) _ _ (lt-leb b (i - (i - b)) (omega arith)) ∙ sym (cond-false (leb b i) _ _ (lt-leb b i h)))
      (λ (h : b ≤ i).
      cond-true (leb b (i - (i - b))) _ _ (le-leb b (i - (i - b)) (omega arith))
      ∙ shows (i - (i - b) - b) (i - b) (omega arith) (omega arith)
      ∙ sym (cond-true (leb b i) _ _ (le-leb b i h)))
      (cases_lt i b)
  meant Later = shows (i - (i - b) + a) (i + a) (omega arith) (omega arith)
  meant Mean = ap mean_shown in_frame ∙ mean_is c framed ∙ over (λ rs. mean_of (numbers c rs))

pub letters_mean : LettersMean
letters_mean f rows i in' few fit = meant f.column f.before f.after rows i in' few fit f.letter
