-- Calls worked by hand, on the definitions that push, finish and the letters cite.
use Rattle.std.specs.Prelude.{◌≡◌, ℕ, false, List, [], ◌∷◌, map, length, ℤ, pos, negsuc, Some, None}
use Rattle.keys.specs.declared.berth.Berth.{Berth}
use Rattle.keys.specs.declared.route.RouteBerth.{RouteBerth}
use Rattle.keys.specs.Berths.{same_berth, berth_order}
use Rattle.keys.specs.Routes.{same_route_berth, route_berth_order, route_order}
use Rattle.figures.specs.declared.cells.Column.TheVariants.{C0}
use Rattle.figures.specs.declared.letters.Letter.{Letter}
use Rattle.figures.specs.declared.letters.Letter.TheVariants as letter
use Rattle.figures.specs.declared.letters.LetterFigure.{LetterFigure}
use Rattle.figures.specs.declared.set.FigureSet.{FigureSet}
use Rattle.figures.specs.declared.set.FigureSet.TheVariants.{One}
use Rattle.figures.specs.Rules.{meaning}
use Rattle.figures.specs.Cells.{Outcome}
use Rattle.searchers.specs.declared.modes.Mode.{Mode}
use Rattle.searchers.specs.declared.modes.Mode.TheVariants.{Sorted, PartlySorted, Linear}
use Rattle.searchers.specs.declared.rows.Row.{Row}
use Rattle.faults.specs.Numbers.{of_run}
use Rattle.tables.specs.declared.rows.OutRow.{OutRow}
use Rattle.aggregates.specs.declared.progress.Progress.{Progress}
use Rattle.aggregates.specs.Sets.{set_figures}
use Rattle.book.specs.Calls.{Kind, Settings, Facts, After, fresh, push_refusal, pushed, finished_by}
use Rattle.book.specs.Book.{rows_of}
use Rattle.book.specs.Law.{kept_rows}

abbrev pub berths : Kind Berth
berths = record { same = same_berth; order = berth_order; parts = berth_order }

abbrev pub routes : Kind RouteBerth
routes = record { same = same_route_berth; order = route_berth_order; parts = route_order }

-- one letter over column 0, with its reaches before and after
abbrev pub one : Letter → ℕ → ℕ → FigureSet LetterFigure
one l b a = One (record { letter = l; column = C0; before = b; after = a })

abbrev pub run_of : {K : Type 0} → Kind K → Mode → FigureSet LetterFigure → Settings K (List Outcome) Progress
run_of kind mode set = record { kind = kind; mode = mode; figures = set_figures meaning set }

abbrev pub berth : ℕ → Berth
berth n = record { 0 = n }

-- a row with one cell, and the same going out with one result
abbrev pub row_of : {K : Type 0} → K → ℤ → Row K
row_of key x = record { key = key; cells = Some x ∷ None ∷ None ∷ None ∷ [] }

abbrev pub out_of : {K : Type 0} → K → ℤ → Outcome → OutRow K (List Outcome)
out_of key x result = record { row = row_of key x; results = result ∷ None ∷ None ∷ None ∷ [] }

-- a call that is accepted and puts out so many rows
pub record Puts {K : Type 0} (a : After K (List Outcome) Progress) (n : ℕ) : Type 0 where
  pub accepted : a.fault ≡ None
  pub many : length a.put ≡ n

-- a call that is accepted and puts out these
pub record PutsOut {K : Type 0} (a : After K (List Outcome) Progress) (rows : List (OutRow K (List Outcome))) : Type 0 where
  pub accepted : a.fault ≡ None
  pub these : a.put ≡ rows

-- the sum of a row, the one before it and the one after it
abbrev pub sums : FigureSet LetterFigure
sums = one letter.Sum 1 1

abbrev pub five : List (Row Berth)
five = row_of (berth 7) (pos 10) ∷ row_of (berth 8) (pos 5) ∷ row_of (berth 7) (pos 20) ∷ row_of (berth 8) (pos 6) ∷ row_of (berth 7) (pos 30) ∷ []

abbrev pub after_five : After Berth (List Outcome) Progress
after_five = pushed (run_of berths Linear sums) fresh five 512

abbrev pub pushed_new : Mode → FigureSet LetterFigure → List (Row Berth) → After Berth (List Outcome) Progress
pushed_new mode set batch = pushed (run_of berths mode set) fresh batch 512

abbrev pub calls : List ℕ → List (Row Berth)
calls ns = map (λ n. row_of (berth n) (pos 0)) ns

abbrev pub on_route : ℕ → ℕ → Row RouteBerth
on_route r b = row_of (record { route = r; berth = b }) (pos 0)

abbrev pub four_routes : List (Row RouteBerth)
four_routes = on_route 1 4 ∷ on_route 1 5 ∷ on_route 1 4 ∷ on_route 2 4 ∷ []

-- three rows of one berth
abbrev pub three : List (Row Berth)
three = row_of (berth 1) (pos 10) ∷ row_of (berth 1) (pos 20) ∷ row_of (berth 1) (pos 30) ∷ []

-- what the checks see of a run that has accepted so many rows, all of which are out
abbrev pub counted : ℕ → Facts Berth
counted n = record { finished = false; last = None; accepted = n; waiting = 0; kept = 0; held = [] }

pub record Worked : Type 0 where
  -- Five rows of two berths: three leave, two wait, and each berth keeps its last two rows. Finish puts out the rest.
  pub first : PutsOut after_five (out_of (berth 7) (pos 10) (Some (pos 30)) ∷ out_of (berth 8) (pos 5) (Some (pos 11)) ∷ out_of (berth 7) (pos 20) (Some (pos 60)) ∷ [])
  pub wait : length after_five.view.tables.waiting ≡ 2
  pub sevens : rows_of same_berth (berth 7) (kept_rows after_five.view) ≡ row_of (berth 7) (pos 20) ∷ row_of (berth 7) (pos 30) ∷ []
  pub eights : rows_of same_berth (berth 8) (kept_rows after_five.view) ≡ row_of (berth 8) (pos 5) ∷ row_of (berth 8) (pos 6) ∷ []
  pub rest : PutsOut (finished_by (run_of berths Linear sums) after_five.view 512) (out_of (berth 8) (pos 6) (Some (pos 11)) ∷ out_of (berth 7) (pos 30) (Some (pos 50)) ∷ [])
  -- No row goes past one that is not settled.
  pub none_past : Puts (pushed_new Linear sums (calls (8 ∷ 7 ∷ 7 ∷ []))) 0
  -- In a sorted run the first key has ended, in a linear one not.
  pub sorted : Puts (pushed_new Sorted sums (calls (1 ∷ 1 ∷ 2 ∷ []))) 2
  pub linear : Puts (pushed_new Linear sums (calls (1 ∷ 1 ∷ 2 ∷ []))) 1
  -- A partly sorted run looks at routes alone; a sorted one refuses the third row.
  pub by_route : Puts (pushed (run_of routes PartlySorted sums) fresh four_routes 512) 3
  pub by_key : (pushed (run_of routes Sorted sums) fresh four_routes 512).fault ≡ Some (of_run 9 2)
  -- The mean of -3 and -4 is -3.
  pub mean : PutsOut (pushed_new Linear (one letter.Mean 1 0) (row_of (berth 1) (negsuc 2) ∷ row_of (berth 1) (negsuc 3) ∷ []))
      (out_of (berth 1) (negsuc 2) (Some (negsuc 2)) ∷ out_of (berth 1) (negsuc 3) (Some (negsuc 2)) ∷ [])
  -- The cell two rows earlier is missing at rank 1, and rank 0's at rank 2.
  pub earlier : PutsOut (pushed_new Linear (one letter.Earlier 2 0) three)
      (out_of (berth 1) (pos 10) None ∷ out_of (berth 1) (pos 20) None ∷ out_of (berth 1) (pos 30) (Some (pos 10)) ∷ [])
  -- The cell one row later is missing at an ended key's last row.
  pub later : PutsOut (pushed_new Linear (one letter.Later 0 1) three) (out_of (berth 1) (pos 10) (Some (pos 20)) ∷ out_of (berth 1) (pos 20) (Some (pos 30)) ∷ [])
  pub last_later : PutsOut (finished_by (run_of berths Linear (one letter.Later 0 1)) (pushed_new Linear (one letter.Later 0 1) three).view 512) (out_of (berth 1) (pos 30) None ∷ [])
  -- An empty batch puts out none, on a new run and where rows wait.
  pub empty : Puts (pushed_new Linear sums []) 0
  pub empty_later : Puts (pushed (run_of berths Linear sums) after_five.view [] 512) 0
  -- The row that makes the count 4,294,967,295 is accepted, and the next is not.
  pub countable : push_refusal (run_of berths Linear sums) (counted 4294967294) (calls (1 ∷ [])) 512 ≡ None
  pub uncountable : push_refusal (run_of berths Linear sums) (counted 4294967295) (calls (1 ∷ [])) 512 ≡ Some (of_run 10 0)
