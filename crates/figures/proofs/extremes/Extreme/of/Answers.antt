use Rattle.std.proofs.Common.{◌≡◌, List, [], ◌∷◌, ℤ, Some, None, fold, refl, ◌∙◌, rules}
use Rattle.std.specs.List.{cons_option}
use Rattle.std.proofs.lemmas.Iterator.{YieldsList-from_slice}
use Rattle.std.proofs.lemmas.Iterator.Consumers.{fold_from_yields_List}
use Rattle.figures.specs.declared.cells.Column.{Column}
use Rattle.figures.specs.declared.extremes.Extreme.{Extreme}
use Rattle.figures.specs.Cells.{Cell, cell, numbers}
use Rattle.figures.specs.Extremes.{further, extended, extreme_of}
use Rattle.figures.proofs.extremes.Extreme.of.Goals as goal

-- row by row, the extreme is that of the numbers
module _ (e : Extreme) (c : Column) where
  extreme_from : (m : ℤ) (rows : List (List Cell)) → fold (λ best row. extended e best (cell c row)) (Some m) rows ≡ Some (fold (further e) m (numbers c rows))
  extreme_from m [] = refl
  extreme_from m (row ∷ rows) =
      elim (cell c row) as (λ x. fold (λ best row. extended e best (cell c row)) (extended e (Some m) x) rows ≡ Some (fold (further e) m (cons_option x (numbers c rows)))) [
        | None ↦ extreme_from m rows
        | Some y ↦ extreme_from (further e m y) rows
      ]

  extreme_is : (rows : List (List Cell)) → fold (λ best row. extended e best (cell c row)) None rows ≡ extreme_of e (numbers c rows)
  extreme_is [] = refl
  extreme_is (row ∷ rows) =
      elim (cell c row) as (λ x. fold (λ best row. extended e best (cell c row)) (extended e None x) rows ≡ extreme_of e (cons_option x (numbers c rows))) [
        | None ↦ extreme_is rows
        | Some y ↦ extreme_from y rows
      ]

pub returns : goal.returns
returns c =
    fold_from_yields_List _ (λ best row. extended c.args.self best (cell c.args.column row)) None _ c.fold.ensures.ran (YieldsList-from_slice c.args.rows.now c.iter.ensures.rest) (λ a x b q k. search rules)
    ∙ extreme_is c.args.self c.args.column c.args.rows.now
