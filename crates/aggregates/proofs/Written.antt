-- What one waiting row gets of some results of a figure, the first of which has the rank `from`: for whoever asks of a single row what `all_rewritten` says of all.
use Rattle.std.proofs.Common.{◌≡◌, ℕ, ◌-◌, ◌<◌, ◌≤◌, ltb, List, length, get_or, set, None, ap, ◌∙◌, sym, ⊎_elim}
use Rattle.std.proofs.lemmas.List.{set-get_or, get_or_past, get_or_default}
use Rattle.std.proofs.lemmas.Bool.{cases_eq, eq-eqb, ne_eqb, lt-ltb, le-ltb, cond-true, cond-false}
use Rattle.figures.specs.Cells.{Outcome}
use Rattle.searchers.specs.declared.rows.Waiting.{Waiting}
use Rattle.aggregates.specs.Writing.{rewritten, result_among, figure_taken}
use Rattle.aggregates.proofs.Rewriting.{at_place, elsewhere}

module _ {K : Type 0} (p figure from : ℕ) (os : List Outcome) (w : Waiting K (List Outcome)) where
  -- a row of the place whose result is among them gets that result
  pub row_gets : w.place ≡ p → from ≤ w.rank → w.rank - from < length os
      → record { row = w.row; place = w.place; rank = w.rank; results = set w.results figure (get_or os (w.rank - from) None) } ≡ rewritten p (figure_taken figure os from) w
  row_gets here past within =
      let was : Outcome = get_or w.results figure None in
      ap (λ o. record { row = w.row; place = w.place; rank = w.rank; results = set w.results figure o })
      (get_or_default os (w.rank - from) None was within ∙ sym (cond-false (ltb w.rank from) was _ (le-ltb w.rank from past)))
      ∙ sym (at_place p (figure_taken figure os from) w (eq-eqb w.place p here))

  -- each other row stays: one of another place, one before the first of them, and one behind the last
  pub row_elsewhere : (w.place ≡ p → ⊥) → rewritten p (figure_taken figure os from) w ≡ w
  row_elsewhere away = elsewhere p (figure_taken figure os from) w (ne_eqb w.place p away)

  row_keeps : result_among os from w.rank (get_or w.results figure None) ≡ get_or w.results figure None → rewritten p (figure_taken figure os from) w ≡ w
  row_keeps e =
      ⊎_elim
      (λ (here : w.place ≡ p).
      at_place p (figure_taken figure os from) w (eq-eqb w.place p here)
      ∙ ap (λ o. record { row = w.row; place = w.place; rank = w.rank; results = set w.results figure o }) e
      ∙ ap (λ rs. record { row = w.row; place = w.place; rank = w.rank; results = rs }) (set-get_or w.results figure None))
      row_elsewhere
      (cases_eq w.place p)

  pub row_before : w.rank < from → rewritten p (figure_taken figure os from) w ≡ w
  row_before h = row_keeps (cond-true (ltb w.rank from) _ _ (lt-ltb w.rank from h))

  pub row_behind : from ≤ w.rank → length os ≤ w.rank - from → rewritten p (figure_taken figure os from) w ≡ w
  row_behind h l =
      let was : Outcome = get_or w.results figure None in
      row_keeps (cond-false (ltb w.rank from) was _ (le-ltb w.rank from h) ∙ get_or_past os (w.rank - from) was l)
