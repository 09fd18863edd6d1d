-- A key for which nothing came: neither a row nor its end.
use Rattle.std.proofs.Common.{◌≡◌, ℕ, ◌-◌, Bool, false, List, [], ◌∷◌, length, refl, ap, ◌∙◌, arith}
use Rattle.figures.specs.declared.carry.Carry.{Carry}
use Rattle.figures.specs.declared.figure.Figure as figure
use Rattle.figures.specs.Catching.{due, stretch, carry_after}
use Rattle.figures.specs.Cells.{Cell, Outcome}
use Rattle.aggregates.specs.Sets.{due_from, newly_due, next_carry, next_carries, next_result, next_results}
use Rattle.aggregates.specs.Writing.{result_among}
use Rattle.aggregates.proofs.Splitting.{among_none}

module _ {F : Type 0} (g : figure.Ghosts F) (old n : ℕ) (ended : Bool) (cells : List (List Cell)) (same : old ≡ n) (lasts : ended ≡ false) where
  none_due : (f : F) → newly_due g old n ended cells f ≡ 0
  none_due f =
      ap (λ b. due n b (g.ahead f) - due old false (g.ahead f)) lasts
      ∙ (let e : n - g.ahead f - (old - g.ahead f) ≡ 0 = omega arith in e)

  carry_idle : (f : F) (k : Carry) → next_carry g old n ended cells f k ≡ k
  carry_idle f k = ap (carry_after g f k (n - length cells) cells (due_from g old n ended cells f)) (none_due f)

  result_idle : (f : F) (k : Carry) (i : ℕ) (o : Outcome) → next_result g old n ended cells f k i o ≡ o
  result_idle f k i o =
      let from : ℕ = due_from g old n ended cells f in
      ap (λ m. result_among (stretch g f k (n - length cells) cells from m) from i o) (none_due f) ∙ among_none from i o

  pub carries_idle : (fs : List F) (ks : List Carry) → next_carries g old n ended cells fs ks ≡ ks
  carries_idle [] ks = refl
  carries_idle (f ∷ fs) [] = refl
  carries_idle (f ∷ fs) (k ∷ ks) = ap (λ x. x ∷ next_carries g old n ended cells fs ks) (carry_idle f k) ∙ ap (λ r. k ∷ r) (carries_idle fs ks)

  pub results_idle : (fs : List F) (ks : List Carry) (i : ℕ) (os : List Outcome) → next_results g old n ended cells fs ks i os ≡ os
  results_idle [] ks i os = refl
  results_idle (f ∷ fs) [] i os = refl
  results_idle (f ∷ fs) (k ∷ ks) i [] = refl
  results_idle (f ∷ fs) (k ∷ ks) i (o ∷ os) = ap (λ x. x ∷ next_results g old n ended cells fs ks i os) (result_idle f k i o) ∙ ap (λ r. o ∷ r) (results_idle fs ks i os)
