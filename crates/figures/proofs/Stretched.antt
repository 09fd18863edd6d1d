-- One turn of the loop over the ranks of a stretch: what is done, and what the rest will give, make the whole.
use Rattle.std.proofs.Common.{◌≡◌, ℕ, suc, ◌+◌, ◌-◌, ◌<◌, List, [], ◌∷◌, ◌++◌, length, take, set, sym, ap, ◌∙◌, append_assoc, arith}
use Rattle.std.proofs.lemmas.List.{take_more_set}
use Rattle.figures.specs.declared.carry.Carry.{Carry}
use Rattle.figures.specs.declared.figure.Figure as figure
use Rattle.figures.specs.Cells.{Cell, Outcome}
use Rattle.figures.specs.Catching.{worked, passed, stretch, carry_after}

module _ {F : Type 0} (g : figure.Ghosts F) (f : F) (k k' : Carry) (first : ℕ) (rows : List (List Cell)) (from j n : ℕ) (turn : j < n) (next : k' ≡ passed g f k first rows (from + j)) where
  left : n - j ≡ suc (n - (j + 1))
  left = omega arith

  on : from + j + 1 ≡ from + (j + 1)
  on = omega arith

  pub results_more : (os : List Outcome) (o : Outcome) → j < length os → o ≡ worked g f k first rows (from + j)
      → take (j + 1) (set os j o) ++ stretch g f k' first rows (from + (j + 1)) (n - (j + 1)) ≡ take j os ++ stretch g f k first rows (from + j) (n - j)
  results_more os o h e =
      let rest : List Outcome = stretch g f k' first rows (from + (j + 1)) (n - (j + 1)) in
      ap (λ r. r ++ rest) (take_more_set os j o h)
      ∙ append_assoc (take j os) (o ∷ []) rest
      ∙ ap (λ r. take j os ++ r)
      (ap (λ x. x ∷ rest) e
      ∙ ap (λ c. worked g f k first rows (from + j) ∷ stretch g f c first rows (from + (j + 1)) (n - (j + 1))) next
      ∙ ap (λ i. worked g f k first rows (from + j) ∷ stretch g f (passed g f k first rows (from + j)) first rows i (n - (j + 1))) (sym on)
      ∙ ap (stretch g f k first rows (from + j)) (sym left))

  pub carry_more : carry_after g f k' first rows (from + (j + 1)) (n - (j + 1)) ≡ carry_after g f k first rows (from + j) (n - j)
  carry_more =
      ap (λ c. carry_after g f c first rows (from + (j + 1)) (n - (j + 1))) next
      ∙ ap (λ i. carry_after g f (passed g f k first rows (from + j)) first rows i (n - (j + 1))) (sym on)
      ∙ ap (carry_after g f k first rows (from + j)) (sym left)
