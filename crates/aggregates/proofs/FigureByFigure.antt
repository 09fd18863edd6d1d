-- One turn of the loop over the figures of a set.
use Rattle.std.proofs.Common.{◌≡◌, ℕ, zero, suc, ◌+◌, ◌<◌, Bool, List, [], ◌∷◌, length, get_or, take, drop, set, Some, None, refl, ap, ◌∙◌, add-one, arith}
use Rattle.std.specs.List.{slice_get}
use Rattle.figures.specs.declared.carry.Carry.{Carry}
use Rattle.figures.specs.declared.figure.Figure as figure
use Rattle.figures.specs.Cells.{Cell, Outcome}
use Rattle.aggregates.specs.Sets.{next_carry, next_carries, next_result, next_results}

-- what stands first behind j others stands at place j, and the rest behind j + 1
pub at_front : {X : Type 0} (j : ℕ) (fs : List X) (f : X) (rest : List X) → drop j fs ≡ f ∷ rest → (slice_get fs j ≡ Some f) × (drop (j + 1) fs ≡ rest) × (j < length fs)
at_front zero [] f rest e = cc
at_front zero (x ∷ xs) f rest e = ((cc), (cc), omega arith)
at_front (suc j) [] f rest e = cc
at_front (suc j) (x ∷ xs) f rest e =
    let h = at_front j xs f rest e in
    let n : suc j + 1 ≡ suc (j + 1) = omega arith in
    (h.0, ap (λ m. drop m (x ∷ xs)) n ∙ h.1, omega (arith, h.2))

module _ {F : Type 0} (g : figure.Ghosts F) (old n : ℕ) (ended : Bool) (cells : List (List Cell)) where
  carries_suc : (j : ℕ) (fs : List F) (ks : List Carry) (f : F) (d : Carry) → slice_get fs j ≡ Some f
      → next_carries g old n ended cells (take (suc j) fs) ks ≡ set (next_carries g old n ended cells (take j fs) ks) j (next_carry g old n ended cells f (get_or ks j d))
  carries_suc j [] ks f d e = let z : ◌≡◌ {A = ℕ} 0 1 = cc in absurd (let y : ⊥ = omega arith in y)
  carries_suc zero (h ∷ fs) [] f d e = refl
  carries_suc zero (h ∷ fs) (k ∷ ks) f d e = ap (λ x. next_carry g old n ended cells x k ∷ ks) (cc)
  carries_suc (suc j) (h ∷ fs) [] f d e = refl
  carries_suc (suc j) (h ∷ fs) (k ∷ ks) f d e = ap (λ r. next_carry g old n ended cells h k ∷ r) (carries_suc j fs ks f d e)

  pub carries_more : (j : ℕ) (fs : List F) (ks : List Carry) (f : F) (d : Carry) → slice_get fs j ≡ Some f
      → next_carries g old n ended cells (take (j + 1) fs) ks ≡ set (next_carries g old n ended cells (take j fs) ks) j (next_carry g old n ended cells f (get_or ks j d))
  carries_more j fs ks f d e = rw add-one (carries_suc j fs ks f d e)

  -- the carry of the figure whose turn it is has not changed yet
  pub carry_waits : (j : ℕ) (fs : List F) (ks : List Carry) (d : Carry) → get_or (next_carries g old n ended cells (take j fs) ks) j d ≡ get_or ks j d
  carry_waits zero fs ks d = refl
  carry_waits (suc j) [] ks d = refl
  carry_waits (suc j) (h ∷ fs) [] d = refl
  carry_waits (suc j) (h ∷ fs) (k ∷ ks) d = carry_waits j fs ks d

  results_suc : (j : ℕ) (fs : List F) (ks : List Carry) (i : ℕ) (os : List Outcome) (f : F) (d : Carry) → slice_get fs j ≡ Some f → j < length ks
      → set (next_results g old n ended cells (take j fs) ks i os) j (next_result g old n ended cells f (get_or ks j d) i (get_or (next_results g old n ended cells (take j fs) ks i os) j None)) ≡ next_results g old n ended cells (take (suc j) fs) ks i os
  results_suc j [] ks i os f d e l = let z : ◌≡◌ {A = ℕ} 0 1 = cc in absurd (let y : ⊥ = omega arith in y)
  results_suc j (h ∷ fs) [] i os f d e l = absurd (let y : ⊥ = omega arith in y)
  results_suc zero (h ∷ fs) (k ∷ ks) i [] f d e l = refl
  results_suc zero (h ∷ fs) (k ∷ ks) i (o ∷ os) f d e l = ap (λ x. next_result g old n ended cells x k i o ∷ os) (cc)
  results_suc (suc j) (h ∷ fs) (k ∷ ks) i [] f d e l = refl
  results_suc (suc j) (h ∷ fs) (k ∷ ks) i (o ∷ os) f d e l = ap (λ r. next_result g old n ended cells h k i o ∷ r) (results_suc j fs ks i os f d e (omega arith))

  pub results_more : (j : ℕ) (fs : List F) (ks : List Carry) (i : ℕ) (os : List Outcome) (f : F) (d : Carry) → slice_get fs j ≡ Some f → j < length ks
      → set (next_results g old n ended cells (take j fs) ks i os) j (next_result g old n ended cells f (get_or ks j d) i (get_or (next_results g old n ended cells (take j fs) ks i os) j None)) ≡ next_results g old n ended cells (take (j + 1) fs) ks i os
  results_more j fs ks i os f d e l = rw add-one (results_suc j fs ks i os f d e l)
