-- The figures of a set, in their order.
use Rattle.std.specs.Prelude.{ℕ, ◌≤◌, max, List, [], ◌∷◌, map, drop, fold, All, Contains}
use Rattle.figures.specs.declared.set.FigureSet.{FigureSet}
use Rattle.figures.specs.declared.set.Figures.{Figures}
use Rattle.figures.specs.declared.set.FigureSet.TheVariants.{One, Two, Three, Four}

abbrev pub figures : {F : Type 0} → FigureSet F → List F
figures (One f) = f ∷ []
figures (Two f g) = f ∷ g ∷ []
figures (Three f g h) = f ∷ g ∷ h ∷ []
figures (Four f g h j) = f ∷ g ∷ h ∷ j ∷ []

-- the largest of a number over the figures
abbrev pub largest : {F : Type 0} → (F → ℕ) → List F → ℕ
largest n fs = fold (λ m f. max m (n f)) 0 fs

-- it is one of theirs, and no figure has more
pub record IsLargest {F : Type 0} (n : F → ℕ) (fs : List F) (m : ℕ) : Type 0 where
  pub reached : Contains (map n fs) m
  pub covers : All (λ f. n f ≤ m) fs

-- the figures that an iterator has left
abbrev pub figures_left : {F : Type 0} → Figures F → List F
figures_left s = drop s.next (figures s.set.now)
