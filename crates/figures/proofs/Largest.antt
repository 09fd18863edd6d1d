-- The largest of a number over the figures of a set is what its name says.
use Rattle.std.proofs.Common.{◌≡◌, ℕ, ◌<◌, ◌≤◌, max, ◌⊎◌, List, [], ◌∷◌, map, fold, sym, refl, subst, inl, inr, ⊎_elim, arith}
use Rattle.std.specs.List.{Contains, All}
use Rattle.std.proofs.lemmas.List.Elements.{All-cons, All-head, Contains-get_or, Contains-append_right}
use Rattle.std.proofs.lemmas.Bool.{cases_lt}
use Rattle.figures.specs.declared.set.FigureSet.{FigureSet}
use Rattle.figures.specs.declared.set.FigureSet.TheVariants.{One, Two, Three, Four}
use Rattle.figures.specs.Sets.{figures, largest, IsLargest}

module _ {F : Type 0} (n : F → ℕ) where
  abbrev most : ℕ → List F → ℕ
  most m fs = fold (λ k f. max k (n f)) m fs

  from_start : (m : ℕ) (fs : List F) → m ≤ most m fs
  from_start m [] = omega arith
  from_start m (f ∷ fs) = omega (arith, from_start (max m (n f)) fs)

  covers_all : (m : ℕ) (fs : List F) → All (λ f. n f ≤ most m fs) fs
  covers_all m [] = λ k d h. absurd (omega arith)
  covers_all m (f ∷ fs) = All-cons (λ g. n g ≤ most m (f ∷ fs)) f fs (omega (arith, from_start (max m (n f)) fs)) (covers_all (max m (n f)) fs)

  here : (f : F) (fs : List F) (k : ℕ) → k ≡ n f → Contains (map n (f ∷ fs)) k
  here f fs k e = subst (Contains (map n (f ∷ fs))) (sym e) (Contains-get_or (map n (f ∷ fs)) 0 0 (omega arith))

  -- the start, or one of theirs
  reached_from : (m : ℕ) (fs : List F) → (most m fs ≡ m) ⊎ Contains (map n fs) (most m fs)
  reached_from m [] = inl refl
  reached_from m (f ∷ fs) =
      let k : ℕ = most (max m (n f)) fs in
      ⊎_elim
      (λ (e : most (max m (n f)) fs ≡ max m (n f)).
      ⊎_elim (λ (l : m < n f). inr (here f fs k (omega arith))) (λ (l : n f ≤ m). inl (omega arith)) (cases_lt m (n f)))
      (λ (h : Contains (map n fs) (most (max m (n f)) fs)). inr (Contains-append_right (n f ∷ []) (map n fs) k h))
      (reached_from (max m (n f)) fs)

  is_largest : (f : F) (fs : List F) → IsLargest n (f ∷ fs) (largest n (f ∷ fs))
  is_largest f fs =
      record {
        reached = ⊎_elim (λ (e : largest n (f ∷ fs) ≡ 0). here f fs (largest n (f ∷ fs)) (omega (arith, All-head (λ g. n g ≤ largest n (f ∷ fs)) f fs (covers_all 0 (f ∷ fs))))) (λ (h : Contains (map n (f ∷ fs)) (largest n (f ∷ fs))). h) (reached_from 0 (f ∷ fs));
        covers = covers_all 0 (f ∷ fs);
      }

  pub set_largest : (set : FigureSet F) → IsLargest n (figures set) (largest n (figures set))
  set_largest (One f) = is_largest f []
  set_largest (Two f g) = is_largest f (g ∷ [])
  set_largest (Three f g h) = is_largest f (g ∷ h ∷ [])
  set_largest (Four f g h j) = is_largest f (g ∷ h ∷ j ∷ [])

  pub largest_is : (set : FigureSet F) (m : ℕ) → m ≡ largest n (figures set) → IsLargest n (figures set) m
  largest_is set m e = subst (IsLargest n (figures set)) (sym e) (set_largest set)
