-- The lowest and the highest of some numbers are what their names say.
use Rattle.std.proofs.Common.{◌≡◌, ◌⊎◌, List, [], ◌∷◌, ℤ, fold, sym, refl, subst, ⊎_elim, arith}
use Rattle.std.specs.List.{Contains, All}
use Rattle.std.proofs.lemmas.Int.{fold-int_min_bounds, fold-int_min_reached, fold-int_max_bounds, fold-int_max_reached}
use Rattle.std.proofs.lemmas.List.Elements.{All-cons, Contains-get_or, Contains-append_right}
use Rattle.figures.specs.declared.extremes.Extreme.{Extreme}
use Rattle.figures.specs.declared.extremes.Extreme.TheVariants.{Least, Greatest}
use Rattle.figures.specs.Extremes.{further}
use Rattle.figures.specs.Lines.{Within, ExtremesHold}

one_of : (x : ℤ) (xs : List ℤ) (m : ℤ) → (m ≡ x) ⊎ Contains xs m → Contains (x ∷ xs) m
one_of x xs m h =
    ⊎_elim (λ (e : m ≡ x). subst (Contains (x ∷ xs)) (sym e) (Contains-get_or (x ∷ xs) 0 x (omega arith))) (λ (k : Contains xs m). Contains-append_right (x ∷ []) xs m k) h

reached : (e : Extreme) (x : ℤ) (xs : List ℤ) → (fold (further e) x xs ≡ x) ⊎ Contains xs (fold (further e) x xs)
reached Least x xs = fold-int_min_reached x xs _ refl
reached Greatest x xs = fold-int_max_reached x xs _ refl

bounds : (e : Extreme) (x : ℤ) (xs : List ℤ) → All (Within e (fold (further e) x xs)) (x ∷ xs)
bounds Least x xs = let h = fold-int_min_bounds x xs _ refl in All-cons (Within Least (fold (further Least) x xs)) x xs h.0 h.1
bounds Greatest x xs = let h = fold-int_max_bounds x xs _ refl in All-cons (Within Greatest (fold (further Greatest) x xs)) x xs h.0 h.1

pub extremes_hold : ExtremesHold
extremes_hold e [] = refl
extremes_hold e (x ∷ xs) = (fold (further e) x xs, refl, one_of x xs _ (reached e x xs), bounds e x xs)
