-- What the place of the first equal key means.
use Rattle.std.proofs.Common.{◌≡◌, ℕ, ◌+◌, Bool, false, List, [], ◌∷◌, ◌++◌, length, Some, Option, sym, refl, ap, ◌∙◌, subst, append_assoc}
use Rattle.std.specs.List.{AllByRecursion, position_from}
use Rattle.std.proofs.ByRecursion.{All-push}
use Rattle.std.proofs.lemmas.Iterator.Adapters.{position_from-zero}
use Rattle.std.proofs.lemmas.List.{append-nil, length_push}
use Rattle.std.proofs.lemmas.Bool.{cond_both}
use Rattle.keys.specs.Found.{first_same, FirstSame}

module _ {K : Type 0} (same : K → K → Bool) (key : K) where
  -- behind n keys that are not the same
  first_behind : (earlier xs : List K) (n : ℕ) → length earlier ≡ n → AllByRecursion (λ x. same x key ≡ false) earlier → FirstSame same key (earlier ++ xs) (position_from (λ x. same x key) n xs)
  first_behind earlier [] n long none = rw (append-nil earlier) none
  first_behind earlier (x ∷ xs) n long none =
      cond_both (same x key) (Some n) (position_from (λ y. same y key) (n + 1) xs) (FirstSame same key (earlier ++ (x ∷ xs)))
      (λ here. (earlier, x, xs, refl, long, none, here))
      (λ not_here.
      subst (λ held. FirstSame same key held (position_from (λ y. same y key) (n + 1) xs)) (append_assoc earlier (x ∷ []) xs)
      (first_behind (earlier ++ (x ∷ [])) xs (n + 1) (length_push earlier x ∙ ap (λ m. m + 1) long) (All-push (λ y. same y key ≡ false) earlier x none not_here)))

  pub means_first : (held : List K) (r : Option ℕ) → r ≡ first_same same key held → FirstSame same key held r
  means_first held r e = subst (FirstSame same key held) (sym (e ∙ position_from-zero (λ x. same x key) held)) (first_behind [] held 0 refl tt)
