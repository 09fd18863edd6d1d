-- The order check: one row on, and what its answer means.
use Rattle.std.proofs.Common.{◌≡◌, ℕ, zero, suc, ◌+◌, ◌<◌, Bool, true, false, cond, List, [], ◌∷◌, length, get_or, drop, Some, None, Option, sym, refl, ap, ◌∙◌, subst, arith}
use Rattle.std.proofs.lemmas.List.{drop_more}
use Rattle.std.proofs.lemmas.Bool.{cond-true, cond-false, cond_both}
use Rattle.searchers.specs.Order.{falls, first_fall, key_before, FirstFall}

module _ {K : Type 0} (low : K → K → Bool) (before : Option K) (keys : List K) (i : ℕ) (key : K) (within : i < length keys) (read : key ≡ get_or keys i key) where
  at_key : first_fall low before i (drop i keys) ≡ cond (falls low before key) (Some i) (first_fall low (Some key) (i + 1) (drop (i + 1) keys))
  at_key = ap (first_fall low before i) (drop_more keys i key within ∙ ap (λ k. k ∷ drop (i + 1) keys) (sym read))

  pub fall_here : falls low before key ≡ true → first_fall low before i (drop i keys) ≡ Some i
  fall_here e = at_key ∙ cond-true (falls low before key) (Some i) _ e

  pub no_fall_here : falls low before key ≡ false → first_fall low before i (drop i keys) ≡ first_fall low (Some key) (i + 1) (drop (i + 1) keys)
  no_fall_here e = at_key ∙ cond-false (falls low before key) (Some i) _ e

-- what the answer of the check means
module _ {K : Type 0} (low : K → K → Bool) where
  abbrev FirstFallFrom : Option K → ℕ → List K → Option ℕ → Type 0
  FirstFallFrom last i keys None = FirstFall low last keys None
  FirstFallFrom last i keys (Some m) = (n : ℕ) × (m ≡ i + n) × FirstFall low last keys (Some n)

  key_on : (key : K) (keys : List K) (j : ℕ) (d : K) → key_before (Some key) keys j d ≡ key_before None (key ∷ keys) (suc j) d
  key_on key keys zero d = refl
  key_on key keys (suc j) d = refl

  fall_on : (last : Option K) (i : ℕ) (key : K) (keys : List K) (r : Option ℕ) → falls low last key ≡ false → FirstFallFrom (Some key) (i + 1) keys r → FirstFallFrom last i (key ∷ keys) r
  fall_on last i key keys None e t = λ j d l.
      (elim j as (λ j. j < suc (length keys) → falls low (key_before last (key ∷ keys) j d) (get_or (key ∷ keys) j d) ≡ false) [
        | zero ↦ λ _. e
        | suc k ↦ λ m. ap (λ b. falls low b (get_or keys k d)) (sym (key_on key keys k d)) ∙ t k d (omega arith)
      ]) l
  fall_on last i key keys (Some m) e t = (
    suc t.0,
    omega (arith, t.1),
    (
      omega (arith, t.2.0),
      λ d. ap (λ b. falls low b (get_or keys t.0 d)) (sym (key_on key keys t.0 d)) ∙ t.2.1 d,
      λ j d l.
          (elim j as (λ j. j < suc t.0 → falls low (key_before last (key ∷ keys) j d) (get_or (key ∷ keys) j d) ≡ false) [
            | zero ↦ λ _. e
            | suc k ↦ λ m. ap (λ b. falls low b (get_or keys k d)) (sym (key_on key keys k d)) ∙ t.2.2 k d (omega arith)
          ]) l,
    ),
  )

  first_falls : (last : Option K) (i : ℕ) (keys : List K) → FirstFallFrom last i keys (first_fall low last i keys)
  first_falls last i [] = λ j d l. absurd (omega arith)
  first_falls last i (key ∷ keys) =
      cond_both (falls low last key) (Some i) (first_fall low (Some key) (i + 1) keys) (FirstFallFrom last i (key ∷ keys))
      (λ e. (0, omega arith, (omega arith, λ d. e, λ j d l. absurd (omega arith))))
      (λ e. fall_on last i key keys (first_fall low (Some key) (i + 1) keys) e (first_falls (Some key) (i + 1) keys))

  from_start : (last : Option K) (keys : List K) (r : Option ℕ) → FirstFallFrom last 0 keys r → FirstFall low last keys r
  from_start last keys None t = t
  from_start last keys (Some m) t = let is : t.0 ≡ m = omega (arith, t.1) in subst (λ n. FirstFall low last keys (Some n)) is t.2

  pub means_first_fall : (last : Option K) (keys : List K) (r : Option ℕ) → r ≡ first_fall low last 0 keys → FirstFall low last keys r
  means_first_fall last keys r e = subst (FirstFall low last keys) (sym e) (from_start last keys (first_fall low last 0 keys) (first_falls last 0 keys))
