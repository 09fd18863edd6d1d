-- The waiting rows of one key, written to again and again.
use Rattle.std.proofs.Common.{◌≡◌, ℕ, true, false, eqb, List, map, sym, ap, ◌∙◌, ⊎_elim}
use mathlib.Core.Path.{fun_ext}
use mathlib.Core.List.{map-map}
use Rattle.std.proofs.lemmas.List.{map-id}
use Rattle.std.proofs.lemmas.Bool.{cases_Bool, cond-true, cond-false}
use Rattle.searchers.specs.declared.rows.Waiting.{Waiting}
use Rattle.aggregates.specs.Writing.{rewritten, all_rewritten}

module _ {K R : Type 0} (p : ℕ) where
  pub at_place : (f : ℕ → R → R) (w : Waiting K R) → eqb w.place p ≡ true → rewritten p f w ≡ record { row = w.row; place = w.place; rank = w.rank; results = f w.rank w.results }
  at_place f w e = cond-true (eqb w.place p) _ w e

  pub elsewhere : (f : ℕ → R → R) (w : Waiting K R) → eqb w.place p ≡ false → rewritten p f w ≡ w
  elsewhere f w e = cond-false (eqb w.place p) _ w e

  twice : (f h : ℕ → R → R) (w : Waiting K R) → rewritten p f (rewritten p h w) ≡ rewritten p (λ i r. f i (h i r)) w
  twice f h w =
      ⊎_elim
      (λ (e : eqb w.place p ≡ true). ap (rewritten p f) (at_place h w e) ∙ at_place f _ e ∙ sym (at_place (λ i r. f i (h i r)) w e))
      (λ (e : eqb w.place p ≡ false). ap (rewritten p f) (elsewhere h w e) ∙ elsewhere f w e ∙ sym (elsewhere (λ i r. f i (h i r)) w e))
      (cases_Bool (eqb w.place p))

  unchanged : (w : Waiting K R) → rewritten p (λ i r. r) w ≡ w
  unchanged w = ⊎_elim (at_place (λ i r. r) w) (elsewhere (λ i r. r) w) (cases_Bool (eqb w.place p))

  -- two writes are one
  pub all_twice : (f h both : ℕ → R → R) → ((i : ℕ) (r : R) → f i (h i r) ≡ both i r) → (ws : List (Waiting K R)) → all_rewritten p f (all_rewritten p h ws) ≡ all_rewritten p both ws
  all_twice f h both e ws = map-map (rewritten p f) (rewritten p h) ws ∙ ap (λ (change : Waiting K R → Waiting K R). map change ws) (fun_ext (twice f h)) ∙ ap (λ change. all_rewritten p change ws) (fun_ext (λ i. fun_ext (e i)))

  pub all_unchanged : (f : ℕ → R → R) → ((i : ℕ) (r : R) → f i r ≡ r) → (ws : List (Waiting K R)) → all_rewritten p f ws ≡ ws
  all_unchanged f e ws = ap (λ change. all_rewritten p change ws) (fun_ext (λ i. fun_ext (e i))) ∙ ap (λ (change : Waiting K R → Waiting K R). map change ws) (fun_ext unchanged) ∙ map-id ws
