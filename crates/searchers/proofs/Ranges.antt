-- The place after a group's last row.
use Rattle.std.proofs.Common.{◌≡◌, ℕ, ◌+◌, ◌-◌, ◌<◌, cond, eqb, List, [], ◌∷◌, ◌++◌, length, sym, refl, ap, ◌∙◌, subst, inl, inr, arith}
use Rattle.std.proofs.lemmas.List.{append_assoc, append-nil, length_push, get_or_push, get_or_append_left}
use Rattle.std.proofs.lemmas.Bool.{cases_lt, cases_order, cond_both, eqb-true, eqb-false}
use Rattle.searchers.specs.Groups.{after_last, AfterLast}

module _ (g : ℕ) where
  holds_here : (done : List ℕ) (x i : ℕ) → length done ≡ i → x ≡ g → AfterLast g (done ++ (x ∷ [])) (i + 1)
  holds_here done x i long is = record {
    within = omega (arith, length_push done x, long);
    last = λ _. get_or_push done x 256 (i + 1 - 1) (omega (arith, long)) ∙ is;
    none = λ j l m _. omega (arith, length_push done x, long);
  }

  not_here : (done : List ℕ) (x e : ℕ) → AfterLast g done e → (x ≡ g → ⊥) → AfterLast g (done ++ (x ∷ [])) e
  not_here done x e old differs = record {
    within = omega (arith, length_push done x, old.within);
    last = λ some. get_or_append_left done (x ∷ []) 256 (e - 1) (omega (arith, old.within)) ∙ old.last some;
    none = λ j l m is.
        elim (cases_lt j (length done)) [
          | inl before ↦ old.none j l before (sym (get_or_append_left done (x ∷ []) 256 j before) ∙ is)
          | inr past ↦ (let here : length done ≡ j = omega (arith, length_push done x) in differs (sym (get_or_push done x 256 j here) ∙ is))
        ];
  }

  after_on : (xs done : List ℕ) (i e : ℕ) → length done ≡ i → AfterLast g done e → AfterLast g (done ++ xs) (after_last g i e xs)
  after_on [] done i e long old = subst (λ l. AfterLast g l e) (sym (append-nil done)) old
  after_on (x ∷ xs) done i e long old =
      let next : AfterLast g (done ++ (x ∷ [])) (cond (eqb x g) (i + 1) e) =
      cond_both (eqb x g) (i + 1) e (AfterLast g (done ++ (x ∷ []))) (λ t. holds_here done x i long (eqb-true x g t)) (λ f. not_here done x e old (eqb-false x g f))
      in
      subst (λ l. AfterLast g l (after_last g (i + 1) (cond (eqb x g) (i + 1) e) xs)) (append_assoc done (x ∷ []) xs)
      (after_on xs (done ++ (x ∷ [])) (i + 1) (cond (eqb x g) (i + 1) e) (length_push done x ∙ ap (λ n. n + 1) long) next)

  -- the scan's answer is such a place
  pub means_after_last : (ids : List ℕ) (e : ℕ) → e ≡ after_last g 0 0 ids → AfterLast g ids e
  means_after_last ids e is = subst (AfterLast g ids) (sym is) (after_on ids [] 0 0 refl (record { within = omega arith; last = λ some. absurd (omega arith); none = λ j l m _. omega arith }))

  not_before : (ids : List ℕ) (d e : ℕ) → AfterLast g ids d → AfterLast g ids e → d < e → ⊥
  not_before ids d e at_d at_e l = at_d.none (e - 1) (omega arith) (omega (arith, at_e.within)) (at_e.last (omega arith))

  -- there is one such place
  pub is_after_last : (ids : List ℕ) (e : ℕ) → AfterLast g ids e → e ≡ after_last g 0 0 ids
  is_after_last ids e at =
      let scanned : AfterLast g ids (after_last g 0 0 ids) = means_after_last ids _ refl in
      elim (cases_order e (after_last g 0 0 ids)) [
        | inl same ↦ same
        | inr differs ↦ elim differs [
          | inl before ↦ absurd (not_before ids e _ at scanned before)
          | inr after ↦ absurd (not_before ids _ e scanned at after)
        ]
      ]
