-- Places among different keys, and one key more.
use Rattle.std.proofs.Common.{◌≡◌, suc, ◌<◌, ◌≤◌, Bool, true, false, cond, List, [], ◌∷◌, ◌++◌, length, get_or, sym, refl, ap, ◌∙◌, inl, inr, arith}
use Rattle.std.proofs.lemmas.List.{length_push}
use Rattle.std.proofs.lemmas.Bool.{cases_Bool, cases_lt, both_ways}
use Rattle.std.specs.Cmp.{IsEquivalence}
use Rattle.searchers.specs.Groups.{place, noticed}
use Rattle.searchers.proofs.Places.{noticed_new, noticed_old}

module _ {K : Type 0} (same : K → K → Bool) where
  pub place_by : (k s : K) (ss : List K) (b : Bool) → same s k ≡ b → place same k (s ∷ ss) ≡ cond b 0 (suc (place same k ss))
  place_by k s ss b t = ap (λ z. cond z 0 (suc (place same k ss))) t

  pub place_le : (k : K) (ss : List K) → place same k ss ≤ length ss
  place_le k [] = omega arith
  place_le k (s ∷ ss) =
      let ih = place_le k ss in
      elim (cases_Bool (same s k)) [ inl t ↦ omega (arith, place_by k s ss true t) | inr f ↦ omega (arith, place_by k s ss false f) ]

  pub place_same : (k : K) (ss : List K) (d : K) → place same k ss < length ss → same (get_or ss (place same k ss) d) k ≡ true
  place_same k [] d h = absurd (omega arith)
  place_same k (s ∷ ss) d h =
      elim (cases_Bool (same s k)) [
        | inl t ↦ ap (λ p. same (get_or (s ∷ ss) p d) k) (place_by k s ss true t) ∙ t
        | inr f ↦
            let g : place same k ss < length ss = omega (arith, place_by k s ss false f) in
            ap (λ p. same (get_or (s ∷ ss) p d) k) (place_by k s ss false f) ∙ place_same k ss d g
      ]

  place_more : (k : K) (ss more : List K) → place same k ss < length ss → place same k (ss ++ more) ≡ place same k ss
  place_more k [] more h = absurd (omega arith)
  place_more k (s ∷ ss) more h =
      elim (cases_Bool (same s k)) [
        | inl t ↦ place_by k s (ss ++ more) true t ∙ sym (place_by k s ss true t)
        | inr f ↦
            let g : place same k ss < length ss = omega (arith, place_by k s ss false f) in
            place_by k s (ss ++ more) false f ∙ ap suc (place_more k ss more g) ∙ sym (place_by k s ss false f)
      ]

  place_last : (k : K) (ss : List K) → same k k ≡ true → place same k ss ≡ length ss → place same k (ss ++ k ∷ []) ≡ length ss
  place_last k [] own e = place_by k k [] true own
  place_last k (s ∷ ss) own e =
      elim (cases_Bool (same s k)) [
        | inl t ↦ absurd (omega (arith, place_by k s ss true t))
        | inr f ↦
            let g : place same k ss ≡ length ss = omega (arith, place_by k s ss false f) in
            place_by k s (ss ++ k ∷ []) false f ∙ ap suc (place_last k ss own g)
      ]

  module _ (k : K) (ss : List K) where
    pub noticed_grows : length ss ≤ length (noticed same k ss)
    noticed_grows =
        elim (cases_lt (place same k ss) (length ss)) [
          | inl old ↦ omega (arith, ap length (noticed_old same k ss old))
          | inr new ↦ omega (arith, ap length (noticed_new same k ss (omega (arith, place_le k ss))), length_push ss k)
        ]

    -- a key that was seen keeps its place
    pub place_stays : (j : K) → place same j ss < length ss → place same j (noticed same k ss) ≡ place same j ss
    place_stays j h =
        elim (cases_lt (place same k ss) (length ss)) [
          | inl old ↦ ap (place same j) (noticed_old same k ss old)
          | inr new ↦ ap (place same j) (noticed_new same k ss (omega (arith, place_le k ss))) ∙ place_more j ss (k ∷ []) h
        ]

    -- a new key stands where it was looked for
    pub place_own : same k k ≡ true → place same k (noticed same k ss) ≡ place same k ss
    place_own own =
        elim (cases_lt (place same k ss) (length ss)) [
          | inl old ↦ ap (place same k) (noticed_old same k ss old)
          | inr new ↦
              let e : place same k ss ≡ length ss = omega (arith, place_le k ss) in
              ap (place same k) (noticed_new same k ss e) ∙ place_last k ss own e ∙ sym e
        ]

    pub place_noticed : place same k ss < length (noticed same k ss)
    place_noticed =
        elim (cases_lt (place same k ss) (length ss)) [
          | inl old ↦ omega (arith, noticed_grows)
          | inr new ↦ omega (arith, place_le k ss, ap length (noticed_new same k ss (omega (arith, place_le k ss))), length_push ss k)
        ]

  module _ (equality : IsEquivalence same) where
    pub same_alike : (s k : K) → same s k ≡ true → (e : K) → same e k ≡ same e s
    same_alike s k t e =
        elim (cases_Bool (same e s)) [
          | inl u ↦ (equality.congr e s k u ∙ t) ∙ sym u
          | inr f ↦
              elim (cases_Bool (same e k)) [
                | inl u ↦ absurd (both_ways (same e s) f (equality.congr e k s u ∙ equality.symm k s ∙ t))
                | inr g ↦ g ∙ sym f
              ]
        ]

    pub place_alike : (s k : K) → same s k ≡ true → (ss : List K) → place same k ss ≡ place same s ss
    place_alike s k t [] = refl
    place_alike s k t (e ∷ ss) =
        ap (λ n. cond (same e k) 0 (suc n)) (place_alike s k t ss) ∙ ap (λ b. cond b 0 (suc (place same s ss))) (same_alike s k t e)
