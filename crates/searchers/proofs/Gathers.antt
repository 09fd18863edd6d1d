-- One row more of a batch that is being grouped.
use Rattle.std.proofs.Common.{◌≡◌, ℕ, ◌+◌, ◌<◌, ◌≤◌, Bool, true, false, cond, ltb, List, [], ◌∷◌, ◌++◌, length, get_or, drop, sym, refl, ap, ◌∙◌, arith}
use Rattle.std.proofs.lemmas.List.{append_assoc, append-nil, at_drop_more, drop_all, length_push}
use Rattle.searchers.specs.Groups.{place, noticed, group_ids, group_firsts, by_numbers, grouped}
use Rattle.searchers.specs.Table.{picked}
use Rattle.searchers.proofs.Places.{picked_push}

pub some_key : {K : Type 0} (ks : List K) → 0 < length ks → K
some_key [] h = absurd (omega arith)
some_key (k ∷ ks) h = k

cond_append : (b : Bool) (ps R : List ℕ) (i : ℕ) → ps ++ cond b R (i ∷ R) ≡ cond b ps (ps ++ (i ∷ [])) ++ R
cond_append true ps R i = refl
cond_append false ps R i = sym (append_assoc ps (i ∷ []) R)

one_more : (b : Bool) (ps : List ℕ) (i : ℕ) → length ps ≤ i → length (cond b ps (ps ++ (i ∷ []))) ≤ i + 1
one_more true ps i few = omega arith
one_more false ps i few = omega (arith, length_push ps i)

module _ {K : Type 0} (same : K → K → Bool) where
  pub picked_noticed : (ks : List K) (ps : List ℕ) (i r : ℕ) (d : K) → i < length ks → r ≡ place same (get_or ks i d) (picked ks ps) → length (picked ks ps) ≡ length ps → picked ks (cond (ltb r (length ps)) ps (ps ++ (i ∷ []))) ≡ noticed same (get_or ks i d) (picked ks ps)
  picked_noticed ks ps i r d l e long =
      let either : (b : Bool) → picked ks (cond b ps (ps ++ (i ∷ []))) ≡ cond b (picked ks ps) (picked ks ps ++ (get_or ks i d ∷ [])) =
      λ b. elim b as (λ b. picked ks (cond b ps (ps ++ (i ∷ []))) ≡ cond b (picked ks ps) (picked ks ps ++ (get_or ks i d ∷ []))) [ true ↦ refl | false ↦ picked_push ks ps i d l ]
      in
      either (ltb r (length ps)) ∙ ap (λ b. cond b (picked ks ps) (picked ks ps ++ (get_or ks i d ∷ []))) (ap (λ n. ltb n (length ps)) e ∙ ap (ltb (place same (get_or ks i d) (picked ks ps))) (sym long))

  -- what holds of a batch after i rows, whose different keys are seen: the groups of these rows and their first rows go on to the batch's
  pub record Gathering (ks seen : List K) (ids firsts : List ℕ) (i : ℕ) : Type 0 where
    pub placed : length ids ≡ i
    pub few : length firsts ≤ i
    pub has_ids : ids ++ group_ids same seen (drop i ks) ≡ group_ids same [] ks
    pub has_firsts : firsts ++ group_firsts same seen i (drop i ks) ≡ group_firsts same [] 0 ks

  pub nothing_gathered : (ks : List K) → Gathering ks [] [] [] 0
  nothing_gathered ks = record { placed = refl; few = omega arith; has_ids = refl; has_firsts = refl }

  pub gathered_on : {ks seen : List K} {ids firsts : List ℕ} {i : ℕ} → Gathering ks seen ids firsts i → (r : ℕ) (d : K) → i < length ks → r ≡ place same (get_or ks i d) seen → length seen ≡ length firsts
      → Gathering ks (noticed same (get_or ks i d) seen) (ids ++ (r ∷ [])) (cond (ltb r (length firsts)) firsts (firsts ++ (i ∷ []))) (i + 1)
  gathered_on {ks} {seen} {ids} {firsts} {i} g r d l e long =
      let key = get_or ks i d in
      let ids_on = group_ids same (noticed same key seen) (drop (i + 1) ks) in
      let firsts_on = group_firsts same (noticed same key seen) (i + 1) (drop (i + 1) ks) in
      record {
        placed = length_push ids r ∙ ap (λ n. n + 1) g.placed;
        few = one_more (ltb r (length firsts)) firsts i g.few;
        has_ids = append_assoc ids (r ∷ []) ids_on ∙ ap (λ n. ids ++ (n ∷ ids_on)) e ∙ ap (λ xs. ids ++ xs) (sym (at_drop_more (group_ids same seen) ks i d l)) ∙ g.has_ids;
        has_firsts =
            sym (cond_append (ltb r (length firsts)) firsts firsts_on i)
            ∙ ap (λ b. firsts ++ cond b firsts_on (i ∷ firsts_on)) (ap (λ n. ltb n (length firsts)) e ∙ ap (ltb (place same key seen)) (sym long))
            ∙ ap (λ xs. firsts ++ xs) (sym (at_drop_more (group_firsts same seen i) ks i d l))
            ∙ g.has_firsts;
      }

  pub gathered : {ks seen : List K} {ids firsts : List ℕ} {i : ℕ} → Gathering ks seen ids firsts i → length ks ≤ i → by_numbers ids firsts ≡ grouped same ks
  gathered {ks} {seen} {ids} {firsts} {i} g past =
      let rest = drop_all i ks past in
      let all_ids : ids ≡ group_ids same [] ks = sym (append-nil ids) ∙ ap (λ x. ids ++ group_ids same seen x) (sym rest) ∙ g.has_ids in
      let all_firsts : firsts ≡ group_firsts same [] 0 ks = sym (append-nil firsts) ∙ ap (λ x. firsts ++ group_firsts same seen i x) (sym rest) ∙ g.has_firsts in
      λ j. by_numbers (all_ids j) (all_firsts j)
