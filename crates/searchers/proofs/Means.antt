-- What the numbers of groups mean.
use Rattle.std.proofs.Common.{◌≡◌, ℕ, zero, suc, ◌+◌, ◌-◌, ◌<◌, ◌≤◌, Bool, true, false, cond, eqb, ltb, List, [], ◌∷◌, ◌++◌, map, length, get_or, replicate, sym, refl, ap, ◌∙◌, subst, inl, inr, suc-le-suc, zero-le, arith}
use Rattle.std.specs.Cmp.{IsEquivalence}
use Rattle.std.proofs.lemmas.List.{length_push, get_or-map, get_or_append_left}
use Rattle.std.proofs.lemmas.Bool.{cases_Bool, both_ways, eq-eqb, ne_eqb, cond_both, ltb-true, ltb-false}
use Rattle.searchers.proofs.Gathers.{some_key}
use Rattle.searchers.specs.declared.groups.Groups.{Groups}
use Rattle.searchers.specs.Groups.{place, noticed, group_ids, group_firsts, padded, grouped, GroupsOf}

-- the first rows of groups, where rows are counted on from i and n groups stand before them
pub record Firsts (n i : ℕ) (ids firsts : List ℕ) : Type 0 where
  pub at : (j : ℕ) → j < length firsts
      → (i ≤ get_or firsts j 256) × (get_or firsts j 256 < i + length ids) × (get_or ids (get_or firsts j 256 - i) 256 ≡ n + j) × ((h : ℕ) → h < get_or firsts j 256 - i → get_or ids h 256 < n + j)

-- one row more in front: of a group that stands before, or of a new one
old_first : (n i p : ℕ) (ids firsts : List ℕ) → p < n → Firsts n (i + 1) ids firsts → Firsts n i (p ∷ ids) firsts
old_first n i p ids firsts old rest = record {
  at = λ j l.
      (let t = rest.at j l in
      let f = get_or firsts j 256 in
      let on : f - i ≡ suc (f - (i + 1)) = omega (arith, t.0) in (
        omega (arith, t.0),
        omega (arith, t.1),
        rw on t.2,
        λ h m. (elim h as (λ h. h < f - i → get_or (p ∷ ids) h 256 < n + j) [ zero ↦ λ _. omega arith | suc k ↦ λ m. t.3 k (omega (arith, on)) ]) m,
      ));
}

new_first : (n i : ℕ) (ids firsts : List ℕ) → Firsts (n + 1) (i + 1) ids firsts → Firsts n i (n ∷ ids) (i ∷ firsts)
new_first n i ids firsts rest = record {
  at = λ j l.
      (elim j as (λ j. j < suc (length firsts) → (i ≤ get_or (i ∷ firsts) j 256) × (get_or (i ∷ firsts) j 256 < i + suc (length ids)) × (get_or (n ∷ ids) (get_or (i ∷ firsts) j 256 - i) 256 ≡ n + j) × ((h : ℕ) → h < get_or (i ∷ firsts) j 256 - i → get_or (n ∷ ids) h 256 < n + j)) [
        | zero ↦ λ _.
            (let none : i - i ≡ 0 = omega arith in
            (omega arith, omega arith, rw none (omega arith), λ h m. absurd (omega arith)))
        | suc k ↦ λ m.
            (let t = rest.at k (omega arith) in
            let f = get_or firsts k 256 in
            let on : f - i ≡ suc (f - (i + 1)) = omega (arith, t.0) in
            let here : get_or (n ∷ ids) (f - i) 256 ≡ n + 1 + k = rw on t.2 in (
              omega (arith, t.0),
              omega (arith, t.1),
              omega (arith, here),
              λ h o. (elim h as (λ h. h < f - i → get_or (n ∷ ids) h 256 < n + suc k) [ zero ↦ λ _. omega arith | suc b ↦ λ q. omega (arith, t.3 b (omega (arith, on))) ]) o,
            ))
      ]) l;
}

module _ {K : Type 0} (same : K → K → Bool) where
  place_le : (key : K) (seen : List K) → place same key seen ≤ length seen
  place_le key [] = zero-le
  place_le key (s ∷ seen) = elim (same s key) as (λ b. cond b 0 (suc (place same key seen)) ≤ suc (length seen)) [ true ↦ zero-le | false ↦ suc-le-suc (place_le key seen) ]

  -- a key's place among more keys
  place_more : (key : K) (seen more : List K) → place same key seen < length seen → place same key (seen ++ more) ≡ place same key seen
  place_more key [] more l = absurd (omega arith)
  place_more key (s ∷ seen) more l =
      (elim (same s key) as (λ b. cond b 0 (suc (place same key seen)) < suc (length seen) → cond b 0 (suc (place same key (seen ++ more))) ≡ cond b 0 (suc (place same key seen))) [ true ↦ λ _. refl | false ↦ λ m. ap suc (place_more key seen more (omega arith)) ]) l

  place_past : (key : K) (seen more : List K) → place same key seen ≡ length seen → place same key (seen ++ more) ≡ length seen + place same key more
  place_past key [] more e = omega arith
  place_past key (s ∷ seen) more e =
      (elim (same s key) as (λ b. cond b 0 (suc (place same key seen)) ≡ suc (length seen) → cond b 0 (suc (place same key (seen ++ more))) ≡ suc (length seen) + place same key more) [
        | true ↦ λ m. absurd (omega arith)
        | false ↦ λ m. omega (arith, place_past key seen more (omega arith))
      ]) e

  -- the key at a key's place is the same
  place_holds : (key : K) (seen : List K) (d : K) → place same key seen < length seen → same (get_or seen (place same key seen) d) key ≡ true
  place_holds key [] d l = absurd (omega arith)
  place_holds key (s ∷ seen) d l =
      (elim (same s key) as (λ b. same s key ≡ b → cond b 0 (suc (place same key seen)) < suc (length seen) → same (get_or (s ∷ seen) (cond b 0 (suc (place same key seen))) d) key ≡ true) [
        | true ↦ λ e m. e
        | false ↦ λ e m. place_holds key seen d (omega arith)
      ]) refl l

  -- all the different keys, at the end
  abbrev all_noticed : List K → List K → List K
  all_noticed seen [] = seen
  all_noticed seen (key ∷ keys) = all_noticed (noticed same key seen) keys

  module _ (equality : IsEquivalence same) where
    same_right : (x a b : K) → same a b ≡ true → same x a ≡ same x b
    same_right x a b e =
        elim (cases_Bool (same x a)) [
          | inl t ↦ t ∙ sym (equality.congr x a b t ∙ e)
          | inr f ↦ elim (cases_Bool (same x b)) [ inl t ↦ absurd (both_ways _ f (equality.congr x b a t ∙ equality.symm b a ∙ e)) | inr g ↦ f ∙ sym g ]
        ]

    place_same : (a b : K) (seen : List K) → same a b ≡ true → place same a seen ≡ place same b seen
    place_same a b [] e = refl
    place_same a b (s ∷ seen) e = ap (λ t. cond t 0 (suc (place same a seen))) (same_right s a b e) ∙ ap (λ n. cond (same s b) 0 (suc n)) (place_same a b seen e)

    placed_once : (a b : K) (seen : List K) → place same a seen < length seen → place same b seen < length seen → eqb (place same a seen) (place same b seen) ≡ same a b
    placed_once a b seen l m =
        elim (cases_Bool (same a b)) [
          | inl t ↦ eq-eqb _ _ (place_same a b seen t) ∙ sym t
          | inr f ↦ ne_eqb _ _ (λ e.
              both_ways _ f (equality.congr a _ b (equality.symm a _ ∙ place_holds a seen a l) ∙ (subst (λ n. same (get_or seen n a) b ≡ true) (sym e) (place_holds b seen a m)))) ∙ sym f
        ]

    -- a key that is noticed has its place from then on
    noticed_place : (key : K) (seen : List K) → (place same key (noticed same key seen) ≡ place same key seen) × (place same key seen < length (noticed same key seen))
    noticed_place key seen =
        cond_both (ltb (place same key seen) (length seen)) seen (seen ++ (key ∷ [])) (λ xs. (place same key xs ≡ place same key seen) × (place same key seen < length xs))
        (λ e. (refl, ltb-true _ _ e))
        (λ e.
        (let le = place_le key seen in
        let past : place same key seen ≡ length seen = omega (arith, ltb-false (place same key seen) (length seen) e) in
        let here : place same key (key ∷ []) ≡ 0 = ap (λ b. cond b 0 1) (equality.refl key) in
        (omega (arith, place_past key seen (key ∷ []) past, here), omega (arith, length_push seen key))))

    noticed_more : (key other : K) (seen : List K) → place same key seen < length seen → (place same key (noticed same other seen) ≡ place same key seen) × (length seen ≤ length (noticed same other seen))
    noticed_more key other seen l =
        cond_both (ltb (place same other seen) (length seen)) seen (seen ++ (other ∷ [])) (λ xs. (place same key xs ≡ place same key seen) × (length seen ≤ length xs))
        (λ e. (refl, omega arith))
        (λ e. (place_more key seen (other ∷ []) l, omega (arith, length_push seen other)))

    all_more : (key : K) (seen keys : List K) → place same key seen < length seen → (place same key (all_noticed seen keys) ≡ place same key seen) × (place same key seen < length (all_noticed seen keys))
    all_more key seen [] l = (refl, l)
    all_more key seen (k ∷ keys) l =
        let on = noticed_more key k seen l in
        let rest = all_more key (noticed same k seen) keys (omega (arith, on.0, on.1)) in
        (rest.0 ∙ on.0, omega (arith, rest.1, on.0))

    ids_are : (seen keys : List K) → group_ids same seen keys ≡ map (λ k. place same k (all_noticed seen keys)) keys
    ids_are seen [] = refl
    ids_are seen (k ∷ keys) =
        let on = noticed_place k seen in
        let last = all_more k (noticed same k seen) keys (omega (arith, on.0, on.1)) in
        let here : place same k seen ≡ place same k (all_noticed (noticed same k seen) keys) = sym (last.0 ∙ on.0) in
        λ j. here j ∷ ids_are (noticed same k seen) keys j

    all_placed : (seen keys : List K) (i : ℕ) (d : K) → i < length keys → place same (get_or keys i d) (all_noticed seen keys) < length (all_noticed seen keys)
    all_placed seen [] i d l = absurd (omega arith)
    all_placed seen (k ∷ keys) zero d l =
        let on = noticed_place k seen in
        let last = all_more k (noticed same k seen) keys (omega (arith, on.0, on.1)) in
        omega (arith, last.0, last.1)
    all_placed seen (k ∷ keys) (suc i) d l = all_placed (noticed same k seen) keys i d (omega arith)

  -- the groups counted are the different keys
  count_is : (seen : List K) (i : ℕ) (keys : List K) → length seen + length (group_firsts same seen i keys) ≡ length (all_noticed seen keys)
  count_is seen i [] = omega arith
  count_is seen i (k ∷ keys) =
      let rest = count_is (noticed same k seen) (i + 1) keys in
      (elim (ltb (place same k seen) (length seen)) as (λ b. length (cond b seen (seen ++ (k ∷ []))) + length (group_firsts same (noticed same k seen) (i + 1) keys) ≡ length (all_noticed (noticed same k seen) keys) → length seen + length (cond b (group_firsts same (noticed same k seen) (i + 1) keys) (i ∷ group_firsts same (noticed same k seen) (i + 1) keys)) ≡ length (all_noticed (noticed same k seen) keys)) [
        | true ↦ λ e. e
        | false ↦ λ e. omega (arith, e, length_push seen k)
      ]) rest

  first_on : (key : K) (seen : List K) (i : ℕ) (ids firsts : List ℕ) (b : Bool) → ltb (place same key seen) (length seen) ≡ b → Firsts (length (cond b seen (seen ++ (key ∷ [])))) (i + 1) ids firsts → Firsts (length seen) i (place same key seen ∷ ids) (cond b firsts (i ∷ firsts))
  first_on key seen i ids firsts true e rest = old_first (length seen) i (place same key seen) ids firsts (ltb-true _ _ e) rest
  first_on key seen i ids firsts false e rest =
      let past : length seen ≡ place same key seen = omega (arith, place_le key seen, ltb-false (place same key seen) (length seen) e) in
      subst (λ p. Firsts (length seen) i (p ∷ ids) (i ∷ firsts)) past (new_first (length seen) i ids firsts (subst (λ n. Firsts n (i + 1) ids firsts) (length_push seen key) rest))

  firsts_are : (seen : List K) (i : ℕ) (keys : List K) → Firsts (length seen) i (group_ids same seen keys) (group_firsts same seen i keys)
  firsts_are seen i [] = record { at = λ j l. absurd (omega arith) }
  firsts_are seen i (key ∷ keys) =
      first_on key seen i (group_ids same (noticed same key seen) keys) (group_firsts same (noticed same key seen) (i + 1) keys) (ltb (place same key seen) (length seen)) refl (firsts_are (noticed same key seen) (i + 1) keys)

  length_ids : (seen keys : List K) → length (group_ids same seen keys) ≡ length keys
  length_ids seen [] = refl
  length_ids seen (key ∷ keys) = ap suc (length_ids (noticed same key seen) keys)

  module _ (equality : IsEquivalence same) (keys : List K) where
    id_at : (i : ℕ) (d : K) → i < length keys → get_or (padded (group_ids same [] keys)) i 256 ≡ place same (get_or keys i d) (all_noticed [] keys)
    id_at i d l =
        get_or_append_left (group_ids same [] keys) _ 256 i (omega (arith, length_ids [] keys))
        ∙ ap (λ xs. get_or xs i 256) (ids_are equality [] keys)
        ∙ get_or-map (λ k. place same k (all_noticed [] keys)) keys i d 256 l

    together : (i j : ℕ) (d : K) → i < length keys → j < length keys → eqb (get_or (padded (group_ids same [] keys)) i 256) (get_or (padded (group_ids same [] keys)) j 256) ≡ same (get_or keys i d) (get_or keys j d)
    together i j d l m =
        (λ t. eqb (id_at i d l t) (id_at j d m t))
        ∙ placed_once equality (get_or keys i d) (get_or keys j d) (all_noticed [] keys) (all_placed equality [] keys i d l) (all_placed equality [] keys j d m)

    within : (i : ℕ) → i < length keys → get_or (padded (group_ids same [] keys)) i 256 < length (group_firsts same [] 0 keys)
    within i l =
        let d = some_key keys (omega arith) in
        omega (arith, id_at i d l, all_placed equality [] keys i d l, count_is [] 0 keys)

    first : (g : ℕ) → g < length (group_firsts same [] 0 keys)
        → (get_or (padded (group_firsts same [] 0 keys)) g 256 < length keys)
        × (get_or (padded (group_ids same [] keys)) (get_or (padded (group_firsts same [] 0 keys)) g 256) 256 ≡ g)
        × ((i : ℕ) → i < get_or (padded (group_firsts same [] 0 keys)) g 256 → get_or (padded (group_ids same [] keys)) i 256 < g)
    first g l =
        let ids = group_ids same [] keys in
        let firsts = group_firsts same [] 0 keys in
        let f = get_or firsts g 256 in
        let t = (firsts_are [] 0 keys).at g l in
        let low : f < length ids = omega (arith, t.1) in
        let start : f - 0 ≡ f = omega arith in
        let here : get_or ids f 256 ≡ g = ap (λ n. get_or ids n 256) (sym start) ∙ t.2 ∙ omega arith in
        subst (λ x. (x < length keys) × (get_or (padded ids) x 256 ≡ g) × ((i : ℕ) → i < x → get_or (padded ids) i 256 < g)) (sym (get_or_append_left firsts _ 256 g l)) (
          omega (arith, low, length_ids [] keys),
          get_or_append_left ids _ 256 f low ∙ here,
          λ i m. omega (arith, get_or_append_left ids (replicate (256 - length ids) 256) 256 i (omega arith), t.3 i (omega arith)),
        )

    pub groups_mean : (r : Groups) → r ≡ grouped same keys → GroupsOf same keys r
    groups_mean r e = subst (GroupsOf same keys) (sym e) (record { together = together; within = within; first = first })
