-- Lists and tests: what the shelf lacks.
use Rattle.std.proofs.Common.{◌≡◌, suc, ◌+◌, Bool, true, false, cond, List, [], ◌∷◌, ◌++◌, map, length, take, drop, filter, sym, refl, ap, ◌∙◌, subst, inl, inr, arith}
use Rattle.std.specs.List.{prefix_len, AllByRecursion}
use Rattle.std.proofs.ByRecursion.{All-push, All-weaker}
use Rattle.std.proofs.lemmas.List.Sums.{prefix_len-le-length, prefix_len_passes, prefix_len_stops}
use Rattle.std.proofs.lemmas.Bool.{cases_Bool, both_ways}
use Rattle.searchers.specs.Leaving.{LongestFront}

-- what gives a false test is false
pub false_from : (x y : Bool) → (x ≡ true → y ≡ true) → y ≡ false → x ≡ false
false_from true y f n = absurd (both_ways y n (f refl))
false_from false y f n = refl

-- and what a true test is given by is true
pub true_from : (x y : Bool) → (x ≡ false → y ≡ false) → y ≡ true → x ≡ true
true_from true y f h = refl
true_from false y f h = absurd (both_ways y (f refl) h)

pub same_truth : (x y : Bool) → (x ≡ true → y ≡ true) → (y ≡ true → x ≡ true) → x ≡ y
same_truth true y f g = sym (f refl)
same_truth false y f g = sym (false_from y false g refl)

module _ {A : Type 0} where
  pub all_always : (P : A → Type 0) → ((x : A) → P x) → (xs : List A) → AllByRecursion P xs
  all_always P h [] = tt
  all_always P h (x ∷ xs) = (h x, all_always P h xs)

  pub all_with : (P Q S : A → Type 0) → ((x : A) → P x → Q x → S x) → (xs : List A) → AllByRecursion P xs → AllByRecursion Q xs → AllByRecursion S xs
  all_with P Q S h [] a b = tt
  all_with P Q S h (x ∷ xs) a b = (h x a.0 b.0, all_with P Q S h xs a.1 b.1)

  pub kept_cong : (p q : A → Bool) (xs : List A) → AllByRecursion (λ x. p x ≡ q x) xs → filter p xs ≡ filter q xs
  kept_cong p q [] h = refl
  kept_cong p q (x ∷ xs) h = ap (λ b. cond b (x ∷ filter p xs) (filter p xs)) h.0 ∙ ap (λ r. cond (q x) (x ∷ r) r) (kept_cong p q xs h.1)

  pub kept_none : (p : A → Bool) (xs : List A) → AllByRecursion (λ x. p x ≡ false) xs → filter p xs ≡ []
  kept_none p [] h = refl
  kept_none p (x ∷ xs) h = ap (λ b. cond b (x ∷ filter p xs) (filter p xs)) h.0 ∙ kept_none p xs h.1

  pub kept_whole : (p : A → Bool) (xs : List A) → AllByRecursion (λ x. p x ≡ true) xs → filter p xs ≡ xs
  kept_whole p [] h = refl
  kept_whole p (x ∷ xs) h = ap (λ b. cond b (x ∷ filter p xs) (filter p xs)) h.0 ∙ ap (λ z. x ∷ z) (kept_whole p xs h.1)

  -- a test that gives another makes it needless
  pub kept_kept : (p q : A → Bool) → ((x : A) → p x ≡ true → q x ≡ true) → (xs : List A) → filter p (filter q xs) ≡ filter p xs
  kept_kept p q h [] = refl
  kept_kept p q h (x ∷ xs) =
      elim (cases_Bool (q x)) [
        | inl y ↦ rw y (ap (λ z. cond (p x) (x ∷ z) z) (kept_kept p q h xs))
        | inr n ↦ (let np : p x ≡ false = false_from (p x) (q x) (h x) n in rw (n, np) (kept_kept p q h xs))
      ]

  pub leading_all : (p : A → Bool) (xs : List A) → AllByRecursion (λ x. p x ≡ true) (take (prefix_len p xs) xs)
  leading_all p [] = tt
  leading_all p (x ∷ xs) =
      (elim (p x) as (λ b. p x ≡ b → AllByRecursion (λ x. p x ≡ true) (take (cond b (1 + prefix_len p xs) 0) (x ∷ xs))) [
        | true ↦ λ e. (let one : 1 + prefix_len p xs ≡ suc (prefix_len p xs) = omega arith in subst (λ n. AllByRecursion (λ x. p x ≡ true) (take n (x ∷ xs))) (sym one) (e, leading_all p xs))
        | false ↦ λ e. tt
      ]) refl

  pub leading_append : (p : A → Bool) (xs ys : List A) → AllByRecursion (λ x. p x ≡ true) xs → prefix_len p (xs ++ ys) ≡ length xs + prefix_len p ys
  leading_append p [] ys h = omega arith
  leading_append p (x ∷ xs) ys h = ap (λ b. cond b (1 + prefix_len p (xs ++ ys)) 0) h.0 ∙ omega (arith, leading_append p xs ys h.1)

  pub leading_cong : (p q : A → Bool) (xs : List A) → AllByRecursion (λ x. p x ≡ q x) xs → prefix_len p xs ≡ prefix_len q xs
  leading_cong p q [] h = refl
  leading_cong p q (x ∷ xs) h = ap (λ b. cond b (1 + prefix_len p xs) 0) h.0 ∙ ap (λ n. cond (q x) (1 + n) 0) (leading_cong p q xs h.1)

  pub leading_whole : (p : A → Bool) (xs : List A) → AllByRecursion (λ x. p x ≡ true) xs → prefix_len p xs ≡ length xs
  leading_whole p [] h = refl
  leading_whole p (x ∷ xs) h = ap (λ b. cond b (1 + prefix_len p xs) 0) h.0 ∙ omega (arith, leading_whole p xs h.1)

  -- the count is that of the longest front
  pub leading_longest : (p : A → Bool) (xs : List A) → LongestFront (λ x. p x ≡ true) xs (prefix_len p xs)
  leading_longest p xs = record {
    within = prefix_len-le-length p xs;
    front = λ i d l. prefix_len_passes p xs i d l;
    stop = λ d l so. both_ways _ (prefix_len_stops p xs d l) so;
  }

module _ {A B : Type 0} where
  pub leading_map : (p : A → Bool) (q : B → Bool) (g : A → B) (xs : List A) → AllByRecursion (λ x. p x ≡ q (g x)) xs → prefix_len p xs ≡ prefix_len q (map g xs)
  leading_map p q g [] h = refl
  leading_map p q g (x ∷ xs) h = ap (λ b. cond b (1 + prefix_len p xs) 0) h.0 ∙ ap (λ n. cond (q (g x)) (1 + n) 0) (leading_map p q g xs h.1)

  pub kept_map : (p : B → Bool) (g : A → B) (xs : List A) → filter p (map g xs) ≡ map g (filter (λ x. p (g x)) xs)
  kept_map p g [] = refl
  kept_map p g (x ∷ xs) =
      let rest = map g (filter (λ x. p (g x)) xs) in
      ap (λ r. cond (p (g x)) (g x ∷ r) r) (kept_map p g xs)
      ∙ (elim (p (g x)) as (λ b. cond b (g x ∷ rest) rest ≡ map g (cond b (x ∷ filter (λ x. p (g x)) xs) (filter (λ x. p (g x)) xs))) [ true ↦ refl | false ↦ refl ])

  pub map_cong : (g h : A → B) (xs : List A) → AllByRecursion (λ x. g x ≡ h x) xs → map g xs ≡ map h xs
  map_cong g h [] e = refl
  map_cong g h (x ∷ xs) e = ap (λ y. y ∷ map g xs) e.0 ∙ ap (λ r. h x ∷ r) (map_cong g h xs e.1)

  pub all_unmap : (P : B → Type 0) (g : A → B) (xs : List A) → AllByRecursion P (map g xs) → AllByRecursion (λ x. P (g x)) xs
  all_unmap P g [] h = tt
  all_unmap P g (x ∷ xs) h = (h.0, all_unmap P g xs h.1)

-- an order on a list: each element stands before the later ones
abbrev pub Rises : {A : Type 0} → (A → A → Type 0) → List A → Type 0
Rises le [] = Unit {0}
Rises le (x ∷ xs) = AllByRecursion (le x) xs × Rises le xs

pub rises_push : {A : Type 0} (le : A → A → Type 0) (xs : List A) (y : A) → Rises le xs → AllByRecursion (λ x. le x y) xs → Rises le (xs ++ y ∷ [])
rises_push le [] y r h = (tt, tt)
rises_push le (x ∷ xs) y r h = (All-push (le x) xs y r.0 h.0, rises_push le xs y r.1 h.1)

-- what stands behind the longest front that passes p fails g, where g gives p and falls along the list
pub behind : {A : Type 0} (le : A → A → Type 0) (p g : A → Bool)
    → ((x : A) → g x ≡ true → p x ≡ true) → ((x y : A) → le x y → g y ≡ true → g x ≡ true)
    → (xs : List A) → Rises le xs → AllByRecursion (λ x. g x ≡ false) (drop (prefix_len p xs) xs)
behind le p g gives falls [] r = tt
behind le p g gives falls (x ∷ xs) r =
    elim (cases_Bool (p x)) [
      | inl passes ↦
          (let e : prefix_len p (x ∷ xs) ≡ suc (prefix_len p xs) = ap (λ b. cond b (1 + prefix_len p xs) 0) passes ∙ omega arith in
          subst (λ n. AllByRecursion (λ x. g x ≡ false) (drop n (x ∷ xs))) (sym e) (behind le p g gives falls xs r.1))
      | inr fails ↦
          (let e : prefix_len p (x ∷ xs) ≡ 0 = ap (λ b. cond b (1 + prefix_len p xs) 0) fails in
          let here : g x ≡ false = false_from (g x) (p x) (gives x) fails in
          subst (λ n. AllByRecursion (λ x. g x ≡ false) (drop n (x ∷ xs))) (sym e)
          (here, All-weaker (le x) (λ y. g y ≡ false) (λ y l. false_from (g y) (g x) (falls x y l) here) xs r.0))
    ]
