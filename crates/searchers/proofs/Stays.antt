-- An ended key comes in no batch that passes the order check.
use Rattle.std.proofs.Common.{◌≡◌, ℕ, ◌+◌, Bool, true, false, cond, not, List, [], ◌∷◌, Some, None, Option, Ordering, Less, Equal, Greater, sym, refl, ap, ◌∙◌, inl, inr}
use Rattle.std.specs.Cmp.{IsEquivalence, IsTotalOrder}
use Rattle.std.specs.Ordering.{is_eq, is_lt, is_ne, ordering_reverse}
use Rattle.std.specs.List.{AllByRecursion}
use Rattle.std.proofs.lemmas.Bool.{cases_Bool, both_ways}
use Rattle.searchers.specs.declared.modes.Mode.{Mode}
use Rattle.searchers.specs.declared.modes.Mode.TheVariants.{Sorted, PartlySorted, Linear}
use Rattle.searchers.specs.Order.{lower, first_fall}
use Rattle.searchers.specs.Ends.{ended_by, EndedForGood}

is_less : (o : Ordering) → is_lt o ≡ true → o ≡ Less
is_less Less e = refl
is_less Equal e = cc
is_less Greater e = cc

-- not below one way: below or tied the other way
not_below : (o : Ordering) → is_lt o ≡ false → is_lt (ordering_reverse o) ≡ is_ne o
not_below Less e = cc
not_below Equal e = refl
not_below Greater e = refl

ne_reversed : (o : Ordering) → is_ne (ordering_reverse o) ≡ is_ne o
ne_reversed Less = refl
ne_reversed Equal = refl
ne_reversed Greater = refl

is_equal_not_less : (o : Ordering) → is_eq o ≡ true → is_lt o ≡ false
is_equal_not_less Less e = cc
is_equal_not_less Equal e = refl
is_equal_not_less Greater e = refl

not_eq : (o : Ordering) → not (is_eq o) ≡ is_ne o
not_eq Less = refl
not_eq Equal = refl
not_eq Greater = refl

passes_head : (b : Bool) (i : ℕ) (rest : Option ℕ) → cond b (Some i) rest ≡ None → (b ≡ false) × (rest ≡ None)
passes_head true i rest e = absurd cc
passes_head false i rest e = (refl, e)

module _ {K : Type 0} (compared : K → K → Ordering) (ranked : IsTotalOrder compared) where
  -- c is below a, and b is not: then c is below b
  below_on : (a b c : K) (o : Ordering) → compared a b ≡ o → is_lt (ordering_reverse o) ≡ false → compared c a ≡ Less → compared c b ≡ Less
  below_on a b c Less e p l = ranked.trans c a b l e
  below_on a b c Equal e p l = ranked.antisymm c b ∙ ap ordering_reverse (sym (ranked.congr a b c e)) ∙ sym (ranked.antisymm c a) ∙ l
  below_on a b c Greater e p l = absurd cc

  -- not below is transitive
  not_below_on : (a b c : K) → is_lt (compared b a) ≡ false → is_lt (compared c b) ≡ false → is_lt (compared c a) ≡ false
  not_below_on a b c p q =
      elim (cases_Bool (is_lt (compared c a))) [
        | inl l ↦ absurd (both_ways _ q (ap is_lt (below_on a b c (compared a b) refl (ap is_lt (sym (ranked.antisymm b a)) ∙ p) (is_less _ l))))
        | inr f ↦ f
      ]

  -- of two that are not below, differing is being below
  differs : (x y : K) → is_lt (compared x y) ≡ false → is_ne (compared y x) ≡ is_lt (compared y x)
  differs x y e = ap is_ne (ranked.antisymm y x) ∙ ne_reversed (compared x y) ∙ sym (not_below (compared x y) e) ∙ ap is_lt (sym (ranked.antisymm y x))

module _ {K : Type 0} (same : K → K → Bool) (order parts : K → K → Ordering) (equality : IsEquivalence same) (ranked : IsTotalOrder order) (sorted : IsTotalOrder parts)
    (ties : (x y : K) → same x y ≡ is_eq (order x y)) (tied : (x y : K) → same x y ≡ true → parts x y ≡ Equal) where
  same_not_lower : (mode : Mode) (x y : K) → same x y ≡ true → lower mode order parts x y ≡ false
  same_not_lower Sorted x y e = is_equal_not_less (order x y) (sym (ties x y) ∙ e)
  same_not_lower PartlySorted x y e = ap is_lt (tied x y e)
  same_not_lower Linear x y e = refl

  not_lower_on : (mode : Mode) (a b c : K) → lower mode order parts b a ≡ false → lower mode order parts c b ≡ false → lower mode order parts c a ≡ false
  not_lower_on Sorted a b c p q = not_below_on order ranked a b c p q
  not_lower_on PartlySorted a b c p q = not_below_on parts sorted a b c p q
  not_lower_on Linear a b c p q = refl

  -- a key that is not above the last has ended exactly where it is below it
  ended_is_lower : (mode : Mode) (last key : K) → lower mode order parts last key ≡ false → ended_by mode same parts last key ≡ lower mode order parts key last
  ended_is_lower Sorted last key e = ap not (ties key last) ∙ not_eq (order key last) ∙ differs order ranked last key e
  ended_is_lower PartlySorted last key e = differs parts sorted last key e
  ended_is_lower Linear last key e = refl

  none_comes : (mode : Mode) (last key before : K) (i : ℕ) (keys : List K) → lower mode order parts key last ≡ true → lower mode order parts before last ≡ false → first_fall (lower mode order parts) (Some before) i keys ≡ None → AllByRecursion (λ k. same k key ≡ false) keys
  none_comes mode last key before i [] l b p = tt
  none_comes mode last key before i (k ∷ keys) l b p =
      let head = passes_head _ _ _ p in
      let above : lower mode order parts k last ≡ false = not_lower_on mode last before k b head.0 in
      let other : same k key ≡ false =
      elim (cases_Bool (same k key)) [
        | inl t ↦ absurd (both_ways _ (not_lower_on mode last k key above (same_not_lower mode key k (equality.symm key k ∙ t))) l)
        | inr f ↦ f
      ]
      in
      (other, none_comes mode last key k (i + 1) keys l above head.1)

  pub ended_for_good : EndedForGood same order parts
  ended_for_good mode last key keys below ended passed =
      none_comes mode last key last 0 keys (sym (ended_is_lower mode last key below) ∙ ended) (same_not_lower mode last last (equality.refl last)) passed
