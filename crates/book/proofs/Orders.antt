-- The order of keys, one for the three modes: which keys the last accepted one has passed, and that these are the ended ones.
use Rattle.std.proofs.Common.{◌≡◌, Bool, true, false, not, Some, None, Option, Ordering, Less, Equal, Greater, sym, refl, ap, ◌∙◌}
use Rattle.std.specs.Cmp.{IsEquivalence, IsTotalOrder}
use Rattle.std.specs.Ordering.{is_eq, is_lt, is_ne, ordering_reverse}
use Rattle.std.proofs.lemmas.Bool.{false≢true, true≢false}
use Rattle.searchers.specs.declared.modes.Mode.{Mode}
use Rattle.searchers.specs.declared.modes.Mode.TheVariants.{Sorted, PartlySorted, Linear}
use Rattle.searchers.specs.Order.{lower, falls}
use Rattle.searchers.specs.Ends.{ended_at}
use Rattle.book.specs.Calls.{Kind}
use Rattle.book.proofs.Basics.{false_from, true_from, same_truth}

-- what a key kind promises
pub record Lawful {K : Type 0} (k : Kind K) : Type 0 where
  pub equality : IsEquivalence k.same
  pub ranked : IsTotalOrder k.order
  pub sorted : IsTotalOrder k.parts
  pub ties : (x y : K) → k.same x y ≡ is_eq (k.order x y)
  pub tied : (x y : K) → k.same x y ≡ true → k.parts x y ≡ Equal

is_less : (o : Ordering) → is_lt o ≡ true → o ≡ Less
is_less Less e = refl
is_less Equal e = absurd (false≢true e)
is_less Greater e = absurd (false≢true e)

-- not below one way: below or tied the other way
not_below : (o : Ordering) → is_lt o ≡ false → is_ne (ordering_reverse o) ≡ is_lt (ordering_reverse o)
not_below Less e = absurd (true≢false e)
not_below Equal e = refl
not_below Greater e = refl

less_differs : (o : Ordering) → is_lt o ≡ true → is_ne o ≡ true
less_differs o e = ap is_ne (is_less o e)

not_eq : (o : Ordering) → not (is_eq o) ≡ is_ne o
not_eq Less = refl
not_eq Equal = refl
not_eq Greater = refl

equal_not_less : (o : Ordering) → is_eq o ≡ true → is_lt o ≡ false
equal_not_less Less e = absurd (false≢true e)
equal_not_less Equal e = refl
equal_not_less Greater e = refl

module _ {K : Type 0} (compared : K → K → Ordering) (ranked : IsTotalOrder compared) where
  -- c is below a, and b is not: then c is below b
  below_on : (a b c : K) (o : Ordering) → compared a b ≡ o → is_lt (ordering_reverse o) ≡ false → compared c a ≡ Less → compared c b ≡ Less
  below_on a b c Less e p l = ranked.trans c a b l e
  below_on a b c Equal e p l = ranked.antisymm c b ∙ ap ordering_reverse (sym (ranked.congr a b c e)) ∙ sym (ranked.antisymm c a) ∙ l
  below_on a b c Greater e p l = absurd (true≢false p)

  -- not below is transitive
  not_below_on : (a b c : K) → is_lt (compared b a) ≡ false → is_lt (compared c b) ≡ false → is_lt (compared c a) ≡ false
  not_below_on a b c p q =
      false_from (is_lt (compared c a)) (is_lt (compared c b)) (λ l. ap is_lt (below_on a b c (compared a b) refl (ap is_lt (sym (ranked.antisymm b a)) ∙ p) (is_less _ l))) q

  -- of two that are not below, differing is being below
  differs : (x y : K) → is_lt (compared x y) ≡ false → is_ne (compared y x) ≡ is_lt (compared y x)
  differs x y e = ap is_ne (ranked.antisymm y x) ∙ not_below (compared x y) e ∙ ap is_lt (sym (ranked.antisymm y x))

module _ {K : Type 0} (same : K → K → Bool) (equality : IsEquivalence same) where
  pub same_right : (a b c : K) → same a b ≡ true → same c a ≡ same c b
  same_right a b c e = equality.symm c a ∙ equality.congr a b c e ∙ equality.symm b c

  -- a differs from c, so c differs from what is the same as a
  pub other : (a b c : K) → same a b ≡ true → same a c ≡ false → same c b ≡ false
  other a b c e n = false_from (same c b) (same a c) (λ h. equality.congr a b c e ∙ equality.symm b c ∙ h) n

module _ {K : Type 0} (k : Kind K) (mode : Mode) where
  abbrev pub low : K → K → Bool
  low x y = lower mode k.order k.parts x y

  -- the last accepted key has passed a key: the key is below it
  abbrev pub gone : Option K → K → Bool
  gone last key = falls low last key

  -- a key is above the last accepted one; with no accepted row every key is
  abbrev pub above : Option K → K → Bool
  above None key = true
  above (Some last) key = low last key

module _ {K : Type 0} (k : Kind K) (l : Lawful k) where
  pub same_not_lower : (mode : Mode) (a b : K) → k.same a b ≡ true → low k mode a b ≡ false
  same_not_lower Sorted a b e = equal_not_less (k.order a b) (sym (l.ties a b) ∙ e)
  same_not_lower PartlySorted a b e = ap is_lt (l.tied a b e)
  same_not_lower Linear a b e = refl

  not_lower_on : (mode : Mode) (a b c : K) → low k mode b a ≡ false → low k mode c b ≡ false → low k mode c a ≡ false
  not_lower_on Sorted a b c p q = not_below_on k.order l.ranked a b c p q
  not_lower_on PartlySorted a b c p q = not_below_on k.parts l.sorted a b c p q
  not_lower_on Linear a b c p q = refl

  differing : (last key : K) → not (k.same key last) ≡ is_ne (k.order key last)
  differing last key = ap not (l.ties key last) ∙ not_eq (k.order key last)

  -- a key that is not above the last has ended exactly where it is below it
  pub ended_is_gone : (mode : Mode) (last : Option K) (key : K) → above k mode last key ≡ false → ended_at mode k.same k.parts last key ≡ gone k mode last key
  ended_is_gone mode None key e = refl
  ended_is_gone Sorted (Some last) key e = differing last key ∙ differs k.order l.ranked last key e
  ended_is_gone PartlySorted (Some last) key e = differs k.parts l.sorted last key e
  ended_is_gone Linear (Some last) key e = refl

  -- and one below it has ended
  pub gone_ended : (mode : Mode) (last : Option K) (key : K) → gone k mode last key ≡ true → ended_at mode k.same k.parts last key ≡ true
  gone_ended mode None key h = h
  gone_ended Sorted (Some last) key h = differing last key ∙ less_differs (k.order key last) h
  gone_ended PartlySorted (Some last) key h = less_differs (k.parts key last) h
  gone_ended Linear (Some last) key h = h

  -- one row on
  pub above_on : (mode : Mode) (last : Option K) (row key : K) → gone k mode last row ≡ false → above k mode last key ≡ false → above k mode (Some row) key ≡ false
  above_on mode None row key f a = absurd (true≢false a)
  above_on mode (Some last) row key f a = not_lower_on mode key last row a f

  pub gone_on : (mode : Mode) (last : Option K) (row key : K) → gone k mode last row ≡ false → gone k mode last key ≡ true → gone k mode (Some row) key ≡ true
  gone_on mode None row key f g = absurd (false≢true g)
  gone_on mode (Some last) row key f g = true_from (low k mode key row) (low k mode key last) (λ h. not_lower_on mode last row key f h) g

  pub above_same : (mode : Mode) (last : Option K) (a b : K) → k.same a b ≡ true → above k mode last a ≡ false → above k mode last b ≡ false
  above_same mode None a b e h = h
  above_same mode (Some last) a b e h = not_lower_on mode b a last (same_not_lower mode a b e) h

  -- keys below a passed one are passed
  pub gone_down : (mode : Mode) (last : Option K) (x y : K) → low k mode y x ≡ false → gone k mode last y ≡ true → gone k mode last x ≡ true
  gone_down mode None x y e h = h
  gone_down mode (Some last) x y e h = true_from (low k mode x last) (low k mode y last) (λ f. not_lower_on mode last x y f e) h

  pub gone_same : (mode : Mode) (last : Option K) (a b : K) → k.same a b ≡ true → gone k mode last a ≡ gone k mode last b
  gone_same mode last a b e = same_truth _ _
      (gone_down mode last b a (same_not_lower mode a b e))
      (gone_down mode last a b (same_not_lower mode b a (l.equality.symm b a ∙ e)))
