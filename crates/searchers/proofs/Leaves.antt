-- The scan over waiting rows.
use Rattle.std.proofs.Common.{◌≡◌, ℕ, zero, suc, ◌+◌, ◌<◌, max, Bool, true, false, cond, ◌&&◌, ltb, ◌⊎◌, List, [], ◌∷◌, length, get_or, Some, None, Decides, fold, Option, sym, refl, ap, ◌∙◌, subst, inl, inr, one-add, arith}
use Rattle.std.proofs.Math.Bool.{and-true, and_assoc}
use Rattle.std.specs.List.{prefix_len, AllByRecursion, slice_get}
use Rattle.std.proofs.lemmas.List.Sums.{prefix_len-le-length}
use Rattle.std.proofs.lemmas.Bool.{both_ways, false≢true}
use Rattle.std.proofs.lemmas.Bool.Decides.{nat_tests, Decides-ltb}
use Rattle.std.proofs.ByRecursion.{Decides-by_and}
use Rattle.figures.specs.declared.set.FigureSet.{FigureSet}
use Rattle.figures.specs.declared.set.FigureSet.TheVariants.{One, Two, Three, Four}
use Rattle.figures.specs.Sets.{figures}
use Rattle.searchers.specs.Leaving.{standing_at, by_each, by_largest, settled_as, settled, leaving, Settled, LongestFront}
use Rattle.searchers.specs.declared.leaving.Standing.TheVariants.{Ended, Open}
use Rattle.searchers.specs.declared.rows.Held.{Held}
use Rattle.searchers.specs.declared.rows.Waiting.{Waiting}

module _ {F : Type 0} (ahead : F → ℕ) where
  -- the larger of two numbers
  both_within : (rank rows m a : ℕ) → ltb (rank + max m a) rows ≡ (ltb (rank + m) rows && ltb (rank + a) rows)
  both_within rank rows m a = grind (arith, nat_tests)

  larger : (fs : List F) (rank rows m : ℕ) → ltb (rank + fold (λ k f. max k (ahead f)) m fs) rows ≡ (ltb (rank + m) rows && by_each ahead fs rank rows)
  larger [] rank rows m = sym (and-true (ltb (rank + m) rows))
  larger (f ∷ fs) rank rows m =
      larger fs rank rows (max m (ahead f))
      ∙ ap (λ b. b && by_each ahead fs rank rows) (both_within rank rows m (ahead f))
      ∙ and_assoc (ltb (rank + m) rows) (ltb (rank + ahead f) rows) (by_each ahead fs rank rows)

  by_some : (f : F) (fs : List F) (rank rows : ℕ) → by_each ahead (f ∷ fs) rank rows ≡ by_largest ahead (f ∷ fs) rank rows
  by_some f fs rank rows =
      let alone : max 0 (ahead f) ≡ ahead f = grind arith in
      ap (λ a. ltb (rank + a) rows && by_each ahead fs rank rows) (sym alone) ∙ sym (larger fs rank rows (max 0 (ahead f)))

  -- a set has a figure, so each reach is within the rows exactly where the largest is
  pub by_set : (set : FigureSet F) (rank rows : ℕ) → by_each ahead (figures set) rank rows ≡ by_largest ahead (figures set) rank rows
  by_set (One f) rank rows = by_some f [] rank rows
  by_set (Two f g) rank rows = by_some f (g ∷ []) rank rows
  by_set (Three f g h) rank rows = by_some f (g ∷ h ∷ []) rank rows
  by_set (Four f g h j) rank rows = by_some f (g ∷ h ∷ j ∷ []) rank rows

module _ {X : Type 0} (p : X → Bool) where
  front_on : (x : X) (xs : List X) (b : Bool) → p x ≡ b → (i : ℕ) (d : X) → i < cond b (1 + prefix_len p xs) 0 → ((j : ℕ) → j < prefix_len p xs → p (get_or xs j d) ≡ true) → p (get_or (x ∷ xs) i d) ≡ true
  front_on x xs true e zero d l rest = e
  front_on x xs true e (suc j) d l rest = rest j (omega arith)
  front_on x xs false e i d l rest = absurd (omega arith)

  leading_front : (xs : List X) (i : ℕ) (d : X) → i < prefix_len p xs → p (get_or xs i d) ≡ true
  leading_front [] i d l = absurd (omega arith)
  leading_front (x ∷ xs) i d l = front_on x xs (p x) refl i d l (λ j m. leading_front xs j d m)

  stop_on : (x : X) (xs : List X) (b : Bool) → p x ≡ b → (d : X) → cond b (1 + prefix_len p xs) 0 < suc (length xs) → (prefix_len p xs < length xs → p (get_or xs (prefix_len p xs) d) ≡ false) → p (get_or (x ∷ xs) (cond b (1 + prefix_len p xs) 0) d) ≡ false
  stop_on x xs true e d l rest = rw (one-add (prefix_len p xs)) (rest (omega arith))
  stop_on x xs false e d l rest = e

  leading_stop : (xs : List X) (d : X) → prefix_len p xs < length xs → p (get_or xs (prefix_len p xs) d) ≡ false
  leading_stop [] d l = absurd (omega arith)
  leading_stop (x ∷ xs) d l = stop_on x xs (p x) refl d l (leading_stop xs d)

module _ {F : Type 0} (ahead : F → ℕ) (fs : List F) where
  each_decides : (rank rows : ℕ) → Decides (by_each ahead fs rank rows) (AllByRecursion (λ f. rank + ahead f < rows) fs)
  each_decides rank rows =
      Decides-by_and (λ f. ltb (rank + ahead f) rows) (λ f. rank + ahead f < rows) (λ xs. by_each ahead xs rank rows) (λ f. Decides-ltb (rank + ahead f) rows) refl (λ _ _. refl) fs

  abbrev SettledAt : {K P : Type 0} → ℕ → Option (Option (Held K P)) → Type 0
  SettledAt {K} {P} rank place = (h : Held K P) × (place ≡ Some (Some h)) × ((h.ended ≡ true) ⊎ AllByRecursion (λ f. rank + ahead f < h.rows) fs)

  held_decides : {K P : Type 0} (rank : ℕ) (h : Held K P) (b : Bool) → h.ended ≡ b → Decides (settled_as (by_each ahead fs) (cond b Ended (Open rank h.rows))) (SettledAt rank (Some (Some h)))
  held_decides {K} {P} rank h true e = (λ _. (h, refl, inl e), λ _. refl)
  held_decides {K} {P} rank h false e = (
    λ d. (h, refl, inr ((each_decides rank h.rows).0 d)),
    λ s.
        (let is : s.0 ≡ h = let found = s.1 in cc in
        elim (subst (λ (x : Held K P). (x.ended ≡ true) ⊎ AllByRecursion (λ f. rank + ahead f < x.rows) fs) is s.2) [ inl t ↦ absurd (both_ways _ e t) | inr all ↦ (each_decides rank h.rows).1 all ]),
  )

  place_decides : {K P : Type 0} (rank : ℕ) (place : Option (Option (Held K P))) → Decides (settled_as (by_each ahead fs) (standing_at rank place)) (SettledAt rank place)
  place_decides rank None = (λ e. absurd (false≢true e), λ s. (let found = s.1 in absurd cc))
  place_decides rank (Some None) = (λ e. absurd (false≢true e), λ s. (let found = s.1 in absurd cc))
  place_decides rank (Some (Some h)) = held_decides rank h h.ended refl

  settled_decides : {K R P : Type 0} (held : List (Option (Held K P))) (w : Option (Waiting K R)) → Decides (settled (by_each ahead fs) held w) (Settled ahead fs held w)
  settled_decides held None = (λ e. absurd (false≢true e), λ b. absurd b)
  settled_decides held (Some w) = place_decides w.rank (slice_get held w.place)

  -- what the count means
  pub longest : {K R P : Type 0} (held : List (Option (Held K P))) (waiting : List (Option (Waiting K R))) (n : ℕ) → n ≡ leaving (by_each ahead fs) held waiting → LongestFront (Settled ahead fs held) waiting n
  longest held waiting n e =
      let p = settled (by_each ahead fs) held in
      subst (LongestFront (Settled ahead fs held) waiting) (sym e) (record {
        within = prefix_len-le-length p waiting;
        front = λ i d l. (settled_decides held _).0 (leading_front p waiting i d l);
        stop = λ d l s. both_ways _ (leading_stop p waiting d l) ((settled_decides held _).1 s);
      })

pub same_count : {K R P F : Type 0} (ahead : F → ℕ) (set : FigureSet F) (held : List (Option (Held K P))) (waiting : List (Option (Waiting K R))) → leaving (by_each ahead (figures set)) held waiting ≡ leaving (by_largest ahead (figures set)) held waiting
same_count ahead set held waiting = ap (λ due. leaving due held waiting) (λ i rank rows. by_set ahead set rank rows i)
