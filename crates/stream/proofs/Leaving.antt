-- How many rows leave, as the searcher tells it from the tables' places, is the longest settled front of the lists.
use Rattle.std.proofs.Common.{◌≡◌, ℕ, zero, suc, ◌+◌, ◌-◌, Bool, true, false, cond, ◌||◌, ltb, List, [], ◌∷◌, ◌++◌, map, length, replicate, Some, None, Option, sym, refl, ap, ◌∙◌}
use Rattle.std.specs.List.{prefix_len, slice_get}
use Rattle.figures.specs.Sets.{largest}
use Rattle.searchers.specs.declared.leaving.Standing.TheVariants.{Ended, Open}
use Rattle.searchers.specs.declared.rows.Held.{Held}
use Rattle.searchers.specs.Leaving as places
use Rattle.tables.specs.Lists.{Lists, value_at}
use Rattle.tables.specs.Places.{laid}
use Rattle.book.specs.Calls.{settled, leaving}

-- blank places do not lengthen a front
leading_laid : {X : Type 0} (p : Option X → Bool) (q : X → Bool) → ((x : X) → p (Some x) ≡ q x) → p None ≡ false → (xs : List X) (k : ℕ) → prefix_len p (map Some xs ++ replicate k None) ≡ prefix_len q xs
leading_laid p q same none [] zero = refl
leading_laid p q same none [] (suc k) = ap (λ b. cond b (1 + prefix_len p (replicate k None)) 0) none
leading_laid p q same none (x ∷ xs) k = ap (λ b. cond b (1 + prefix_len p (map Some xs ++ replicate k None)) 0) (same x) ∙ ap (λ n. cond (q x) (1 + n) 0) (leading_laid p q same none xs k)

or_true : (b : Bool) → (b || true) ≡ true
or_true true = refl
or_true false = refl

or_false : (b : Bool) → (b || false) ≡ b
or_false true = refl
or_false false = refl

module _ {F : Type 0} (ahead : F → ℕ) (fs : List F) (rank : ℕ) where
  -- no key stands in a blank place
  nowhere : (K P : Type 0) (k p : ℕ) → places.settled_as (places.by_largest ahead fs) (places.standing_at {K = K} {P = P} rank (slice_get (replicate k None) p)) ≡ false
  nowhere K P zero p = refl
  nowhere K P (suc k) zero = refl
  nowhere K P (suc k) (suc p) = nowhere K P k p

  by_mark : (rows : ℕ) (ended : Bool) → places.settled_as (places.by_largest ahead fs) (cond ended Ended (Open rank rows)) ≡ (ltb (rank + largest ahead fs) rows || ended)
  by_mark rows true = sym (or_true (ltb (rank + largest ahead fs) rows))
  by_mark rows false = sym (or_false (ltb (rank + largest ahead fs) rows))

  -- a row is settled by its key's place as by the list of keys
  settled_laid : {K P : Type 0} (held : List (Held K P)) (k p : ℕ)
      → places.settled_as (places.by_largest ahead fs) (places.standing_at rank (slice_get (map Some held ++ replicate k None) p)) ≡ value_at (λ e. ltb (rank + largest ahead fs) e.rows || e.ended) false held p
  settled_laid {K} {P} [] k p = nowhere K P k p
  settled_laid (e ∷ held) k zero = by_mark e.rows e.ended
  settled_laid (e ∷ held) k (suc p) = settled_laid held k p

-- the answer of a searcher over the tables' places
pub leaving_laid : {K R P F : Type 0} (ahead : F → ℕ) (fs : List F) (t : Lists K R P)
    → places.leaving (places.by_largest ahead fs) (laid 64 t.held) (laid 512 t.waiting) ≡ leaving (largest ahead fs) t
leaving_laid ahead fs t =
    leading_laid (places.settled (places.by_largest ahead fs) (laid 64 t.held)) (settled (largest ahead fs) t.held)
    (λ w. settled_laid ahead fs w.rank t.held (64 - length t.held) w.place) refl t.waiting (512 - length t.waiting)
