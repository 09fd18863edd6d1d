-- A loop over the values of a table.
use Rattle.std.proofs.Common.{◌≡◌, ℕ, ◌<◌, ◌≤◌, List, length, get_or, take, Some, None, Option, Bor, ap, ◌∙◌, arith}
use Rattle.std.specs.Iterator.{Yields, YieldsFirstRef}
use Rattle.std.specs.Iterator.Adapters.{enumerate_source, enumerate_count, enumerate_steps, take_source, take_count, take_steps}
use Rattle.std.specs.List.{enumerate_from}
use Rattle.std.specs.declared.iter.Enumerate.{Enumerate}
use Rattle.std.specs.declared.iter.Take.{Take}
use Rattle.std.proofs.lemmas.Iterator.{YieldsList, YieldsList-from_take}
use Rattle.std.proofs.lemmas.Iterator.Consumers.{YieldsList-from_first, YieldsList-from_enumerate, YieldsList-turn, YieldsList-end, YieldsList-at}
use Rattle.std.proofs.lemmas.List.{get_or-take, length-take-le}
use Rattle.std.proofs.lemmas.List.FromFn.{length-enumerate_from, get_or-enumerate_from}
use Rattle.tables.specs.declared.table.iter.Iter.{Iter}
use Rattle.tables.specs.Rows.{values_left}

module _ {T : Type 0} (xs : List T) (s : Iter T) (all : values_left s ≡ xs) (ys : List (Bor T)) (t u : Iter T) (so_far : Yields (YieldsFirstRef values_left) s ys t) (r : Option (Bor T)) (on : YieldsFirstRef values_left t r u) where
  -- this turn's value
  pub row_turn : (x : Bor T) → r ≡ Some x → (length ys < length xs) × (x.now ≡ get_or xs (length ys) x.now)
  row_turn x e = YieldsList-turn (YieldsList-from_first (λ y. y.now) values_left xs all) ys t so_far r u x e on

  -- the end
  pub row_end : r ≡ None → length ys ≡ length xs
  row_end e = (YieldsList-end (YieldsList-from_first (λ y. y.now) values_left xs all) ys t so_far r u e on).1

-- the same, by what the calls say that make the iterator
module _ {T : Type 0} {xs : List T} {s made : Iter T} (is : s ≡ made) (all : values_left made ≡ xs) (ys : List (Bor T)) (t u : Iter T) (so_far : Yields (YieldsFirstRef values_left) s ys t) {r : Option (Bor T)} (on : YieldsFirstRef values_left t r u) where
  pub loop_turn : {x : Bor T} → r ≡ Some x → (length ys < length xs) × (x.now ≡ get_or xs (length ys) x.now)
  loop_turn {x} e = row_turn xs s (ap values_left is ∙ all) ys t u so_far r on x e

  pub loop_end : r ≡ None → length ys ≡ length xs
  loop_end e = row_end xs s (ap values_left is ∙ all) ys t u so_far r on e

-- the first n values, with their places
module _ {T : Type 0} {xs : List T} {n : ℕ} (few : n ≤ length xs) {s made : Enumerate (Take (Iter T))} (is : s ≡ made) {front : Take (Iter T)} (source : enumerate_source made ≡ front) (first : enumerate_count made ≡ 0) {it : Iter T} (behind : take_source front ≡ it) (count : take_count front ≡ n) (all : values_left it ≡ xs) where
  yields : YieldsList {B = ℕ × T} (enumerate_steps (take_steps (YieldsFirstRef values_left))) (λ p. (p.0, p.1.now)) s (enumerate_from 0 (take n xs))
  yields =
      YieldsList-at is
      (YieldsList-from_enumerate (YieldsList-at source (YieldsList-from_take n (YieldsList-at behind (YieldsList-from_first (λ y. y.now) values_left xs all)) count)) first)

  long : length (enumerate_from 0 (take n xs)) ≡ n
  long = length-enumerate_from 0 (take n xs) ∙ length-take-le n xs few

  module _ (ys : List (ℕ × Bor T)) (t u : Enumerate (Take (Iter T))) (so_far : Yields (enumerate_steps (take_steps (YieldsFirstRef values_left))) s ys t) {r : Option (ℕ × Bor T)} (on : enumerate_steps (take_steps (YieldsFirstRef values_left)) t r u) where
    pub place_turn : {i : ℕ} {x : Bor T} → r ≡ Some (i, x) → (i ≡ length ys) × (length ys < n) × (x.now ≡ get_or xs (length ys) x.now)
    place_turn {i} {x} e =
        let q = YieldsList-turn yields ys t so_far r u (i, x) e on in
        let low : length ys < n = omega (arith, q.0, long) in
        let at = q.1 ∙ get_or-enumerate_from 0 (take n xs) (length ys) (i, x.now) (omega (arith, length-take-le n xs few)) in
        (omega (arith, ap (λ (p : ℕ × T). p.0) at), low, ap (λ (p : ℕ × T). p.1) at ∙ get_or-take n xs (length ys) x.now low)

    pub place_end : r ≡ None → length ys ≡ n
    place_end e = (YieldsList-end yields ys t so_far r u e on).1 ∙ long
