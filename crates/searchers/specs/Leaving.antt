-- Which waiting rows are settled, and how many leave: the longest front of them that is settled throughout.
use Rattle.std.specs.Prelude.{◌≡◌, ℕ, ◌+◌, ◌<◌, ◌≤◌, Bool, true, false, if◌then◌else◌, ◌&&◌, ◌⊎◌, List, [], ◌∷◌, length, Some, None, Option, nat_lt, slice_index_or}
use Rattle.std.specs.List.{prefix_len, AllByRecursion, slice_get}
use Rattle.figures.specs.Sets.{largest}
use Rattle.searchers.specs.declared.leaving.Standing.{Standing}
use Rattle.searchers.specs.declared.leaving.Standing.TheVariants.{Nowhere, Ended, Open}
use Rattle.searchers.specs.declared.rows.Held.{Held}
use Rattle.searchers.specs.declared.rows.Waiting.{Waiting}

-- how a row of some rank stands, from the place of its key
abbrev pub standing_at : {K P : Type 0} → ℕ → Option (Option (Held K P)) → Standing
standing_at rank None = Nowhere
standing_at rank (Some None) = Nowhere
standing_at rank (Some (Some held)) = if held.ended then Ended else Open rank held.rows

abbrev pub standing : {K R P : Type 0} → List (Option (Held K P)) → Option (Waiting K R) → Standing
standing held None = Nowhere
standing held (Some w) = standing_at w.rank (slice_get held w.place)

-- whether a rank with a reach after it lies within some rows: for each figure, or for the largest reach
abbrev pub by_each : {F : Type 0} → (F → ℕ) → List F → ℕ → ℕ → Bool
by_each ahead [] rank rows = true
by_each ahead (f ∷ fs) rank rows = nat_lt (rank + ahead f) rows && by_each ahead fs rank rows

abbrev pub by_largest : {F : Type 0} → (F → ℕ) → List F → ℕ → ℕ → Bool
by_largest ahead fs rank rows = nat_lt (rank + largest ahead fs) rows

-- a row whose key is not held is not settled, and one whose key has ended is
abbrev pub settled_as : (ℕ → ℕ → Bool) → Standing → Bool
settled_as due Nowhere = false
settled_as due Ended = true
settled_as due (Open rank rows) = due rank rows

abbrev pub settled : {K R P : Type 0} → (ℕ → ℕ → Bool) → List (Option (Held K P)) → Option (Waiting K R) → Bool
settled due held w = settled_as due (standing held w)

abbrev pub leaving : {K R P : Type 0} → (ℕ → ℕ → Bool) → List (Option (Held K P)) → List (Option (Waiting K R)) → ℕ
leaving due held waiting = prefix_len (settled due held) waiting

-- in other words: its key is held, and has ended or has all the rows after it that each figure looks at
abbrev pub Settled : {K R P F : Type 0} → (F → ℕ) → List F → List (Option (Held K P)) → Option (Waiting K R) → Type 0
Settled ahead fs held None = ⊥
Settled {K} {R} {P} ahead fs held (Some w) =
    (h : Held K P) × (slice_get held w.place ≡ Some (Some h)) × ((h.ended ≡ true) ⊎ AllByRecursion (λ f. w.rank + ahead f < h.rows) fs)

-- n is the length of the longest front: each before n is so, and the one at n, if there is one, is not
pub record LongestFront {X : Type 0} (So : X → Type 0) (xs : List X) (n : ℕ) : Type 0 where
  pub within : n ≤ length xs
  pub front : (i : ℕ) (d : X) → i < n → So (slice_index_or xs i d)
  pub stop : (d : X) → n < length xs → So (slice_index_or xs n d) → ⊥
