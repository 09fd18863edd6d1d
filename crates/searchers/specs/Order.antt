-- The order that each mode asks of the keys of a batch.
use Rattle.std.specs.Prelude.{◌≡◌, ℕ, zero, suc, ◌+◌, ◌<◌, Bool, true, false, if◌then◌else◌, List, [], ◌∷◌, map, length, Some, None, Option, slice_index_or}
use Rattle.std.specs.declared.cmp.Ordering.{Ordering}
use Rattle.std.specs.Ordering.{is_lt}
use Rattle.searchers.specs.declared.modes.Mode.{Mode}
use Rattle.searchers.specs.declared.modes.Mode.TheVariants.{Sorted, PartlySorted, Linear}
use Rattle.searchers.specs.declared.rows.Row.{Row}

-- the keys of some rows
abbrev pub keys_of : {K : Type 0} → List (Row K) → List K
keys_of rows = map (λ r. r.key) rows

-- whether a mode's order puts x below y: by whole keys, by sorted parts, or never
abbrev pub lower : {K : Type 0} → Mode → (order parts : K → K → Ordering) → K → K → Bool
lower Sorted order parts x y = is_lt (order x y)
lower PartlySorted order parts x y = is_lt (parts x y)
lower Linear order parts x y = false

-- whether a key is below the one before it, if there is one
abbrev pub falls : {K : Type 0} → (K → K → Bool) → Option K → K → Bool
falls low None key = false
falls low (Some before) key = low key before

-- the first place, counted on from i, whose key is below the one before it
abbrev pub first_fall : {K : Type 0} → (K → K → Bool) → Option K → ℕ → List K → Option ℕ
first_fall low before i [] = None
first_fall low before i (key ∷ keys) = if falls low before key then Some i else first_fall low (Some key) (i + 1) keys

-- the key before the one at a place: the one in front of it, or the last before them all
abbrev pub key_before : {K : Type 0} → Option K → List K → ℕ → K → Option K
key_before last keys zero d = last
key_before last keys (suc i) d = Some (slice_index_or keys i d)

-- in other words: no key is below the one before it; or the one at n is, and none in front of it
abbrev pub FirstFall : {K : Type 0} → (K → K → Bool) → Option K → List K → Option ℕ → Type 0
FirstFall {K} low last keys None = (i : ℕ) (d : K) → i < length keys → falls low (key_before last keys i d) (slice_index_or keys i d) ≡ false
FirstFall {K} low last keys (Some n) =
    (n < length keys)
    × ((d : K) → falls low (key_before last keys n d) (slice_index_or keys n d) ≡ true)
    × ((i : ℕ) (d : K) → i < n → falls low (key_before last keys i d) (slice_index_or keys i d) ≡ false)
