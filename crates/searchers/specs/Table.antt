-- A hash table over the different keys of a batch: a slot holds a key's number, or nothing.
use Rattle.std.specs.Prelude.{◌≡◌, ℕ, ◌+◌, ◌%◌, ◌<◌, ◌≤◌, Bool, true, false, List, [], ◌∷◌, map, length, count_by, Ok, Err, Result, Some, None, Option, slice_index, slice_index_or}
use Rattle.std.specs.Option.{is_some}
use Rattle.searchers.specs.declared.rows.Row.{Row}
use Rattle.searchers.specs.Order.{keys_of}
use Rattle.searchers.specs.Groups.{place}

-- the slot at e steps from a hash's own
abbrev pub slot : ℕ → ℕ → ℕ
slot h e = (h % 512 + e) % 512

-- what a slot holds
abbrev pub held_at : List (Option ℕ) → ℕ → Option ℕ
held_at slots i = slice_index_or slots i None

-- all slots on the way to the one at e steps are taken
abbrev pub Taken : List (Option ℕ) → ℕ → ℕ → Type 0
Taken slots h e = (k : ℕ) → k < e → is_some (held_at slots (slot h k)) ≡ true

-- the key of number g, whose hash is h, is found behind taken slots
pub record Reached (slots : List (Option ℕ)) (h g : ℕ) : Type 0 where
  pub far : ℕ
  pub near : far < 512
  pub there : held_at slots (slot h far) ≡ Some g
  pub way : Taken slots h far

pub record Sound {K : Type 0} (same : K → K → Bool) (hashed : K → ℕ) (seen : List K) (slots : List (Option ℕ)) : Type 0 where
  pub wide : length slots ≡ 512
  pub few : length seen ≤ 256
  pub held : (i g : ℕ) → i < 512 → held_at slots i ≡ Some g → g < length seen
  pub full : count_by is_some slots ≡ length seen
  pub apart : (g h : ℕ) (d : K) → g < h → h < length seen → same (slice_index_or seen g d) (slice_index_or seen h d) ≡ false
  pub reach : (g : ℕ) (d : K) → g < length seen → Reached slots (hashed (slice_index_or seen g d)) g

-- the free slot where the search for a key ends that none seen is the same as
pub record Vacant {K : Type 0} (same : K → K → Bool) (hashed : K → ℕ) (seen : List K) (slots : List (Option ℕ)) (key : K) (at : ℕ) : Type 0 where
  pub far : ℕ
  pub near : far < 512
  pub is : at ≡ slot (hashed key) far
  pub way : Taken slots (hashed key) far
  pub free : held_at slots at ≡ None
  pub new : place same key seen ≡ length seen

-- where the search for a key ends: at the number of the same key, or at a free slot
abbrev pub Landed : {K : Type 0} → (K → K → Bool) → (K → ℕ) → List K → List (Option ℕ) → K → Result ℕ ℕ → Type 0
Landed same hashed seen slots key (Ok g) = (place same key seen ≡ g) × (g < length seen)
Landed same hashed seen slots key (Err at) = Vacant same hashed seen slots key at

-- the keys that stand at some places; the first key stands for a place past the end
abbrev pub picked : {K : Type 0} → List K → List ℕ → List K
picked [] ps = []
picked (k ∷ ks) ps = map (λ p. slice_index_or (k ∷ ks) p k) ps

-- every place is one of n
abbrev pub Inside : ℕ → List ℕ → Type 0
Inside n ps = (g : ℕ) → g < length ps → slice_index ps g < n

-- an index of a batch: the keys of its rows, the first rows of the different keys seen, and the slots of the table over these
pub record Indexed (K : Type 0) : Type 0 where
  pub keys : List K
  pub firsts : List ℕ
  pub slots : List (Option ℕ)

-- what holds of an index of at most 256 rows: its first rows are rows, and its slots are sound over their keys
pub record Indexes {K : Type 0} (same : K → K → Bool) (hashed : K → ℕ) (rows : List (Row K)) (firsts : List ℕ) (slots : List (Option ℕ)) : Type 0 where
  pub short : length rows ≤ 256
  pub inside : Inside (length rows) firsts
  pub sound : Sound same hashed (picked (keys_of rows) firsts) slots
