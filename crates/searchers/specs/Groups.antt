-- The groups of a batch: the rows of one key are a group, and the groups are numbered in the order of their first rows.
use Rattle.std.specs.Prelude.{◌≡◌, ℕ, suc, ◌+◌, ◌-◌, ◌<◌, ◌≤◌, Bool, if◌then◌else◌, List, [], ◌∷◌, ◌++◌, length, take, replicate, Some, None, Option, ◌==◌, ◌≢◌, nat_lt, slice_index_or}
use Rattle.std.specs.declared.cmp.Ordering.TheVariants.{Greater}
use Rattle.std.specs.declared.cmp.Ordering.{Ordering}
use Rattle.searchers.specs.declared.groups.Groups.{Groups}

-- the place of the first key that is the same, or the length where there is none
abbrev pub place : {K : Type 0} → (K → K → Bool) → K → List K → ℕ
place same key [] = 0
place same key (s ∷ seen) = if same s key then 0 else suc (place same key seen)

-- the different keys seen, with one key more
abbrev pub noticed : {K : Type 0} → (K → K → Bool) → K → List K → List K
noticed same key seen = if nat_lt (place same key seen) (length seen) then seen else (seen ++ (key ∷ []))

-- each row's group
abbrev pub group_ids : {K : Type 0} → (K → K → Bool) → List K → List K → List ℕ
group_ids same seen [] = []
group_ids same seen (key ∷ keys) = place same key seen ∷ group_ids same (noticed same key seen) keys

-- each group's first row, counted on from i
abbrev pub group_firsts : {K : Type 0} → (K → K → Bool) → List K → ℕ → List K → List ℕ
group_firsts same seen i [] = []
group_firsts same seen i (key ∷ keys) =
    if nat_lt (place same key seen) (length seen)
    then group_firsts same (noticed same key seen) (i + 1) keys
    else (i ∷ group_firsts same (noticed same key seen) (i + 1) keys)

-- 256, which is no row and no group, in each unused place
abbrev pub padded : List ℕ → List ℕ
padded numbers = numbers ++ replicate (256 - length numbers) 256

-- 256 places, of which the first n are used
pub record Laid (places : List ℕ) (n : ℕ) : Type 0 where
  pub wide : length places ≡ 256
  pub few : n ≤ 256
  pub rest : places ≡ padded (take n places)

-- groups by each row's group and each group's first row
abbrev pub by_numbers : List ℕ → List ℕ → Groups
by_numbers ids firsts = record { ids = padded ids; firsts = padded firsts; count = length firsts }

abbrev pub grouped : {K : Type 0} → (K → K → Bool) → List K → Groups
grouped same keys = by_numbers (group_ids same [] keys) (group_firsts same [] 0 keys)

-- how a key stands to the one before it; the first stands above
abbrev pub rise : {K : Type 0} → (K → K → Ordering) → Option K → K → Ordering
rise order None key = Greater
rise order (Some before) key = order key before

-- the groups of a batch without a fall, none of another
abbrev pub if_sorted : Option ℕ → Groups → Option Groups
if_sorted None groups = Some groups
if_sorted (Some i) groups = None

-- the place after the last that holds g, where the places are counted on from i and e is the answer so far
abbrev pub after_last : ℕ → ℕ → ℕ → List ℕ → ℕ
after_last g i e [] = e
after_last g i e (x ∷ xs) = after_last g (i + 1) (if x == g then i + 1 else e) xs

-- in other words: the place before e holds g, unless e is 0, and no place from e on does
pub record AfterLast (g : ℕ) (ids : List ℕ) (e : ℕ) : Type 0 where
  pub within : e ≤ length ids
  pub last : 0 < e → slice_index_or ids (e - 1) 256 ≡ g
  pub none : (i : ℕ) → e ≤ i → i < length ids → slice_index_or ids i 256 ≢ g

-- from a group's first row to the place after its last row
abbrev pub range : Groups → ℕ → ℕ × ℕ
range groups g = (slice_index_or groups.firsts g 256, after_last g 0 0 groups.ids)

-- what the numbers mean
pub record GroupsOf {K : Type 0} (same : K → K → Bool) (keys : List K) (groups : Groups) : Type 0 where
  -- two rows are in one group exactly where their keys are the same
  pub together : (i j : ℕ) (d : K) → i < length keys → j < length keys → (slice_index_or groups.ids i 256 == slice_index_or groups.ids j 256) ≡ same (slice_index_or keys i d) (slice_index_or keys j d)
  -- each row's group is one of those counted
  pub within : (i : ℕ) → i < length keys → slice_index_or groups.ids i 256 < groups.count
  -- a group's first row is in it, and the rows before that are of earlier groups
  pub first : (g : ℕ) → g < groups.count
      → (slice_index_or groups.firsts g 256 < length keys)
      × (slice_index_or groups.ids (slice_index_or groups.firsts g 256) 256 ≡ g)
      × ((i : ℕ) → i < slice_index_or groups.firsts g 256 → slice_index_or groups.ids i 256 < g)
