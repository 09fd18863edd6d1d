-- The lists that the three tables of a run hold, and what a call does to them.
use Rattle.std.specs.Prelude.{ℕ, zero, suc, ◌+◌, Bool, true, false, not, ◌&&◌, ◌||◌, List, [], ◌∷◌, ◌++◌, map, length, drop, fold, filter, nat_eq, nat_le, nat_lt, if◌then◌else◌}
use Rattle.searchers.specs.declared.rows.Row.{Row}
use Rattle.searchers.specs.declared.rows.Waiting.{Waiting}
use Rattle.searchers.specs.declared.rows.Held.{Held}
use Rattle.searchers.specs.Ends.{marked}
use Rattle.searchers.specs.Groups.{place, noticed}
use Rattle.tables.specs.declared.rows.Kept.{Kept}
use Rattle.tables.specs.declared.rows.OutRow.{OutRow}

pub record Lists (K R P : Type 0) : Type 0 where
  pub held : List (Held K P)
  pub waiting : List (Waiting K R)
  pub kept : List (Kept K)

abbrev pub none : {K R P : Type 0} → Lists K R P
none = record { held = []; waiting = []; kept = [] }

-- something of the element at a place, or d past the end
abbrev pub value_at : {X Y : Type 0} → (X → Y) → Y → List X → ℕ → Y
value_at f d [] i = d
value_at f d (x ∷ xs) zero = f x
value_at f d (x ∷ xs) (suc i) = value_at f d xs i

-- no held key has more than n rows
abbrev pub within : {K P : Type 0} → ℕ → List (Held K P) → Bool
within n [] = true
within n (e ∷ held) = nat_le e.rows n && within n held

-- Admission

abbrev pub held_keys : {K P : Type 0} → List (Held K P) → List K
held_keys held = map (λ e. e.key) held

-- the place of the first held key that is the same, or how many there are
abbrev pub place_in : {K P : Type 0} → (K → K → Bool) → K → List (Held K P) → ℕ
place_in same key held = place same key (held_keys held)

-- the different keys of some rows after those that were seen, in the order in which they come
abbrev pub distinct : {K : Type 0} → (K → K → Bool) → List K → List (Row K) → List K
distinct same seen rows = fold (λ keys row. noticed same row.key keys) seen rows

abbrev pub one_more : {K P : Type 0} → Held K P → Held K P
one_more e = record { key = e.key; rows = e.rows + 1; ended = e.ended; progress = e.progress }

abbrev pub new_key : {K P : Type 0} → P → K → Held K P
new_key start key = record { key = key; rows = 1; ended = false; progress = start }

-- the key's entry, or a new one at the end, has one row more
abbrev pub counted_in : {K P : Type 0} → (K → K → Bool) → P → K → List (Held K P) → List (Held K P)
counted_in same start key [] = new_key start key ∷ []
counted_in same start key (e ∷ held) = if same e.key key then one_more e ∷ held else e ∷ counted_in same start key held

-- a row joins the waiting and the kept rows, with its key's place; its rank is the number of its key's rows before it
abbrev pub admitted : {K R P : Type 0} → (K → K → Bool) → P → R → Lists K R P → Row K → Lists K R P
admitted same start blank t row = record {
  held = counted_in same start row.key t.held;
  waiting = t.waiting ++ (record {
    row = row;
    place = place_in same row.key t.held;
    rank = value_at (λ e. e.rows) 0 t.held (place_in same row.key t.held);
    results = blank;
  } ∷ []);
  kept = t.kept ++ (record { row = row; place = place_in same row.key t.held } ∷ []);
}

-- and so do the rows of a batch, one after the other
abbrev pub admit : {K R P : Type 0} → (K → K → Bool) → P → R → Lists K R P → List (Row K) → Lists K R P
admit same start blank t [] = t
admit same start blank t (row ∷ rows) = admit same start blank (admitted same start blank t row) rows

-- End marks

abbrev pub mark : {K R P : Type 0} → (K → Bool) → Lists K R P → Lists K R P
mark ended t = record { held = map (marked ended) t.held; waiting = t.waiting; kept = t.kept }

-- Rows that leave

abbrev pub out_row : {K R : Type 0} → Waiting K R → OutRow K R
out_row w = record { row = w.row; results = w.results }

-- the kept rows of a place
abbrev pub of_place : {K : Type 0} → ℕ → List (Kept K) → List (Kept K)
of_place p kept = filter (λ k. nat_eq k.place p) kept

-- the new place of a held key: how many of those before it have not ended
abbrev pub renumbered : {K P : Type 0} → List (Held K P) → ℕ → ℕ
renumbered [] p = 0
renumbered (e ∷ held) zero = 0
renumbered (e ∷ held) (suc p) = if e.ended then renumbered held p else suc (renumbered held p)

-- the kept rows of ended keys go, and of each other key all but the last `reach`
abbrev pub pruned : {K P : Type 0} → ℕ → List (Held K P) → List (Kept K) → List (Kept K)
pruned reach held [] = []
pruned reach held (k ∷ kept) =
    if value_at (λ e. e.ended) true held k.place || not (nat_lt (length (of_place k.place kept)) reach)
    then pruned reach held kept
    else record { row = k.row; place = renumbered held k.place } ∷ pruned reach held kept

abbrev pub moved : {K R P : Type 0} → List (Held K P) → Waiting K R → Waiting K R
moved held w = record { row = w.row; place = renumbered held w.place; rank = w.rank; results = w.results }

-- the first n waiting rows have left: if there are any, ended keys are dropped, and each other key keeps its last rows
abbrev pub let_go : {K R P : Type 0} → ℕ → ℕ → Lists K R P → Lists K R P
let_go reach zero t = t
let_go reach (suc n) t = record {
  held = filter (λ e. not e.ended) t.held;
  waiting = map (moved t.held) (drop (suc n) t.waiting);
  kept = pruned reach t.held t.kept;
}
