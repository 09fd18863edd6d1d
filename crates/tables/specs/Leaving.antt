-- How the tables shrink once rows have left: the numbers that each pass counts with.
use Rattle.std.specs.Prelude.{◌≡◌, ℕ, ◌<◌, List, length, slice_get, slice_index}
use Rattle.std.specs.Option.{unwrap_or}
use Rattle.searchers.specs.declared.rows.Held.{Held}
use Rattle.searchers.specs.declared.rows.Waiting.{Waiting}
use Rattle.tables.specs.declared.numbers.NewPlaces.{NewPlaces}
use Rattle.tables.specs.declared.rows.Kept.{Kept}
use Rattle.tables.specs.Lists.{renumbered, of_place}
use Rattle.tables.specs.Rows.{rows}

-- numbers that are the new places of the held keys, and the one of any place past the end
pub record Numbered {K P : Type 0} (held : List (Held K P)) (new : NewPlaces) : Type 0 where
  pub long : length (rows new.places) ≡ length held
  pub each : (p : ℕ) → p < length held → slice_index (rows new.places) p ≡ renumbered held p
  pub past : new.live ≡ renumbered held (length held)

abbrev pub new_place : NewPlaces → ℕ → ℕ
new_place new p = unwrap_or (slice_get (rows new.places) p) new.live

-- a waiting row at its key's new place
abbrev pub moved_by : {K R : Type 0} → NewPlaces → Waiting K R → Waiting K R
moved_by new w = record { row = w.row; place = new_place new w.place; rank = w.rank; results = w.results }

-- a kept row at its key's new place
abbrev pub placed_by : {K : Type 0} → NewPlaces → Kept K → Kept K
placed_by new k = record { row = k.row; place = new_place new k.place }

-- numbers that count the rows of each place
abbrev pub Counted : {K : Type 0} → List (Kept K) → List ℕ → Type 0
Counted kept counts = (p : ℕ) → p < length counts → slice_index counts p ≡ length (of_place p kept)
