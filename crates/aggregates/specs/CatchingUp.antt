-- Every held key caught up, on the lists of a run's tables.
use Rattle.figures.specs.Cells.{Cell}
use Rattle.std.specs.Prelude.{ℕ, suc, List, [], ◌∷◌, map}
use Rattle.searchers.specs.declared.rows.Waiting.{Waiting}
use Rattle.searchers.specs.declared.rows.Held.{Held}
use Rattle.tables.specs.declared.rows.Kept.{Kept}
use Rattle.tables.specs.Lists.{Lists, value_at, of_place}
use Rattle.aggregates.specs.Figures.{Figures}

-- the cells of the kept rows of a place
abbrev pub cells_at : {K : Type 0} → ℕ → List (Kept K) → List (List Cell)
cells_at p kept = map (λ k. k.row.cells) (of_place p kept)

module _ {K R P : Type 0} (f : Figures P R) (kept : List (Kept K)) where
  abbrev pub forwarded_key : ℕ → Held K P → Held K P
  forwarded_key p e = record { key = e.key; rows = e.rows; ended = e.ended; progress = f.forward e.progress e.rows e.ended (cells_at p kept) }

  -- the held keys, of which the first has the place p
  abbrev pub forwarded : ℕ → List (Held K P) → List (Held K P)
  forwarded p [] = []
  forwarded p (e ∷ held) = forwarded_key p e ∷ forwarded (suc p) held

  abbrev pub written : List (Held K P) → Waiting K R → Waiting K R
  written held w = record {
    row = w.row;
    place = w.place;
    rank = w.rank;
    results = value_at (λ e. f.write e.progress e.rows e.ended (cells_at w.place kept) w.rank w.results) w.results held w.place;
  }

abbrev pub caught_up : {K R P : Type 0} → Figures P R → Lists K R P → Lists K R P
caught_up f t = record {
  held = forwarded f t.kept 0 t.held;
  waiting = map (written f t.kept t.held) t.waiting;
  kept = t.kept;
}
