-- The book: the accepted rows in order, and whether the run is finished. Everything here is worked out from these alone.
use Rattle.figures.specs.Cells.{Cell}
use Rattle.std.specs.Prelude.{ℕ, ◌+◌, ◌-◌, Bool, true, false, not, ◌||◌, List, [], ◌∷◌, ◌++◌, map, length, None, filter, nat_lt}
use Rattle.std.specs.List.{prefix_len}
use Rattle.searchers.specs.declared.rows.Row.{Row}
use Rattle.searchers.specs.Ends.{ended_at}
use Rattle.tables.specs.declared.rows.OutRow.{OutRow}
use Rattle.tables.specs.Lists.{distinct}
use Rattle.book.specs.Calls.{Settings, Facts, last_key}

pub record Book (K : Type 0) : Type 0 where
  pub rows : List (Row K)
  pub finished : Bool

-- at first it has no rows and is not finished
abbrev pub unwritten : {K : Type 0} → Book K
unwritten = record { rows = []; finished = false }

-- an accepted push adds its batch, an accepted finish finishes it, a refused call alters nothing
abbrev pub entered : {K : Type 0} → Book K → List (Row K) → Book K
entered b batch = record { rows = b.rows ++ batch; finished = b.finished }

abbrev pub closed : {K : Type 0} → Book K → Book K
closed b = record { rows = b.rows; finished = true }

-- a row with its rank: how many rows of its key stand before it
pub record Ranked (K : Type 0) : Type 0 where
  pub row : Row K
  pub rank : ℕ

-- a row with its rank and its results so far
pub record Standing (K R : Type 0) : Type 0 where
  pub row : Row K
  pub rank : ℕ
  pub results : R

module _ {K : Type 0} (same : K → K → Bool) where
  -- the rows of a key, and their cells
  abbrev pub rows_of : K → List (Row K) → List (Row K)
  rows_of key rows = filter (λ r. same r.key key) rows

  abbrev pub cells_of : K → List (Row K) → List (List Cell)
  cells_of key rows = map (λ r. r.cells) (rows_of key rows)

  -- each of some rows with its rank, where others stand before them
  abbrev pub ranked : List (Row K) → List (Row K) → List (Ranked K)
  ranked before [] = []
  ranked before (row ∷ rows) = record { row = row; rank = length (rows_of row.key before) } ∷ ranked (before ++ (row ∷ [])) rows

module _ {K R P : Type 0} (s : Settings K R P) (b : Book K) where
  -- the accepted rows, each with its rank
  abbrev pub in_turn : List (Ranked K)
  in_turn = ranked s.kind.same [] b.rows

  -- a key has ended: by the mode from the last accepted row's key, and after finish every key has
  abbrev pub ended : K → Bool
  ended key = b.finished || ended_at s.mode s.kind.same s.kind.parts (last_key None b.rows) key

  -- a row is settled: L later rows of its key are accepted, or its key has ended
  abbrev pub settled_row : Ranked K → Bool
  settled_row t = nat_lt (t.rank + s.figures.ahead) (length (rows_of s.kind.same t.row.key b.rows)) || ended t.row.key

  -- how long the longest beginning of the rows is that is settled throughout
  abbrev pub front : ℕ
  front = prefix_len settled_row in_turn

  -- a row with its results, worked out afresh from all the rows of its key
  abbrev pub afresh : Ranked K → OutRow K R
  afresh t = record { row = t.row; results = s.figures.result (cells_of s.kind.same t.row.key b.rows) t.rank }

  -- a row with its rank, and those of its results that are due
  abbrev pub as_due : Ranked K → Standing K R
  as_due t = record { row = t.row; rank = t.rank; results = s.figures.so_far (ended t.row.key) (cells_of s.kind.same t.row.key b.rows) t.rank }

  -- the keys that have not ended, in the order of their first rows
  abbrev pub open_keys : List K
  open_keys = filter (λ key. not (ended key)) (distinct s.kind.same [] b.rows)

  -- what the checks of a call look at; how many rows are kept is told
  abbrev pub book_facts : ℕ → Facts K
  book_facts kept = record {
    finished = b.finished;
    last = last_key None b.rows;
    accepted = length b.rows;
    waiting = length b.rows - front;
    kept = kept;
    held = open_keys;
  }
