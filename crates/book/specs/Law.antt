-- The law: what holds of a run before the first call and after each one. v is what the run holds, b its book, outs the rows out, in order, and latest tells of the latest call.
use Rattle.std.specs.Prelude.{◌≡◌, ℕ, ◌+◌, ◌<◌, min, true, false, if◌then◌else◌, List, [], ◌++◌, map, length, take, drop, None}
use Rattle.figures.specs.Catching.{last}
use Rattle.searchers.specs.declared.rows.Row.{Row}
use Rattle.searchers.specs.declared.rows.Waiting.{Waiting}
use Rattle.searchers.specs.Leaving.{LongestFront}
use Rattle.tables.specs.declared.rows.OutRow.{OutRow}
use Rattle.tables.specs.Lists.{none}
use Rattle.book.specs.Calls.{Settings, View, last_key, view_facts, push_refusal, finish_refusal}
use Rattle.book.specs.Book.{Book, Standing, rows_of, in_turn, ended, settled_row, afresh, as_due, open_keys, book_facts}

-- the latest call: how many rows it put out, the rows kept before it, and the rows that it brought (none where it was refused)
pub record Latest (K : Type 0) : Type 0 where
  pub put : ℕ
  pub before : List (Row K)
  pub came : List (Row K)

abbrev pub standing : {K R : Type 0} → Waiting K R → Standing K R
standing w = record { row = w.row; rank = w.rank; results = w.results }

-- the rows kept
abbrev pub kept_rows : {K R P : Type 0} → View K R P → List (Row K)
kept_rows v = map (λ k. k.row) v.tables.kept

module _ {K R P : Type 0} (s : Settings K R P) where
  pub record Law (v : View K R P) (b : Book K) (outs : List (OutRow K R)) (latest : Latest K) : Type 0 where
    -- Rows out are exactly the longest beginning of the accepted rows that is settled throughout: every row of it is settled, and the row behind it, if there is one, is not.
    pub longest : LongestFront (λ t. settled_row s b t ≡ true) (in_turn s b) (length outs)
    -- Their results are those that the book works out afresh.
    pub out_afresh : outs ≡ map (afresh s b) (take (length outs) (in_turn s b))
    -- Rows waiting are the accepted ones behind those, in order, each with its rank and its due results.
    pub waiting_rest : map standing v.tables.waiting ≡ map (as_due s b) (drop (length outs) (in_turn s b))
    -- The counts are right, and accepted is out plus waiting.
    pub accepted : v.accepted ≡ length b.rows
    pub counted : v.out ≡ length outs
    pub nothing_lost : v.accepted ≡ v.out + length v.tables.waiting
    -- A finished run has no row waiting, keeps none and holds no key.
    pub finished : v.finished ≡ b.finished
    pub emptied : b.finished ≡ true → v.tables ≡ none
    -- The last key is the last accepted row's.
    pub last_is : v.last ≡ last_key None b.rows
    -- The keys held are the unended ones in order of first row, each with the number of its rows.
    pub keys_held : map (λ e. e.key) v.tables.held ≡ open_keys s b
    pub keys_counted : map (λ e. e.rows) v.tables.held ≡ map (λ key. length (rows_of s.kind.same key b.rows)) (open_keys s b)
    -- After a call that put rows out, a key that has not ended keeps exactly the last min(n, W) of its n rows, and no row of an ended key is kept.
    pub cut : 0 < latest.put → (key : K)
        → rows_of s.kind.same key (kept_rows v)
        ≡ (if ended s b key then [] else last (min (length (rows_of s.kind.same key b.rows)) s.figures.reach) (rows_of s.kind.same key b.rows))
    -- After one that put none out, unless it finished the run, the rows kept are those before it and then those that it brought.
    pub uncut : latest.put ≡ 0 → b.finished ≡ false → kept_rows v ≡ latest.before ++ latest.came
    -- The next call is refused exactly for the first cause that the book knows of.
    pub push_refused : (batch : List (Row K)) (places : ℕ) → push_refusal s (view_facts v) batch places ≡ push_refusal s (book_facts s b (length (kept_rows v))) batch places
    pub finish_refused : (places : ℕ) → finish_refusal s (view_facts v) places ≡ finish_refusal s (book_facts s b (length (kept_rows v))) places
