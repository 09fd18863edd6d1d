-- What any list of pushes and finishes leads to, on the lists that a run holds, and that the law holds there.
use Rattle.std.specs.Prelude.{ℕ, List, [], ◌++◌, length, Some, None, Option}
use Rattle.searchers.specs.declared.modes.Mode.{Mode}
use Rattle.searchers.specs.declared.rows.Row.{Row}
use Rattle.faults.specs.declared.told.Told.{Told}
use Rattle.tables.specs.declared.rows.OutRow.{OutRow}
use Rattle.aggregates.specs.Figures.{Figures, Theory}
use Rattle.book.specs.Calls.{Kind, Settings, View, fresh, pushed, finished_by}
use Rattle.book.specs.Book.{Book, unwritten, entered, closed}
use Rattle.book.specs.Law.{Latest, kept_rows, Law}

-- what the book and the latest call become: nothing changes where the call was refused
abbrev pub noted : {K : Type 0} → Option Told → Book K → Book K → Book K
noted None b b' = b'
noted (Some told) b b' = b

abbrev pub brought : {K : Type 0} → Option Told → List (Row K) → List (Row K)
brought None batch = batch
brought (Some told) batch = []

module _ {K R P : Type 0} (s : Settings K R P) where
  pub data Reached : View K R P → Book K → List (OutRow K R) → Latest K → Type 0 where
    made : Reached fresh unwritten [] (record { put = 0; before = []; came = [] })
    push : (v : View K R P) (b : Book K) (outs : List (OutRow K R)) (latest : Latest K) (batch : List (Row K)) (places : ℕ) → Reached v b outs latest
        → Reached (pushed s v batch places).view (noted (pushed s v batch places).fault b (entered b batch)) (outs ++ (pushed s v batch places).put)
        (record { put = length (pushed s v batch places).put; before = kept_rows v; came = brought (pushed s v batch places).fault batch })
    finish : (v : View K R P) (b : Book K) (outs : List (OutRow K R)) (latest : Latest K) (places : ℕ) → Reached v b outs latest
        → Reached (finished_by s v places).view (noted (finished_by s v places).fault b (closed b)) (outs ++ (finished_by s v places).put)
        (record { put = length (finished_by s v places).put; before = kept_rows v; came = [] })

-- the law, for every mode and every set of figures that keeps its theory
abbrev pub LawfulCalls : (K R P : Type 0) → Kind K → Type 0
LawfulCalls K R P kind = (mode : Mode) (f : Figures P R) → Theory f
    → (v : View K R P) (b : Book K) (outs : List (OutRow K R)) (latest : Latest K)
    → Reached (record { kind = kind; mode = mode; figures = f }) v b outs latest
    → Law (record { kind = kind; mode = mode; figures = f }) v b outs latest
