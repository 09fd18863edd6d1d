-- One key caught up: what a figure gives from a part of the key's rows, the first of which has the rank `first`, and from the carry of a rank.
use Rattle.std.specs.Prelude.{◌≡◌, ℕ, zero, suc, ◌+◌, ◌-◌, ◌<◌, ◌≤◌, min, Bool, true, false, if◌then◌else◌, ◌||◌, List, [], ◌∷◌, ◌++◌, map, length, take, drop, Some, None, Option, nat_le, nat_lt}
use Rattle.std.specs.List.{range_with_len, slice_get}
use Rattle.figures.specs.declared.carry.Carry.{Carry}
use Rattle.figures.specs.declared.figure.Figure as figure
use Rattle.figures.specs.Cells.{Cell, Outcome}
use Rattle.figures.specs.Results.{carried, outcome_of}

-- the result of rank i, of a figure that reaches `a` rows ahead, is due: so many later rows of the key have come, or the key has ended
abbrev pub is_due : ℕ → Bool → ℕ → ℕ → Bool
is_due n ended a i = ended || nat_lt (i + a) n

-- how many of n rows have a due result
abbrev pub due : ℕ → Bool → ℕ → ℕ
due n ended a = if ended then n else n - a

-- the last k of a list
abbrev pub last : {X : Type 0} → ℕ → List X → List X
last k xs = drop (length xs - k) xs

module _ {F : Type 0} (g : figure.Ghosts F) (f : F) where
  -- the result of rank i, from its carry
  abbrev pub worked : Carry → ℕ → List (List Cell) → ℕ → Outcome
  worked k first rows i = g.yields f k (drop (i - g.back f - first) (take (i + g.ahead f + 1 - first) rows)) (i - (i - g.back f))

  abbrev pub absorbed_row : Carry → Option (List Cell) → Carry
  absorbed_row k None = k
  absorbed_row k (Some row) = g.absorbs f k row

  -- the carry of the rank after i, from that of i: the row that the frame leaves behind is absorbed
  abbrev pub passed : Carry → ℕ → List (List Cell) → ℕ → Carry
  passed k first rows i = if nat_le (g.back f) i then absorbed_row k (slice_get rows (i - g.back f - first)) else k

  -- the results of n ranks from i on, and the carry of the rank after them
  abbrev pub stretch : Carry → ℕ → List (List Cell) → ℕ → ℕ → List Outcome
  stretch k first rows i zero = []
  stretch k first rows i (suc n) = worked k first rows i ∷ stretch (passed k first rows i) first rows (i + 1) n

  abbrev pub carry_after : Carry → ℕ → List (List Cell) → ℕ → ℕ → Carry
  carry_after k first rows i zero = k
  carry_after k first rows i (suc n) = carry_after (passed k first rows i) first rows (i + 1) n

  -- rows and carry are held for the results from the rank i on: the rows are those of the key from the rank `first` on, no frame to come begins before that, and the carry is that of rank i
  pub record Held (all : List (List Cell)) (k : Carry) (first : ℕ) (rows : List (List Cell)) (i : ℕ) : Type 0 where
    pub suffix : rows ≡ drop first all
    pub reached : first ≤ i - g.back f
    pub carry : k ≡ carried g f all i

  -- n results from the rank i on, and the carry of the rank after them, are those of all the key's rows, whichever these are, if rows and carry were held for them
  abbrev pub Right : Carry → ℕ → List (List Cell) → ℕ → ℕ → List Outcome → Carry → Type 0
  Right k first rows i n results k' = (all : List (List Cell)) → Held all k first rows i → (results ≡ map (outcome_of g f all) (range_with_len i n)) × (k' ≡ carried g f all (i + n))

  -- a key is up to date: the kept rows are its last, at least min(n, w) of its n rows, and the carry is that of the first rank not due
  pub record UpToDate (w : ℕ) (all kept : List (List Cell)) (ended : Bool) (k : Carry) : Type 0 where
    pub suffix : kept ≡ last (length kept) all
    pub enough : min (length all) w ≤ length kept
    pub carry : k ≡ carried g f all (due (length all) ended (g.ahead f))

  -- the rows `new` came for a key that was up to date, and it ended or not; k' is the carry after the results that came due
  pub record BroughtUp (w : ℕ) (all kept new : List (List Cell)) (was is : Bool) (k k' : Carry) : Type 0 where
    -- the results of the ranks from the first not due before on can be worked out from the kept and the new rows
    pub held : Held (all ++ new) k (length all - length kept) (kept ++ new) (due (length all) was (g.ahead f))
    -- no result that was due is not due now
    pub grows : due (length all) was (g.ahead f) ≤ due (length (all ++ new)) is (g.ahead f)
    -- and each that was due keeps its value
    pub stays : (i : ℕ) → i < due (length all) was (g.ahead f) → outcome_of g f (all ++ new) i ≡ outcome_of g f all i
    -- with all the rows kept, and after they were cut to the last min(n, w)
    pub next : UpToDate w (all ++ new) (kept ++ new) is k'
    pub cut : UpToDate w (all ++ new) (last (min (length (all ++ new)) w) (kept ++ new)) is k'

  -- the carry after the results that came due
  abbrev pub caught_up : List (List Cell) → List (List Cell) → List (List Cell) → Bool → Bool → Carry → Carry
  caught_up all kept new was is k =
      carry_after k (length all - length kept) (kept ++ new) (due (length all) was (g.ahead f)) (due (length (all ++ new)) is (g.ahead f) - due (length all) was (g.ahead f))

-- nothing comes for a key that had ended
abbrev pub Follows : Bool → Bool → List (List Cell) → Type 0
Follows was is new = was ≡ true → (is ≡ true) × (new ≡ [])

-- what holds of every figure of a kind, as a key's rows come little by little and only its last rows are kept
pub record KeepsUp {F : Type 0} (g : figure.Ghosts F) : Type 0 where
  -- a new key is up to date
  pub starts : (f : F) (w : ℕ) → UpToDate g f w [] [] false (g.starts f)
  -- from what is held, the results and the carry are those of all the rows
  pub gives : (f : F) (k : Carry) (first : ℕ) (rows : List (List Cell)) (i n : ℕ) → Right g f k first rows i n (stretch g f k first rows i n) (carry_after g f k first rows i n)
  -- a result with its rows after it does not change as more rows come
  pub stable : (f : F) (all more : List (List Cell)) (i : ℕ) → i + g.ahead f < length all → outcome_of g f (all ++ more) i ≡ outcome_of g f all i
  -- a key that is up to date can be brought up to date, and the last min(n, w) of its rows suffice
  pub brings : (f : F) (w : ℕ) (all kept new : List (List Cell)) (was is : Bool) (k : Carry) → g.back f + g.ahead f ≤ w → Follows was is new
      → UpToDate g f w all kept was k → BroughtUp g f w all kept new was is k (caught_up g f all kept new was is k)
