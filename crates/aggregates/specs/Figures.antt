-- What a run needs of a set of figures, and what the theory of one key gives of it. P is what is held for a key, R the results of a row.
use Rattle.figures.specs.Cells.{Cell}
use Rattle.std.specs.Prelude.{◌≡◌, ℕ, ◌+◌, ◌-◌, ◌<◌, ◌≤◌, Bool, true, false, List, [], ◌++◌, length, drop}

pub record Figures (P R : Type 0) : Type 0 where
  -- the largest reach after, and the largest sum of a figure's two reaches
  pub ahead : ℕ
  pub reach : ℕ
  -- what is held for a new key, and the results of a new row
  pub start : P
  pub blank : R
  -- one key caught up: from what is held for it, the number of its rows, whether it has ended, and its kept rows
  pub forward : P → ℕ → Bool → List (List Cell) → P
  -- and with it a waiting row of that key: from its rank and its results so far
  pub write : P → ℕ → Bool → List (List Cell) → ℕ → R → R
  -- the results of a rank, from all the rows of its key
  pub result : List (List Cell) → ℕ → R
  -- those of them that are due, where the key has ended or not
  pub so_far : Bool → List (List Cell) → ℕ → R

pub record Theory {P R : Type 0} (f : Figures P R) : Type 0 where
  -- what is held for a key that is caught up and has not ended, from all its rows
  pub state : List (List Cell) → P
  pub starts : f.start ≡ state []
  -- a row that has not come yet has no result
  pub blanks : (xs : List (List Cell)) (i : ℕ) → length xs ≤ i → f.blank ≡ f.so_far false xs i
  -- a row with enough rows after it has its results, and keeps them
  pub ready : (xs : List (List Cell)) (i : ℕ) → i + f.ahead < length xs → f.so_far false xs i ≡ f.result xs i
  pub lasts : (xs ys : List (List Cell)) (i : ℕ) → i + f.ahead < length xs → f.result (xs ++ ys) i ≡ f.result xs i
  -- the rows ys came for a key that goes on, of which all but the first d rows are kept
  pub forwards : (xs ys : List (List Cell)) (d : ℕ) → d ≤ length xs - f.reach
      → f.forward (state xs) (length (xs ++ ys)) false (drop d (xs ++ ys)) ≡ state (xs ++ ys)
  pub writes : (xs ys : List (List Cell)) (d : ℕ) → d ≤ length xs - f.reach → (i : ℕ) → i < length (xs ++ ys)
      → f.write (state xs) (length (xs ++ ys)) false (drop d (xs ++ ys)) i (f.so_far false xs i) ≡ f.so_far false (xs ++ ys) i
  -- or they came and the key ended
  pub ends : (xs ys : List (List Cell)) (d : ℕ) → d ≤ length xs - f.reach → (i : ℕ) → i < length (xs ++ ys)
      → f.write (state xs) (length (xs ++ ys)) true (drop d (xs ++ ys)) i (f.so_far false xs i) ≡ f.result (xs ++ ys) i
