-- Frames: their rows by rank, in SQL's words, and as a part of a slice.
use Rattle.std.proofs.Common.{◌≡◌, ℕ, zero, suc, ◌+◌, ◌-◌, ◌<◌, ◌≤◌, min, Bool, true, false, cond, ◌&&◌, leb, List, [], ◌∷◌, ◌++◌, length, take, drop, sym, refl, ap, ◌∙◌, ⊎_elim, arith, take-add}
use Rattle.std.specs.List.{slice_get}
use Rattle.std.proofs.lemmas.List.{drop-take, take-take, length-drop, length-take, take_all, drop_all}
use Rattle.std.proofs.lemmas.Slice.{between_is}
use Rattle.std.proofs.lemmas.Bool.{cases_lt, le-leb, lt-leb, and_from, and_left, and_right}
use Rattle.figures.specs.Lines.{picked, rows_between, rows_so_far, first_of, last_of}
use Rattle.figures.specs.Results.{frame}

-- a bound past the end of a list is as good as the end
pub take_min : {X : Type 0} (n : ℕ) (xs : List X) → take (min n (length xs)) xs ≡ take n xs
take_min n xs =
    ⊎_elim (λ (h : n < length xs). ap (λ m. take m xs) (omega arith))
    (λ (h : length xs ≤ n). take_all (min n (length xs)) xs (omega arith) ∙ sym (take_all n xs h))
    (cases_lt n (length xs))

drop_min : {X : Type 0} (n m : ℕ) (xs : List X) → length xs ≤ m → drop (min n m) xs ≡ drop n xs
drop_min n m xs h =
    ⊎_elim (λ (l : n < m). ap (λ k. drop k xs) (omega arith))
    (λ (l : m ≤ n). drop_all (min n m) xs (omega arith) ∙ sym (drop_all n xs (omega arith)))
    (cases_lt n m)

-- `&xs[low..high]`, where both bounds are cut at the end
pub cut : {X : Type 0} (xs : List X) (lo hi low high : ℕ) → low ≡ min lo (length xs) → high ≡ min hi (length xs) → take (high - low) (drop low xs) ≡ drop lo (take hi xs)
cut xs lo hi low high e h =
    between_is xs low high
    ∙ ap (λ n. drop n (take high xs)) e
    ∙ ap (λ n. drop (min lo (length xs)) (take n xs)) h
    ∙ ap (drop (min lo (length xs))) (take_min hi xs)
    ∙ drop_min lo (length xs) (take hi xs) (omega (arith, length-take hi xs))

pub nth_drop : {X : Type 0} (n : ℕ) (xs : List X) (k : ℕ) → slice_get (drop n xs) k ≡ slice_get xs (n + k)
nth_drop zero xs k = ap (slice_get xs) (omega arith)
nth_drop (suc n) [] k = refl
nth_drop (suc n) (x ∷ xs) k = nth_drop n xs k ∙ ap (slice_get (x ∷ xs)) (let e : suc (n + k) ≡ suc n + k = omega arith in e)

nth_take : {X : Type 0} (n : ℕ) (xs : List X) (k : ℕ) → k < n → slice_get (take n xs) k ≡ slice_get xs k
nth_take zero xs k h = absurd (let z : ⊥ = omega arith in z)
nth_take (suc n) [] k h = refl
nth_take (suc n) (x ∷ xs) zero h = refl
nth_take (suc n) (x ∷ xs) (suc k) h = nth_take n xs k (omega arith)

pub first_is : {X : Type 0} (xs : List X) → first_of xs ≡ slice_get xs 0
first_is [] = refl
first_is (x ∷ xs) = refl

pub last_is : {X : Type 0} (xs : List X) → last_of xs ≡ slice_get xs (length xs - 1)
last_is [] = refl
last_is (x ∷ []) = refl
last_is (x ∷ y ∷ ys) = last_is (y ∷ ys) ∙ ap (slice_get (x ∷ y ∷ ys)) (let e : suc (suc (length ys) - 1) ≡ suc (suc (length ys)) - 1 = omega arith in e)

module _ {X : Type 0} (test : ℕ → Bool) (lo hi : ℕ) (inside : (j : ℕ) → lo ≤ j → j < hi → test j ≡ true) (below : (j : ℕ) → j < lo → test j ≡ false) (above : (j : ℕ) → hi ≤ j → test j ≡ false) where
  drop_none : (n m : ℕ) (xs : List X) → m ≡ 0 → drop n (take m xs) ≡ []
  drop_none n m xs e = ap (λ k. drop n (take k xs)) e ∙ drop_all n [] (omega arith)

  -- the rows whose rank passes a test that holds from lo up to hi
  picked_is : (j : ℕ) (xs : List X) → picked test j xs ≡ drop (lo - j) (take (hi - j) xs)
  picked_is j [] = sym (drop_all (lo - j) [] (omega arith)) ∙ ap (drop (lo - j)) (sym (take_all (hi - j) [] (omega arith)))
  picked_is j (x ∷ xs) =
      let rest : List X = picked test (j + 1) xs in
      let out : test j ≡ false → picked test j (x ∷ xs) ≡ drop (lo - (j + 1)) (take (hi - (j + 1)) xs) = λ e. ap (λ b. cond b (x ∷ picked test (j + 1) xs) (picked test (j + 1) xs)) e ∙ picked_is (j + 1) xs in
      ⊎_elim
      (λ (h : j < hi).
      let more : suc (hi - (j + 1)) ≡ hi - j = omega arith in
      ⊎_elim
      (λ (l : j < lo).
      out (below j l)
      ∙ ap (λ n. drop (suc (lo - (j + 1))) (take n (x ∷ xs))) more
      ∙ ap (λ n. drop n (take (hi - j) (x ∷ xs))) (let e : suc (lo - (j + 1)) ≡ lo - j = omega arith in e))
      (λ (l : lo ≤ j).
      ap (λ b. cond b (x ∷ rest) rest) (inside j l h)
      ∙ ap (λ r. x ∷ r) (picked_is (j + 1) xs ∙ ap (λ n. drop n (take (hi - (j + 1)) xs)) (let e : lo - (j + 1) ≡ 0 = omega arith in e))
      ∙ ap (λ n. drop 0 (take n (x ∷ xs))) more
      ∙ ap (λ n. drop n (take (hi - j) (x ∷ xs))) (let e : 0 ≡ lo - j = omega arith in e))
      (cases_lt j lo))
      (λ (h : hi ≤ j).
      out (above j h) ∙ drop_none (lo - (j + 1)) (hi - (j + 1)) xs (omega arith) ∙ sym (drop_none (lo - j) (hi - j) (x ∷ xs) (omega arith)))
      (cases_lt j hi)

  from_first : (xs : List X) → picked test 0 xs ≡ drop lo (take hi xs)
  from_first xs =
      picked_is 0 xs
      ∙ ap (λ n. drop n (take (hi - 0) xs)) (let e : lo - 0 ≡ lo = omega arith in e)
      ∙ ap (λ n. drop lo (take n xs)) (let e : hi - 0 ≡ hi = omega arith in e)

-- SQL's frame is the rows of the ranks i - b to i + a
pub rows_between_is : {X : Type 0} (b a i : ℕ) (rows : List X) → rows_between b a i rows ≡ frame b a i rows
rows_between_is b a i rows =
    from_first (λ j. leb i (j + b) && leb j (i + a)) (i - b) (i + a + 1)
    (λ j l h. and_from (leb i (j + b)) (leb j (i + a)) (le-leb i (j + b) (omega arith)) (le-leb j (i + a) (omega arith)))
    (λ j l. and_left (leb i (j + b)) (leb j (i + a)) (lt-leb i (j + b) (omega arith)))
    (λ j h. and_right (leb i (j + b)) (leb j (i + a)) (lt-leb j (i + a) (omega arith)))
    rows

pub rows_so_far_is : {X : Type 0} (i : ℕ) (rows : List X) → rows_so_far i rows ≡ take (i + 1) rows
rows_so_far_is i rows =
    from_first (λ j. leb j i) 0 (i + 1) (λ j l h. le-leb j i (omega arith)) (λ j l. absurd (let z : ⊥ = omega arith in z)) (λ j h. lt-leb j i (omega arith)) rows

module _ {X : Type 0} (b a i : ℕ) (rows : List X) where
  -- the k-th row of the frame stands k ranks after its first
  pub frame_nth : (k : ℕ) → i - b + k < i + a + 1 → slice_get (frame b a i rows) k ≡ slice_get rows (i - b + k)
  frame_nth k h = nth_drop (i - b) (take (i + a + 1) rows) k ∙ nth_take (i + a + 1) rows (i - b + k) h

  pub length_frame : length (frame b a i rows) ≡ min (i + a + 1) (length rows) - (i - b)
  length_frame = length-drop (i - b) (take (i + a + 1) rows) ∙ ap (λ n. n - (i - b)) (length-take (i + a + 1) rows)

  -- the rows before the frame, and those of the frame up to the row itself
  pub frame_front : take (i - b) rows ++ take (i - (i - b) + 1) (frame b a i rows) ≡ take (i + 1) rows
  frame_front =
      let m : ℕ = i + a + 1 - (i - b) in
      let p : ℕ = i - (i - b) + 1 in
      let whole : i - b + m ≡ i + a + 1 = omega arith in
      let front : i - b + p ≡ i + 1 = omega arith in
      let body : frame b a i rows ≡ take m (drop (i - b) rows) = ap (λ n. drop (i - b) (take n rows)) (sym whole) ∙ drop-take (i - b) m rows in
      ap (λ f. take (i - b) rows ++ take p f) body
      ∙ ap (λ f. take (i - b) rows ++ f) (take-take p m (drop (i - b) rows) (omega arith))
      ∙ sym (take-add (i - b) p rows)
      ∙ ap (λ n. take n rows) front
