-- What a table's places are, by the list of what it holds.
use Rattle.std.proofs.Common.{◌≡◌, ℕ, ◌-◌, ◌<◌, ◌≤◌, List, [], ◌∷◌, ◌++◌, map, length, get_or, take, drop, set, replicate, Some, None, Option, sym, refl, ap, ◌∙◌, arith}
use lib.ListN.{length-map}
use lib.Seq.{paste}
use Rattle.std.specs.List.{slice_get}
use Rattle.std.proofs.lemmas.List.{take_all, drop_all}
use Rattle.tables.specs.declared.table.Table.{Table}
use Rattle.tables.specs.Places.{somes, laid}
use Rattle.tables.specs.Rows.{rows}
use Rattle.tables.proofs.Laid.{laid_size, set_laid, push_laid, laid_get, take_laid, drop_laid, cut_laid, shift_laid}

-- values that all stand in a row
pub somes_front : {X : Type 0} (xs : List X) → somes (map Some xs) ≡ xs
somes_front [] = refl
somes_front (x ∷ xs) = ap (λ l. x ∷ l) (somes_front xs)

module _ {T : Type 0} {N : ℕ} (t : Table T N) where
  pub rows_few : length (rows t) ≤ N
  unfolding rows
  rows_few = omega (arith, t.count, t.few)

  pub places_size : length t.places ≡ N
  places_size = ap length t.packed ∙ laid_size N (somes t.places) (omega (arith, t.count, t.few))

  pub rows_long : t.len ≡ length (rows t)
  unfolding rows
  rows_long = t.count

  pub packed_rows : t.places ≡ laid N (rows t)
  unfolding rows
  packed_rows = t.packed

  -- what is read below the length
  pub place_read : (i : ℕ) (o : Option T) → i < t.len → o ≡ get_or t.places i o → o ≡ slice_get (rows t) i
  place_read i o h is = laid_get N (rows t) i o (omega (arith, rows_long)) (is ∙ ap (λ (l : List (Option T)). get_or l i o) packed_rows)

  pub put_places : (i : ℕ) (x : T) → i < t.len → set t.places i (Some x) ≡ laid N (set (rows t) i x)
  put_places i x h = ap (λ l. set l i (Some x)) packed_rows ∙ set_laid N (rows t) i x (omega (arith, rows_long))

  pub push_places : (x : T) → length (rows t) < N → set t.places t.len (Some x) ≡ laid N (rows t ++ x ∷ [])
  push_places x h =
      ap (λ i. set t.places i (Some x)) rows_long
      ∙ ap (λ l. set l (length (rows t)) (Some x)) packed_rows
      ∙ push_laid N (rows t) x h

  pub front_places : take t.len t.places ≡ map Some (rows t)
  front_places =
      ap (take t.len) packed_rows
      ∙ take_laid N (rows t) t.len (omega (arith, rows_long))
      ∙ ap (map Some) (take_all t.len (rows t) (omega (arith, rows_long)))

  pub front_long : length (take t.len t.places) ≡ length (rows t)
  front_long = ap length front_places ∙ length-map (rows t) Some

  pub front_values : somes (take t.len t.places) ≡ rows t
  front_values = ap somes front_places ∙ somes_front (rows t)

  -- as many other values in the places up to the length
  pub front_written : (ys : List T) → length ys ≡ length (rows t) → map Some ys ++ drop t.len t.places ≡ laid N ys
  front_written ys same =
      ap (λ l. map Some ys ++ drop t.len l) packed_rows
      ∙ ap (λ l. map Some ys ++ l) (drop_laid N (rows t) t.len (omega (arith, rows_long)))
      ∙ ap (λ l. map Some ys ++ (map Some l ++ replicate (N - length (rows t)) None)) (drop_all t.len (rows t) (omega (arith, rows_long)))
      ∙ ap (λ k. map Some ys ++ replicate (N - k) None) (sym same)

  pub cut_places : (n : ℕ) → n < t.len → (blanks : List (Option T)) → blanks ≡ replicate (t.len - n) None
      → take n t.places ++ (blanks ++ drop (t.len - n) (drop n t.places)) ≡ laid N (take n (rows t))
  cut_places n h blanks e =
      ap (λ l. take n t.places ++ (l ++ drop (t.len - n) (drop n t.places))) e
      ∙ ap (λ k. take n t.places ++ (replicate (k - n) None ++ drop (k - n) (drop n t.places))) rows_long
      ∙ ap (λ l. take n l ++ (replicate (length (rows t) - n) None ++ drop (length (rows t) - n) (drop n l))) packed_rows
      ∙ cut_laid N (rows t) n (omega (arith, rows_long)) rows_few

  pub shift_places : (n : ℕ) → n < t.len → {there : List (Option T)} → there ≡ paste t.places 0 (drop n t.places) (t.len - n) → there ≡ laid N (drop n (rows t) ++ drop (t.len - n) (rows t))
  shift_places n h made =
      made
      ∙ ap (λ l. paste l 0 (drop n l) (t.len - n)) packed_rows
      ∙ shift_laid N (rows t) n (t.len - n) (omega (arith, rows_long))
