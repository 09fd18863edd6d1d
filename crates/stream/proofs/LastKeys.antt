-- The key of the last of some rows, read at its place.
use Rattle.std.proofs.Common.{◌≡◌, ◌-◌, List, [], ◌∷◌, length, Some, Option, refl, arith}
use Rattle.std.specs.List.{slice_get}
use Rattle.std.specs.Option.{option_map, option_or}
use Rattle.searchers.specs.declared.rows.Row.{Row}
use Rattle.book.specs.Calls.{last_key}

module _ {K : Type 0} where
  abbrev pub key_of : Row K → K
  key_of row = row.key

  behind : (row : Row K) (rows : List (Row K)) (last before : Option K) → option_or (option_map key_of (slice_get (row ∷ rows) (length rows))) before ≡ last_key last (row ∷ rows)
  behind row [] last before = refl
  behind row (next ∷ rows) last before = behind next rows (Some row.key) before

  pub last_key_is : (last : Option K) (rows : List (Row K)) → option_or (option_map key_of (slice_get rows (length rows - 1))) last ≡ last_key last rows
  last_key_is last [] = refl
  last_key_is last (row ∷ rows) = let e : length (row ∷ rows) - 1 ≡ length rows = omega arith in rw e (behind row rows last last)
