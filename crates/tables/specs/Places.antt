-- The places of a table.
use Rattle.std.specs.Prelude.{ℕ, ◌-◌, List, [], ◌∷◌, ◌++◌, map, length, replicate, Some, None, Option}

-- what stands in some places, in order
abbrev pub somes : {X : Type 0} → List (Option X) → List X
somes [] = []
somes (None ∷ places) = somes places
somes (Some x ∷ places) = x ∷ somes places

-- so many places, with the list in front and nothing behind
abbrev pub laid : {X : Type 0} → ℕ → List X → List (Option X)
laid size xs = map Some xs ++ replicate (size - length xs) None
