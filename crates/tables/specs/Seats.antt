-- The places of the groups of a batch among the held keys, while it is admitted: a group that is as large as their number is a new one.
use Rattle.std.specs.Prelude.{ℕ, List, [], ◌∷◌, ◌++◌, length, nat_lt, if◌then◌else◌}

-- the places, with the one of a new group
abbrev pub seated : ℕ → ℕ → List ℕ → List ℕ
seated group place places = if nat_lt group (length places) then places else places ++ place ∷ []
