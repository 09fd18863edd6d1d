-- The first of several causes, each of which may be there or not.
use Rattle.std.specs.Prelude.{List, [], ◌∷◌, Some, None, Option}
use Rattle.faults.specs.declared.told.Told.{Told}

abbrev pub first_of : List (Option Told) → Option Told
first_of [] = None
first_of (None ∷ causes) = first_of causes
first_of (Some told ∷ causes) = Some told
