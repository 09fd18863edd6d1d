-- Which keys have ended, by the mode.
use Rattle.std.specs.Prelude.{◌≡◌, Bool, true, false, not, List, Some, None, Option}
use Rattle.std.specs.declared.cmp.Ordering.{Ordering}
use Rattle.std.specs.Ordering.{is_ne}
use Rattle.std.specs.List.{AllByRecursion}
use Rattle.searchers.specs.declared.modes.Mode.{Mode}
use Rattle.searchers.specs.declared.modes.Mode.TheVariants.{Sorted, PartlySorted, Linear}
use Rattle.searchers.specs.declared.rows.Held.{Held}
use Rattle.searchers.specs.Order.{lower, first_fall}

-- from the last accepted row's key: every other key; every key whose sorted part differs; none
abbrev pub ended_by : {K : Type 0} → Mode → (K → K → Bool) → (K → K → Ordering) → K → K → Bool
ended_by Sorted same parts last key = not (same key last)
ended_by PartlySorted same parts last key = is_ne (parts key last)
ended_by Linear same parts last key = false

-- before the first accepted row no key has ended
abbrev pub ended_at : {K : Type 0} → Mode → (K → K → Bool) → (K → K → Ordering) → Option K → K → Bool
ended_at mode same parts None key = false
ended_at mode same parts (Some last) key = ended_by mode same parts last key

-- an ended key that is not above the last accepted row's comes in no batch that passes the order check
abbrev pub EndedForGood : {K : Type 0} → (K → K → Bool) → (order parts : K → K → Ordering) → Type 0
EndedForGood {K} same order parts =
    (mode : Mode) (last key : K) (keys : List K)
    → lower mode order parts last key ≡ false → ended_by mode same parts last key ≡ true → first_fall (lower mode order parts) (Some last) 0 keys ≡ None
    → AllByRecursion (λ k. same k key ≡ false) keys

-- a held key, marked
abbrev pub marked : {K P : Type 0} → (K → Bool) → Held K P → Held K P
marked ended held = record { key = held.key; rows = held.rows; ended = ended held.key; progress = held.progress }
