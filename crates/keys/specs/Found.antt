-- Where a key stands among held keys.
use Rattle.std.specs.Prelude.{◌≡◌, ℕ, Bool, true, false, List, ◌∷◌, ◌++◌, length, Some, None, Option}
use Rattle.std.specs.List.{AllByRecursion, position}

-- the first place whose key is the same; or none
abbrev pub first_same : {K : Type 0} → (K → K → Bool) → K → List K → Option ℕ
first_same same key held = position (λ x. same x key) held

-- in other words: none where no held key is the same; else the place of one that is, behind none that is
abbrev pub FirstSame : {K : Type 0} → (K → K → Bool) → K → List K → Option ℕ → Type 0
FirstSame same key held None = AllByRecursion (λ x. same x key ≡ false) held
FirstSame {K} same key held (Some n) =
    (earlier : List K) × (x : K) × (later : List K) × (held ≡ earlier ++ (x ∷ later)) × (length earlier ≡ n) × AllByRecursion (λ y. same y key ≡ false) earlier × (same x key ≡ true)
