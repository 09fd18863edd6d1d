-- The first cause among several.
use Rattle.std.proofs.Common.{◌≡◌, ℕ, zero, suc, ◌<◌, ◌≤◌, Bool, true, false, ltb, List, [], ◌∷◌, ◌++◌, take, Some, None, Option, refl, ap, ◌∙◌, inl, inr, arith}
use Rattle.std.specs.Bool.{then_some}
use Rattle.std.specs.List.{AllByRecursion, slice_get}
use Rattle.std.proofs.lemmas.Bool.{cases_Bool}
use Rattle.std.proofs.lemmas.Bool.Decides.{nat_tests}
use Rattle.faults.specs.declared.told.Told.{Told}
use Rattle.faults.specs.Causes.{first_of}

-- a cause behind which there are none in front is the first
pub first_at : (n : ℕ) (causes : List (Option Told)) (told : Told) → AllByRecursion (λ cause. cause ≡ None) (take n causes) → slice_get causes n ≡ Some (Some told) → first_of causes ≡ Some told
first_at n [] told none is = let z : ◌≡◌ {A = ℕ} 0 1 = cc in absurd (omega arith)
first_at zero (cause ∷ causes) told none is = let e : cause ≡ Some told = cc in ap (λ c. first_of (c ∷ causes)) e
first_at (suc n) (cause ∷ causes) told none is = ap (λ c. first_of (c ∷ causes)) none.0 ∙ first_at n causes told none.1 is

-- where there is no cause there is no first
pub none_first : (causes : List (Option Told)) → AllByRecursion (λ cause. cause ≡ None) causes → first_of causes ≡ None
none_first [] none = refl
none_first (cause ∷ causes) none = ap (λ c. first_of (c ∷ causes)) none.0 ∙ none_first causes none.1

-- where no cause is the first, there is none
pub no_cause : (causes : List (Option Told)) → first_of causes ≡ None → AllByRecursion (λ cause. cause ≡ None) causes
no_cause [] e = tt
no_cause (None ∷ causes) e = (refl, no_cause causes e)
no_cause (Some told ∷ causes) e = let z : ◌≡◌ {A = ℕ} 0 1 = cc in absurd (omega arith)

pub when_above : (m n : ℕ) (told : Told) → m < n → then_some (ltb m n) told ≡ Some told
when_above m n told h = let e : ltb m n ≡ true = grind (arith, nat_tests) in ap (λ b. then_some b told) e

pub when_not_above : (m n : ℕ) (told : Told) → n ≤ m → then_some (ltb m n) told ≡ None
when_not_above m n told h = let e : ltb m n ≡ false = grind (arith, nat_tests) in ap (λ b. then_some b told) e

pub not_above : (m n : ℕ) (told : Told) → then_some (ltb m n) told ≡ None → n ≤ m
not_above m n told e = elim (cases_Bool (ltb m n)) [
  | inl t ↦ (let z : ◌≡◌ {A = ℕ} 0 1 = cc in absurd (omega arith))
  | inr f ↦ grind (arith, nat_tests)
]

-- causes that are not there can be passed over
pub past : (before rest : List (Option Told)) → AllByRecursion (λ cause. cause ≡ None) before → first_of (before ++ rest) ≡ first_of rest
past [] rest none = refl
past (cause ∷ before) rest none = ap (λ c. first_of (c ∷ (before ++ rest))) none.0 ∙ past before rest none.1

-- a cause that is not there
pub when_none : (b : Bool) (told : Told) → then_some b told ≡ None → b ≡ false
when_none true told e = let z : ◌≡◌ {A = ℕ} 0 1 = cc in absurd (omega arith)
when_none false told e = refl
