-- A list with one element changed, and what a closure makes of the values that are lent to it.
use Rattle.std.specs.Prelude.{◌≡◌, ℕ, zero, suc, List, [], ◌∷◌}
use denote.Ref.{MutBor}
use Rattle.std.specs.Fn.{Once, Mut, FnOnceReturnsAtMut, AlwaysReturns}

-- f of the element at a place, and the others as they are
abbrev pub altered : {X : Type 0} → (X → X) → ℕ → List X → List X
altered f i [] = []
altered f zero (x ∷ xs) = f x ∷ xs
altered f (suc i) (x ∷ xs) = x ∷ altered f i xs

-- a closure that is called once leaves h of the value that it is lent
abbrev pub Leaves : {F X : Type 0} → Once F (MutBor X × Unit {0}) (Unit {0} × (MutBor X × Unit {0})) → F → (X → X) → Type 0
Leaves {F} {X} g f h = (x y : X) → FnOnceReturnsAtMut g f x tt y → y ≡ h x

-- and so does each call of one that is called any number of times
abbrev pub LeavesEach : {F X : Type 0} → Mut F (MutBor X × Unit {0}) (Unit {0} × (MutBor X × Unit {0})) → F → (X → X) → Type 0
LeavesEach g f h = AlwaysReturns g (λ a r. r.1.0.now ≡ h a.0.now) f
