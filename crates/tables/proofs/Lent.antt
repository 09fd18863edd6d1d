-- What becomes of the values that a table lends to a closure.
use Rattle.std.proofs.Common.{◌≡◌, ℕ, zero, suc, ◌+◌, ◌<◌, ◌≤◌, Bool, true, false, cond, filter, List, [], ◌∷◌, ◌++◌, length, get_or, take, drop, set, Some, None, Option, sym, refl, ap, ◌∙◌, subst, arith, length-set, drop-set-lt, Bor, MutBor}
use Rattle.std.specs.List.{slice_get}
use Rattle.std.specs.List.Retain.{RetainsInTurn}
use Rattle.std.specs.Fn.{Once, Mut, Called, FnOnceReturnsAtMut}
use Rattle.std.proofs.RetainMut.{retain_mut_end}
use Rattle.std.specs.Option.{MatchOption, option_copied}
use Rattle.std.proofs.lemmas.Option.{slice_get_within, get_or_from_slice_get}
use Rattle.std.proofs.lemmas.List.{append_assoc, drop-drop, drop_more, take_more_set}
use Rattle.tables.specs.Altered.{altered, LeavesEach}

-- what stands at a place
pub get_read : {X : Type 0} (xs : List X) (i : ℕ) (x : X) → slice_get xs i ≡ Some x → (i < length xs) × (x ≡ get_or xs i x)
get_read xs i x e = (slice_get_within xs i x e, sym (get_or_from_slice_get xs i x x e))

pub get_none : {X : Type 0} (xs : List X) (i : ℕ) → slice_get xs i ≡ None → length xs ≤ i
get_none [] i e = omega arith
get_none (y ∷ xs) zero e = let z : ◌≡◌ {A = ℕ} 0 1 = cc in absurd (omega arith)
get_none (y ∷ xs) (suc i) e = omega (arith, get_none xs i e)

-- the same, of what `get` answers
module _ {X : Type 0} (xs : List X) (i : ℕ) (o : Option (Bor X)) (got : option_copied o ≡ slice_get xs i) where
  pub got_some : (x : Bor X) → o ≡ Some x → (i < length xs) × (x.now ≡ get_or xs i x.now)
  got_some x e = get_read xs i x.now (sym got ∙ ap option_copied e)

  pub got_none : o ≡ None → length xs ≤ i
  got_none e = get_none xs i (sym got ∙ ap option_copied e)

-- One value that is lent

-- a write of what f makes of the value there
pub altered_set : {X : Type 0} (f : X → X) (d : X) (xs : List X) (i : ℕ) → altered f i xs ≡ set xs i (f (get_or xs i d))
altered_set f d [] i = refl
altered_set f d (y ∷ ys) zero = refl
altered_set f d (y ∷ ys) (suc i) = ap (λ l. y ∷ l) (altered_set f d ys i)

pub length_altered : {X : Type 0} (f : X → X) (i : ℕ) (xs : List X) → length (altered f i xs) ≡ length xs
length_altered f i [] = refl
length_altered f zero (x ∷ xs) = refl
length_altered f (suc i) (x ∷ xs) = ap suc (length_altered f i xs)

pub alter_get : {X : Type 0} (f : X → X) (xs : List X) (i : ℕ) (x : X) → slice_get xs i ≡ Some x → set xs i (f x) ≡ altered f i xs
alter_get f xs i x e = ap (λ z. set xs i (f z)) (sym (get_or_from_slice_get xs i x x e)) ∙ sym (altered_set f x xs i)

pub altered_past : {X : Type 0} (f : X → X) (xs : List X) (i : ℕ) → length xs ≤ i → altered f i xs ≡ xs
altered_past f [] i h = refl
altered_past f (y ∷ ys) zero h = absurd (omega arith)
altered_past f (y ∷ ys) (suc i) h = let k : length ys ≤ i = omega arith in ap (λ l. y ∷ l) (altered_past f ys i k)

module _ {F X : Type 0} (g : Once F (MutBor X × Unit {0}) (Unit {0} × (MutBor X × Unit {0}))) (f : F) (xs : List X) (i : ℕ) where
  -- a place whose value was lent
  pub record Turned (p : Option X) : Type 0 where
    pub was : X
    pub stood : slice_get xs i ≡ Some was
    pub left : X
    pub called : FnOnceReturnsAtMut g f was tt left
    pub is : p ≡ Some left

  pub turned : (o p : Option X) → i < length xs → o ≡ slice_get xs i → MatchOption o (p ≡ None) (λ x. (y : X) × FnOnceReturnsAtMut g f x tt y × (p ≡ Some y)) → Turned p
  turned None p h e m = absurd (omega (arith, get_none xs i (sym e)))
  turned (Some x) p h e m = record { was = x; stood = sym e; left = m.0; called = m.1; is = m.2 }

-- Each value lent in turn

-- one more call of a closure that leaves h of each value
pub leaves_call : {F X : Type 0} {g : Mut F (MutBor X × Unit {0}) (Unit {0} × (MutBor X × Unit {0}))} {f f' : F} (h : X → X) {x y : MutBor X}
    → LeavesEach g f h → Called g f (x, tt) (tt, (y, tt)) f' → LeavesEach g f' h × (y.now ≡ h x.now)
leaves_call {g = g} {f = f} {f' = f'} h {x} {y} k e = (record { at = λ xs. (k.at ((x, tt) ∷ xs) (tt, (y, tt)) f' e).1 }, (k.at ((x, tt) ∷ []) (tt, (y, tt)) f' e).0)

-- Values that stay or go

-- where no call changes a value, those stay that pass the test
pub kept_by : {S X : Type 0} (R : S → X → Bool → S → X → Type 0) (test : X → Bool) → ((s : S) (x : X) (b : Bool) (t : S) (y : X) → R s x b t y → (b ≡ test x) × (y ≡ x))
    → (s : S) (xs ys : List X) → RetainsInTurn R s xs ys → ys ≡ filter test xs
kept_by R test says s [] ys r = r
kept_by R test says s (x ∷ xs) ys r =
    let said = says s x r.0 r.1 r.2 r.3 in
    let rest = kept_by R test says r.1 xs r.4 r.5 in
    r.6 ∙ (λ i. cond (said.0 i) (said.1 i ∷ rest i) (rest i))

-- xs have become ys: of the first i values those that stay are the first k, and the calls go on at s
pub record Retaining {S X : Type 0} (R : S → X → Bool → S → X → Type 0) (first : S) (xs : List X) (s : S) (ys : List X) (k i : ℕ) : Type 0 where
  pub behind : k ≤ i
  pub long : length ys ≡ length xs
  pub rest : drop i ys ≡ drop i xs
  pub done : (zs : List X) → RetainsInTurn R s (drop i xs) zs → RetainsInTurn R first xs (take k ys ++ zs)

module _ {S X : Type 0} (R : S → X → Bool → S → X → Type 0) (first : S) (xs : List X) where
  module _ (s : S) (ys : List X) (k i : ℕ) (q : Retaining R first xs s ys k i) where
    module _ (t : S) (x y : X) (h : i < length xs) (e : x ≡ get_or ys i x) where
      behind_it : drop (i + 1) ys ≡ drop (i + 1) xs
      behind_it = sym (drop-drop 1 i ys) ∙ ap (drop 1) q.rest ∙ drop-drop 1 i xs

      next : drop i xs ≡ x ∷ drop (i + 1) xs
      next = let low : i < length ys = omega (arith, q.long) in sym q.rest ∙ drop_more ys i x low ∙ ap (λ z. z ∷ drop (i + 1) ys) (sym e) ∙ ap (λ l. x ∷ l) behind_it

      pub retaining_keep : R s x true t y → Retaining R first xs t (set ys k y) (k + 1) (i + 1)
      retaining_keep r =
          let low : k < length ys = omega (arith, q.behind, q.long) in
          let before : k < i + 1 = omega (arith, q.behind) in
          record {
            behind = omega (arith, q.behind);
            long = length-set ys k y ∙ q.long;
            rest = drop-set-lt (i + 1) ys k y before ∙ behind_it;
            done = λ zs g. subst (RetainsInTurn R first xs) (sym (append_assoc (take k ys) (y ∷ []) zs) ∙ ap (λ l. l ++ zs) (sym (take_more_set ys k y low)))
                (q.done (y ∷ zs) (subst (λ l. RetainsInTurn R s l (y ∷ zs)) (sym next) (true, t, y, r, zs, g, refl)));
          }

      pub retaining_drop : R s x false t y → Retaining R first xs t ys k (i + 1)
      retaining_drop r = record {
        behind = omega (arith, q.behind);
        long = q.long;
        rest = behind_it;
        done = λ zs g. q.done zs (subst (λ l. RetainsInTurn R s l zs) (sym next) (false, t, y, r, zs, g, refl));
      }

    pub retaining_all : length xs ≤ i → RetainsInTurn R first xs (take k ys)
    retaining_all h = retain_mut_end R first xs s ys k i h (q.rest, q.done)
