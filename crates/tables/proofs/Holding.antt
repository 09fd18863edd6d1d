-- The search for a held key, and one row more of a key.
use Rattle.std.proofs.Common.{◌≡◌, ℕ, zero, suc, ◌+◌, ◌-◌, ◌<◌, ◌≤◌, Bool, true, false, cond, not, leb, ltb, List, [], ◌∷◌, ◌++◌, length, get_or, Some, None, Option, Bor, sym, refl, ap, ◌∙◌, subst, inl, inr, arith}
use lib.ListN.{length-map}
use Rattle.std.specs.List.{AllByRecursion, slice_get, position_or_len}
use Rattle.std.specs.Option.{MatchOption, option_copied, unwrap_or, is_some}
use Rattle.std.proofs.lemmas.Bool.{cases_Bool, cases_lt, and_parts, leb-true, both_ways, lt-ltb, le-ltb}
use Rattle.searchers.specs.Groups.{noticed}
use Rattle.searchers.specs.declared.rows.Held.{Held}
use Rattle.searchers.proofs.Places.{noticed_new, noticed_old}
use Rattle.tables.specs.Altered.{altered}
use Rattle.tables.specs.Lists.{value_at, within, held_keys, place_in, one_more, new_key, counted_in}
use Rattle.tables.proofs.Keys.{place_by, place_le}
use Rattle.tables.proofs.Lent.{got_some, got_none}

-- what is read at a place
pub turned_round : {X : Type 0} (b : Bool) (x y : X) → cond (not b) y x ≡ cond b x y
turned_round true x y = refl
turned_round false x y = refl

pub value_read : {X Y : Type 0} (f : X → Y) (d : Y) (xs : List X) (i : ℕ) (x : X) → i < length xs → x ≡ get_or xs i x → f x ≡ value_at f d xs i
value_read f d [] i x h e = absurd (omega arith)
value_read f d (y ∷ ys) zero x h e = ap f e
value_read f d (y ∷ ys) (suc i) x h e = let k : i < length ys = omega arith in value_read f d ys i x k e

pub value_past : {X Y : Type 0} (f : X → Y) (d : Y) (xs : List X) (i : ℕ) → length xs ≤ i → value_at f d xs i ≡ d
value_past f d [] i h = refl
value_past f d (y ∷ ys) zero h = absurd (omega arith)
value_past f d (y ∷ ys) (suc i) h = let k : length ys ≤ i = omega arith in value_past f d ys i k

-- what is made of what stands at a place, or of none
pub value_got : {X Y : Type 0} (f : X → Y) (d : Y) (xs : List X) (i : ℕ) (o : Option (Bor X)) → option_copied o ≡ slice_get xs i → (r : Y) (P : Bor X → Type 0)
    → ((x : Bor X) → P x → r ≡ f x.now) → MatchOption o (r ≡ d) P → r ≡ value_at f d xs i
value_got f d xs i (Some x) got r P made m = let q = got_some xs i (Some x) got x refl in made x m ∙ value_read f d xs i x.now q.0 q.1
value_got f d xs i None got r P made m = m ∙ sym (value_past f d xs i (got_none xs i None got refl))

pub value_less : (xs : List ℕ) (i : ℕ) → value_at (λ n. n - 1) 0 xs i ≡ get_or xs i 0 - 1
value_less [] i = refl
value_less (x ∷ xs) zero = refl
value_less (x ∷ xs) (suc i) = value_less xs i

-- the search by a test
place_tested : {K P : Type 0} (same : K → K → Bool) (k : K) (held : List (Held K P)) → position_or_len (λ e. same e.key k) held ≡ place_in same k held
place_tested same k [] = refl
place_tested same k (e ∷ held) =
    let p : ℕ = position_or_len (λ e. same e.key k) held in
    let more : 1 + p ≡ suc p = omega arith in
    turned_round (same e.key k) 0 (1 + p) ∙ ap (λ n. cond (same e.key k) 0 n) more ∙ ap (λ n. cond (same e.key k) 0 (suc n)) (place_tested same k held)

pub place_found : {K P : Type 0} (same : K → K → Bool) (k : K) (held : List (Held K P)) (r : Option ℕ)
    → r ≡ cond (ltb (position_or_len (λ e. same e.key k) held) (length held)) (Some (position_or_len (λ e. same e.key k) held)) None
    → MatchOption r (place_in same k held ≡ length held) (λ p. (p ≡ place_in same k held) × (p < length held))
place_found {K} {P} same k held r e =
    let Q : Option ℕ → Type 0 = λ o. MatchOption o (place_in same k held ≡ length held) (λ p. (p ≡ place_in same k held) × (p < length held)) in
    let by : (p : ℕ) → p ≡ place_in same k held → Q (cond (ltb p (length held)) (Some p) None) =
    λ p same_p. elim (cases_lt p (length held)) [
      | inl low ↦ subst (λ b. Q (cond b (Some p) None)) (sym (lt-ltb p (length held) low)) (same_p, low)
      | inr past ↦ subst (λ b. Q (cond b (Some p) None)) (sym (le-ltb p (length held) past)) (omega (arith, place_le same k (held_keys held), length-map held (λ e. e.key)))
    ] in
    subst Q (sym e) (by (position_or_len (λ e. same e.key k) held) (place_tested same k held))

pub not_found : {A : Type 0} (P : Type 0) (Q : A → Type 0) (o : Option A) → MatchOption o P Q → is_some o ≡ false → P
not_found P Q None m e = m
not_found P Q (Some x) m e = absurd (both_ways true e refl)

pub there_found : {A : Type 0} (P : Type 0) (Q : A → Type 0) (o : Option A) → MatchOption o P Q → is_some o ≡ true → (x : A) × Q x
there_found P Q None m e = absurd (both_ways false refl e)
there_found P Q (Some x) m e = (x, m)

-- the place that is found, or n where none is
pub found_or : (n : ℕ) (B : ℕ → Type 0) (o : Option ℕ) (d at : ℕ) → MatchOption o (at ≡ n) (λ p. (p ≡ at) × B p) → d ≡ n → unwrap_or o d ≡ at
found_or n B None d at m e = e ∙ sym m
found_or n B (Some p) d at m e = m.0

module _ {K P : Type 0} (same : K → K → Bool) (start : P) (k : K) where
  counted_by : (e : Held K P) (held : List (Held K P)) (b : Bool) → same e.key k ≡ b → counted_in same start k (e ∷ held) ≡ cond b (one_more e ∷ held) (e ∷ counted_in same start k held)
  counted_by e held b t = ap (λ z. cond z (one_more e ∷ held) (e ∷ counted_in same start k held)) t

  counted_at : (held : List (Held K P)) → place_in same k held < length held → counted_in same start k held ≡ altered one_more (place_in same k held) held
  counted_at [] h = absurd (omega arith)
  counted_at (e ∷ held) h =
      elim (cases_Bool (same e.key k)) [
        | inl t ↦ counted_by e held true t ∙ ap (λ p. altered one_more p (e ∷ held)) (sym (place_by same k e.key (held_keys held) true t))
        | inr f ↦
            let p = place_by same k e.key (held_keys held) false f in
            let g : place_in same k held < length held = omega (arith, p) in
            counted_by e held false f ∙ ap (λ l. e ∷ l) (counted_at held g) ∙ ap (λ p. altered one_more p (e ∷ held)) (sym p)
      ]

  counted_last : (held : List (Held K P)) → place_in same k held ≡ length held → counted_in same start k held ≡ held ++ new_key start k ∷ []
  counted_last [] h = refl
  counted_last (e ∷ held) h =
      elim (cases_Bool (same e.key k)) [
        | inl t ↦ absurd (omega (arith, place_by same k e.key (held_keys held) true t))
        | inr f ↦
            let g : place_in same k held ≡ length held = omega (arith, place_by same k e.key (held_keys held) false f) in
            counted_by e held false f ∙ ap (λ l. e ∷ l) (counted_last held g)
      ]

  -- the entry of a key that is held, changed in its place, and one more entry for a key that is not
  pub counted_old : (held : List (Held K P)) {there : List (Held K P)} {at : ℕ} → at ≡ place_in same k held → at < length held → there ≡ altered one_more at held → there ≡ counted_in same start k held
  counted_old held {there} {at} here h made = made ∙ ap (λ p. altered one_more p held) here ∙ sym (counted_at held (omega (arith, here)))

  pub counted_new : (held : List (Held K P)) {there : List (Held K P)} → place_in same k held ≡ length held → there ≡ held ++ new_key start k ∷ [] → there ≡ counted_in same start k held
  counted_new held last made = made ∙ sym (counted_last held last)

  keys_old : (held : List (Held K P)) → place_in same k held < length held → held_keys (counted_in same start k held) ≡ held_keys held
  keys_old [] h = absurd (omega arith)
  keys_old (e ∷ held) h =
      elim (cases_Bool (same e.key k)) [
        | inl t ↦ ap held_keys (counted_by e held true t)
        | inr f ↦
            let g : place_in same k held < length held = omega (arith, place_by same k e.key (held_keys held) false f) in
            ap held_keys (counted_by e held false f) ∙ ap (λ l. e.key ∷ l) (keys_old held g)
      ]

  keys_new : (held : List (Held K P)) → place_in same k held ≡ length held → held_keys (counted_in same start k held) ≡ held_keys held ++ k ∷ []
  keys_new [] h = refl
  keys_new (e ∷ held) h =
      elim (cases_Bool (same e.key k)) [
        | inl t ↦ absurd (omega (arith, place_by same k e.key (held_keys held) true t))
        | inr f ↦
            let g : place_in same k held ≡ length held = omega (arith, place_by same k e.key (held_keys held) false f) in
            ap held_keys (counted_by e held false f) ∙ ap (λ l. e.key ∷ l) (keys_new held g)
      ]

  -- the keys are those that were held, with one noticed
  pub keys_counted : (held : List (Held K P)) → held_keys (counted_in same start k held) ≡ noticed same k (held_keys held)
  keys_counted held =
      let long : length (held_keys held) ≡ length held = length-map held (λ e. e.key) in
      let le = place_le same k (held_keys held) in
      elim (cases_lt (place_in same k held) (length held)) [
        | inl old ↦ keys_old held old ∙ sym (noticed_old same k (held_keys held) (omega arith))
        | inr new ↦ keys_new held (omega arith) ∙ sym (noticed_new same k (held_keys held) (omega arith))
      ]

  rows_more : (m : ℕ) (held : List (Held K P)) → AllByRecursion (λ e. e.rows ≤ m) held → AllByRecursion (λ e. e.rows ≤ m + 1) held
  rows_more m [] a = tt
  rows_more m (e ∷ held) a = (omega (arith, a.0), rows_more m held a.1)

  pub rows_counted : (m : ℕ) (held : List (Held K P)) → AllByRecursion (λ e. e.rows ≤ m) held → AllByRecursion (λ e. e.rows ≤ m + 1) (counted_in same start k held)
  rows_counted m [] a = (omega arith, tt)
  rows_counted m (e ∷ held) a =
      elim (cases_Bool (same e.key k)) [
        | inl t ↦ subst (AllByRecursion (λ e. e.rows ≤ m + 1)) (sym (counted_by e held true t)) (omega (arith, a.0), rows_more m held a.1)
        | inr f ↦ subst (AllByRecursion (λ e. e.rows ≤ m + 1)) (sym (counted_by e held false f)) (omega (arith, a.0), rows_counted m held a.1)
      ]

pub rows_within : {K P : Type 0} (n : ℕ) (held : List (Held K P)) → within n held ≡ true → AllByRecursion (λ e. e.rows ≤ n) held
rows_within n [] w = tt
rows_within n (e ∷ held) w =
    let both = and_parts (leb e.rows n) (within n held) w in
    (leb-true e.rows n both.0, rows_within n held both.1)

pub rank_within : {K P : Type 0} (n : ℕ) (held : List (Held K P)) → AllByRecursion (λ e. e.rows ≤ n) held → (i : ℕ) → value_at (λ e. e.rows) 0 held i ≤ n
rank_within n [] a i = omega arith
rank_within n (e ∷ held) a zero = a.0
rank_within n (e ∷ held) a (suc i) = rank_within n held a.1 i
