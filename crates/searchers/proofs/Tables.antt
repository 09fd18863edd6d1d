-- The hash table over the keys seen: where a search ends, and one key more.
use Rattle.std.proofs.Common.{◌≡◌, ℕ, suc, ◌+◌, ◌-◌, ◌%◌, ◌<◌, ◌≤◌, Bool, true, false, cond, ◌≢◌, List, [], ◌∷◌, ◌++◌, length, get_or, set, replicate, count_by, Some, None, Option, sym, refl, ap, ◌∙◌, subst, inl, inr, suc-le-suc, arith, length-set}
use Rattle.std.proofs.lemmas.Bool.{cases_lt, cases_order, cases_eq, cases_Bool, both_ways, false≢true}
use Rattle.std.proofs.lemmas.List.{length-map, get_or-map, get_or-replicate, get_or-set_same, get_or-set_other, length_push, get_or_push, get_or_append_left}
use Rattle.std.proofs.lemmas.List.Sums.{sum_by-set, sum_by-cons}
use Rattle.std.specs.Option.{is_some}
use Rattle.std.specs.Cmp.{IsEquivalence}
use Rattle.searchers.specs.Groups.{place}
use Rattle.searchers.specs.Table.{slot, held_at, Reached, Sound, Vacant, picked, Indexes}
use Rattle.searchers.specs.Order.{keys_of}
use Rattle.searchers.specs.declared.rows.Row.{Row}
use Rattle.searchers.proofs.Places.{length_picked, picked_at, picked_push, picked_none, inside_push, key_at, place_none, place_is, before_place}

abbrev bit : Option ℕ → ℕ
bit held = cond (is_some held) 1 0

bit_one : (held : Option ℕ) → is_some held ≡ true → bit held ≡ 1
bit_one held some = ap (λ b. cond b 1 0) some

-- every slot taken: as many as there are
pub all_taken : (xs : List (Option ℕ)) → ((i : ℕ) → i < length xs → is_some (held_at xs i) ≡ true) → count_by is_some xs ≡ length xs
all_taken [] h = refl
all_taken (x ∷ xs) h =
    let rest : count_by is_some xs ≡ length xs = all_taken xs (λ i l. h (suc i) (suc-le-suc l)) in
    sum_by-cons bit x xs ∙ omega (arith, bit_one x (h 0 (omega arith)))

-- each slot is met within 512 steps
back : (h i : ℕ) → i < 512 → slot h ((i + 512 - h % 512) % 512) ≡ i
back h i l = omega arith

-- a free slot is not taken
taken_free : {held : Option ℕ} → is_some held ≡ true → held ≡ None → ⊥
taken_free some none = false≢true (sym (ap is_some none) ∙ some)

module _ {K : Type 0} (same : K → K → Bool) (hashed : K → ℕ) where
  -- the slots of the first e steps are taken, by keys that are not the same
  abbrev pub Passed : List K → List (Option ℕ) → K → ℕ → Type 0
  Passed seen slots k e = (j : ℕ) → j < e → (is_some (held_at slots (slot (hashed k) j)) ≡ true) × ((g : ℕ) (d : K) → held_at slots (slot (hashed k) j) ≡ Some g → same (get_or seen g d) k ≡ false)

  -- no key yet
  pub fresh : Sound same hashed [] (replicate 512 None)
  fresh = record {
    wide = refl;
    few = omega arith;
    held = λ i g l e. let none = get_or-replicate {A = Option ℕ} 512 i None None l in absurd cc;
    full = refl;
    apart = λ g h d lt lh. absurd (omega arith);
    reach = λ g d lt. absurd (omega arith);
  }

  -- so no key is indexed
  pub empty_index : (rows : List (Row K)) → length rows ≤ 256 → Indexes same hashed rows [] (replicate 512 None)
  empty_index rows short = record {
    short = short;
    inside = λ g h. absurd (omega arith);
    sound = rw (picked_none (keys_of rows)) fresh;
  }

  pub no_room : (seen : List K) (slots : List (Option ℕ)) (k : K) → Sound same hashed seen slots → Passed seen slots k 512 → ⊥
  no_room seen slots k s passed =
      let all = all_taken slots (λ i l.
      let m : i < 512 = omega (arith, s.wide) in
      rw (back (hashed k) i m) at (passed ((i + 512 - hashed k % 512) % 512) (omega arith)).0) in
      omega (arith, s.wide, s.few, s.full)

  module _ (equality : IsEquivalence same) (agree : (a b : K) → same a b ≡ true → hashed a ≡ hashed b) {seen : List K} {slots : List (Option ℕ)} (s : Sound same hashed seen slots) where
    -- a search that ends at a free slot has no equal key
    missed : (k : K) (e : ℕ) → Passed seen slots k e → held_at slots (slot (hashed k) e) ≡ None → (g : ℕ) → g < length seen → same (get_or seen g k) k ≡ true → ⊥
    missed k e passed free g lt eq =
        let r : Reached slots (hashed k) g = subst (λ h. Reached slots h g) (agree _ _ eq) (s.reach g k lt) in
        elim (cases_order r.far e) [
          | inl same-e ↦ let t : held_at slots (slot (hashed k) e) ≡ Some g = subst (λ n. held_at slots (slot (hashed k) n) ≡ Some g) same-e r.there in taken_free (ap is_some t) free
          | inr o ↦ elim o [ inl before ↦ both_ways _ ((passed r.far before).1 g k r.there) eq | inr after ↦ taken_free (r.way e after) free ]
        ]

    pub land_free : (k : K) (e : ℕ) → Passed seen slots k e → e < 512 → held_at slots (slot (hashed k) e) ≡ None → Vacant same hashed seen slots k (slot (hashed k) e)
    land_free k e passed lt free = record {
      far = e;
      near = lt;
      is = refl;
      way = λ j l. (passed j l).0;
      free = free;
      new = place_none same k seen k (λ h l. elim (cases_Bool (same (get_or seen h k) k)) [ inl eq ↦ absurd (missed k e passed free h l eq) | inr not ↦ not ]);
    }

    pub land_found : (k : K) (i g : ℕ) → i < 512 → held_at slots i ≡ Some g → same (get_or seen g k) k ≡ true → (place same k seen ≡ g) × (g < length seen)
    land_found k i g low held eq =
        let inside : g < length seen = s.held i g low held in (
          place_is same k seen g k inside eq (λ h lh.
              elim (cases_Bool (same (get_or seen h k) k)) [
                | inl too ↦ absurd (both_ways _ (s.apart h g k lh inside) (equality.congr _ _ _ too ∙ equality.symm _ _ ∙ eq))
                | inr not ↦ not
              ]),
          inside,
        )

  -- one key more, at the free slot where the search for it ended
  pub add_sound : {seen : List K} {slots : List (Option ℕ)} {k : K} {at : ℕ} → Sound same hashed seen slots → Vacant same hashed seen slots k at → length seen < 256 → Sound same hashed (seen ++ k ∷ []) (set slots at (Some (length seen)))
  add_sound {seen} {slots} {k} {at} s vacant room =
      let new = set slots at (Some (length seen)) in
      let long : length (seen ++ k ∷ []) ≡ length seen + 1 = length_push seen k in
      let low : at < length slots = omega (arith, vacant.is, s.wide) in
      let mine : held_at new at ≡ Some (length seen) = get_or-set_same slots at (Some (length seen)) None low in
      let others : (i : ℕ) → i ≢ at → held_at new i ≡ held_at slots i = λ i ne. get_or-set_other slots at i (Some (length seen)) None ne in
      let kept : (i : ℕ) → is_some (held_at slots i) ≡ true → held_at new i ≡ held_at slots i = λ i taken. others i (λ e. taken_free taken (ap (held_at slots) e ∙ vacant.free)) in
      record {
        wide = length-set slots at (Some (length seen)) ∙ s.wide;
        few = omega (arith, long);
        held = λ i g l e. elim (cases_eq i at) [ inl here ↦ (let number : length seen ≡ g = (let is = ap (held_at new) here ∙ mine in cc) in omega (arith, long)) | inr ne ↦ omega (arith, s.held i g l (sym (others i ne) ∙ e), long) ];
        full = omega (arith, sum_by-set bit slots at (Some (length seen)) None low, ap bit vacant.free, s.full, long);
        apart = λ g h d lt lh. elim (cases_lt h (length seen)) [
          | inl in-old ↦ rw (get_or_append_left seen (k ∷ []) d g (omega arith), get_or_append_left seen (k ∷ []) d h in-old) (s.apart g h d lt in-old)
          | inr last ↦ (let e : length seen ≡ h = omega (arith, long) in rw (get_or_append_left seen (k ∷ []) d g (omega arith), get_or_push seen k d h e) (before_place same k seen g d (omega (arith, vacant.new))))
        ];
        reach = λ g d lt. elim (cases_lt g (length seen)) [
          | inl in-old ↦ rw (get_or_append_left seen (k ∷ []) d g in-old) (let r = s.reach g d in-old in record {
            far = r.far;
            near = r.near;
            there = kept _ (ap is_some r.there) ∙ r.there;
            way = λ j l. ap is_some (kept _ (r.way j l)) ∙ r.way j l;
          })
          | inr last ↦ (let e : length seen ≡ g = omega (arith, long) in rw (get_or_push seen k d g e) record {
            far = vacant.far;
            near = vacant.near;
            there = ap (held_at new) (sym vacant.is) ∙ mine ∙ ap Some e;
            way = λ j l. ap is_some (kept _ (vacant.way j l)) ∙ vacant.way j l;
          })
        ];
      }

-- the keys by their numbers
module _ {K : Type 0} {same : K → K → Bool} {hashed : K → ℕ} {rows : List (Row K)} {firsts : List ℕ} {slots : List (Option ℕ)} (index : Indexes same hashed rows firsts slots) (some : 0 < length rows) where
  pub many : length (picked (keys_of rows) firsts) ≡ length firsts
  many = length_picked (keys_of rows) firsts (omega (arith, length-map rows (λ r. r.key)))

  -- the key that a taken slot names
  pub group_low : (i g : ℕ) → i < 512 → held_at slots i ≡ Some g → g < length firsts
  group_low i g l held = omega (arith, index.sound.held i g l held, many)

  pub first_key : (g : ℕ) → g < length firsts → (d : K) (r : Row K) → get_or (picked (keys_of rows) firsts) g d ≡ (get_or rows (get_or firsts g 0) r).key
  first_key g l d r =
      picked_at (keys_of rows) firsts g d d l (omega (arith, index.inside g l, length-map rows (λ r. r.key)))
      ∙ get_or-map (λ r. r.key) rows (get_or firsts g 0) r d (index.inside g l)

  -- row i's key, indexed at the free slot where the search for it ended
  pub index_more : (i at : ℕ) (r : Row K) → i < length rows → length firsts < 256 → Vacant same hashed (picked (keys_of rows) firsts) slots (get_or rows i r).key at → Indexes same hashed rows (firsts ++ i ∷ []) (set slots at (Some (length firsts)))
  index_more i at r row room vacant =
      let ks = keys_of rows in
      let key = (get_or rows i r).key in
      let within : i < length ks = omega (arith, length-map rows (λ r. r.key)) in
      let picks : picked ks (firsts ++ i ∷ []) ≡ picked ks firsts ++ key ∷ [] = picked_push ks firsts i key within ∙ ap (λ x. picked ks firsts ++ x ∷ []) (key_at rows i key r row) in
      let sound = rw many at (add_sound same hashed index.sound vacant (omega (arith, many))) in
      record { short = index.short; inside = inside_push (length rows) i firsts index.inside row; sound = rw picks sound }
