-- The turns of the loop that admits a batch.
use Rattle.std.proofs.Common.{◌≡◌, ℕ, suc, ◌+◌, ◌^◌, ◌<◌, ◌≤◌, Bool, true, cond, List, [], ◌∷◌, ◌++◌, length, get_or, drop, sym, refl, ap, ◌∙◌, subst, inl, inr, add-zero, arith, length-append}
use lib.ListN.{length-map}
use Rattle.std.specs.List.{AllByRecursion}
use Rattle.std.proofs.lemmas.List.{length_push, get_or_push, get_or_append_left, get_or_default, get_or-drop, at_drop_more, at_drop_all, drop-drop}
use Rattle.std.proofs.lemmas.Bool.{cases_eq, cases_lt, lt-ltb, le-ltb}
use Rattle.std.specs.Cmp.{IsEquivalence}
use Rattle.searchers.specs.Groups.{place, noticed, group_ids, grouped}
use Rattle.searchers.specs.Order.{keys_of}
use Rattle.searchers.specs.declared.rows.Held.{Held}
use Rattle.searchers.specs.declared.rows.Row.{Row}
use Rattle.searchers.specs.declared.rows.Waiting.{Waiting}
use Rattle.searchers.proofs.Places.{noticed_new, noticed_old}
use Rattle.tables.specs.declared.rows.Kept.{Kept}
use Rattle.tables.specs.Lists.{Lists, value_at, held_keys, distinct, counted_in, admitted, admit}
use Rattle.tables.specs.Seats.{seated}
use Rattle.tables.proofs.Holding.{keys_counted, rows_counted, rank_within, value_read, value_past}
use Rattle.tables.proofs.Keys.{place_le, place_same, place_alike, place_stays, place_own, place_noticed, noticed_grows}

pub lists_are : {K R P : Type 0} {h h' : List (Held K P)} {w w' : List (Waiting K R)} {k k' : List (Kept K)} → h ≡ h' → w ≡ w' → k ≡ k'
    → ◌≡◌ {A = Lists K R P} (record { held = h; waiting = w; kept = k }) (record { held = h'; waiting = w'; kept = k' })
lists_are a b c = λ i. record { held = a i; waiting = b i; kept = c i }

module _ {K : Type 0} (same : K → K → Bool) where
  distinct_grows : (seen : List K) (rows : List (Row K)) → length seen ≤ length (distinct same seen rows)
  distinct_grows seen [] = omega arith
  distinct_grows seen (row ∷ rows) = omega (arith, noticed_grows same row.key seen, distinct_grows (noticed same row.key seen) rows)

  module _ {R P : Type 0} (start : P) (blank : R) where
    -- the keys that are held once rows are admitted
    keys_admitted : (t : Lists K R P) (rows : List (Row K)) → held_keys (admit same start blank t rows).held ≡ distinct same (held_keys t.held) rows
    keys_admitted t [] = refl
    keys_admitted t (row ∷ rows) =
        keys_admitted (admitted same start blank t row) rows ∙ ap (λ seen. distinct same seen rows) (keys_counted same start row.key t.held)

pub seated_old : (group at : ℕ) (places : List ℕ) → group < length places → seated group at places ≡ places
seated_old group at places h = ap (λ b. cond b places (places ++ at ∷ [])) (lt-ltb group (length places) h)

pub seated_new : (group at : ℕ) (places : List ℕ) → length places ≤ group → seated group at places ≡ places ++ at ∷ []
seated_new group at places h = ap (λ b. cond b places (places ++ at ∷ [])) (le-ltb group (length places) h)

-- each group's place, where its key is held
pub record Seated {K P : Type 0} (same : K → K → Bool) (held : List (Held K P)) (keys : List K) (places : List ℕ) : Type 0 where
  pub count : length places ≡ length keys
  pub seats : (g : ℕ) (d : K) → g < length places → (get_or places g 0 ≡ place same (get_or keys g d) (held_keys held)) × (place same (get_or keys g d) (held_keys held) < length (held_keys held))

-- t have become u: the rows from i on have still to be admitted
pub record Admitting {K R P : Type 0} (same : K → K → Bool) (start : P) (blank : R) (accepted : ℕ) (t u : Lists K R P) (batch : List (Row K)) (ids places : List ℕ) (i : ℕ) : Type 0 where
  pub is : admit same start blank u (drop i batch) ≡ admit same start blank t batch
  pub counts : AllByRecursion (λ e. e.rows ≤ accepted + i) u.held
  pub waits : length u.waiting ≡ length t.waiting + i
  pub keeps : length u.kept ≡ length t.kept + i
  pub keys : List K
  pub pad : List ℕ
  pub seated : Seated same u.held keys places
  pub few : length places ≤ i
  pub rest : drop i ids ≡ group_ids same keys (keys_of (drop i batch)) ++ pad

ids_long : {K : Type 0} (same : K → K → Bool) (seen keys : List K) → length (group_ids same seen keys) ≡ length keys
ids_long same seen [] = refl
ids_long same seen (k ∷ keys) = ap suc (ids_long same (noticed same k seen) keys)

-- the group of each row of a batch
abbrev pub batch_ids : {K : Type 0} → (K → K → Bool) → List (Row K) → List ℕ
batch_ids same batch = (grouped same (keys_of batch)).ids

pub ids_enough : {K : Type 0} (same : K → K → Bool) (batch : List (Row K)) (ids pad : List ℕ) → ids ≡ group_ids same [] (keys_of batch) ++ pad → length batch ≤ length ids
ids_enough same batch ids pad e = omega (arith, ap length e, length-append (group_ids same [] (keys_of batch)) pad, ids_long same [] (keys_of batch), length-map batch (λ r. r.key))

pub admitting_none : {K R P : Type 0} (same : K → K → Bool) (start : P) (blank : R) (accepted : ℕ) (t : Lists K R P) (batch : List (Row K)) (ids pad : List ℕ) → ids ≡ group_ids same [] (keys_of batch) ++ pad
    → AllByRecursion (λ e. e.rows ≤ accepted) t.held → Admitting same start blank accepted t t batch ids [] 0
admitting_none same start blank accepted t batch ids pad padded rows = record {
  is = refl;
  counts = subst (λ n. AllByRecursion (λ e. e.rows ≤ n) t.held) (omega arith) rows;
  waits = omega arith;
  keeps = omega arith;
  keys = [];
  pad = pad;
  seated = record { count = refl; seats = λ k d h. absurd (omega arith) };
  few = omega arith;
  rest = padded;
}

module _ {K R P : Type 0} (same : K → K → Bool) (equality : IsEquivalence same) (start : P) (blank : R) (accepted : ℕ) (t u : Lists K R P) (batch : List (Row K)) (ids places : List ℕ) (i : ℕ)
    (q : Admitting same start blank accepted t u batch ids places i) where
  module _ (r : Row K) (h : i < length batch) (e : r ≡ get_or batch i r) where
    abbrev key : K
    key = r.key

    abbrev old_keys : List K
    old_keys = held_keys u.held

    next : admit same start blank (admitted same start blank u r) (drop (i + 1) batch) ≡ admit same start blank t batch
    next =
        sym (at_drop_more (admit same start blank u) batch i r h ∙ ap (λ (y : Row K). admit same start blank (admitted same start blank u y) (drop (i + 1) batch)) (sym e)) ∙ q.is

    next_ids : drop i ids ≡ place same key q.keys ∷ (group_ids same (noticed same key q.keys) (keys_of (drop (i + 1) batch)) ++ q.pad)
    next_ids =
        q.rest
        ∙ at_drop_more (λ l. group_ids same q.keys (keys_of l) ++ q.pad) batch i r h
        ∙ ap (λ (y : Row K). group_ids same q.keys (keys_of (y ∷ drop (i + 1) batch)) ++ q.pad) (sym e)

    group_is : get_or ids i 0 ≡ place same key q.keys
    group_is = ap (λ j. get_or ids j 0) (sym (add-zero i)) ∙ sym (get_or-drop i ids 0 0) ∙ ap (λ l. get_or l 0 0) next_ids

    pub group_low : get_or ids i 0 ≤ length places
    group_low = omega (arith, group_is, q.seated.count, place_le same key q.keys)

    -- room for the row's key
    pub room : length (distinct same (held_keys t.held) batch) ≤ 64 → length (noticed same key old_keys) ≤ 64
    room few =
        let u' = admitted same start blank u r in
        let all : distinct same (held_keys u'.held) (drop (i + 1) batch) ≡ distinct same (held_keys t.held) batch =
        sym (keys_admitted same start blank u' (drop (i + 1) batch)) ∙ ap (λ (z : Lists K R P). held_keys z.held) next ∙ keys_admitted same start blank t batch in
        omega (arith, ap length all, distinct_grows same (held_keys u'.held) (drop (i + 1) batch), ap length (keys_counted same start key u.held))

    pub rank_fits : accepted + length batch < 2 ^ 32 → (at : ℕ) → value_at (λ e. e.rows) 0 u.held at + 1 < 2 ^ 32
    rank_fits fits at = omega (arith, rank_within (accepted + i) u.held q.counts at)

    module _ (group : ℕ) (is_group : group ≡ get_or ids i 0) where
      low_group : group ≤ length places
      low_group = omega (arith, group_low)

      module _ (new : length places ≤ group) where
        last_group : group ≡ length places
        last_group = omega (arith, low_group)

        keys_new : noticed same key q.keys ≡ q.keys ++ key ∷ []
        keys_new = noticed_new same key q.keys (omega (arith, group_is, last_group, q.seated.count))

      module _ (old : group < length places) where
        low : place same key q.keys < length q.keys
        low = omega (arith, group_is, q.seated.count)

        keys_old : noticed same key q.keys ≡ q.keys
        keys_old = noticed_old same key q.keys low

      -- the place that is noted for the row's group is that of its key
      pub here : value_at (λ p. p) (place same key old_keys) places group ≡ place same key old_keys
      here =
          elim (cases_lt group (length places)) [
            | inl old ↦
                let alike : same (get_or q.keys group key) key ≡ true = ap (λ j. same (get_or q.keys j key) key) (is_group ∙ group_is) ∙ place_same same key q.keys key (low old) in
                sym (value_read (λ p. p) (place same key old_keys) places group (get_or places group 0) old (get_or_default places group 0 (get_or places group 0) old))
                ∙ (q.seated.seats group key old).0
                ∙ sym (place_alike same equality (get_or q.keys group key) key alike old_keys)
            | inr new ↦ value_past (λ p. p) (place same key old_keys) places group new
          ]

      abbrev new_held : List K
      new_held = noticed same key old_keys

      abbrev at : ℕ
      at = place same key old_keys

      -- an earlier group keeps its place
      stays : (g : ℕ) (d : K) → g < length places → (get_or places g 0 ≡ place same (get_or q.keys g d) new_held) × (place same (get_or q.keys g d) new_held < length new_held)
      stays g d l =
          let s = q.seated.seats g d l in
          let keeps = place_stays same key old_keys (get_or q.keys g d) s.1 in
          (s.0 ∙ sym keeps, omega (arith, s.1, keeps, noticed_grows same key old_keys))

      module _ (there : List ℕ) (there_is : there ≡ seated group (place same key old_keys) places) where
        there_old : group < length places → there ≡ places
        there_old old = there_is ∙ seated_old group at places old

        there_new : length places ≤ group → there ≡ places ++ at ∷ []
        there_new new = there_is ∙ seated_new group at places new

        seats_more : (g : ℕ) (d : K) → g < length there → (get_or there g 0 ≡ place same (get_or (noticed same key q.keys) g d) new_held) × (place same (get_or (noticed same key q.keys) g d) new_held < length new_held)
        seats_more g d l =
            elim (cases_lt group (length places)) [
              | inl old ↦
                  let s = stays g d (omega (arith, ap length (there_old old))) in
                  let is_key : get_or (noticed same key q.keys) g d ≡ get_or q.keys g d = ap (λ (ks : List K). get_or ks g d) (keys_old old) in (
                    ap (λ (ps : List ℕ). get_or ps g 0) (there_old old) ∙ s.0 ∙ ap (λ j. place same j new_held) (sym is_key),
                    subst (λ (j : K). place same j new_held < length new_held) (sym is_key) s.1,
                  )
              | inr new ↦
                  elim (cases_eq g (length places)) [
                    | inl last ↦
                        let is_key : get_or (noticed same key q.keys) g d ≡ key = ap (λ (ks : List K). get_or ks g d) (keys_new new) ∙ get_or_push q.keys key d g (omega (arith, q.seated.count)) in
                        let own = place_own same key old_keys (equality.refl key) in (
                          ap (λ (ps : List ℕ). get_or ps g 0) (there_new new) ∙ get_or_push places at 0 g (sym last) ∙ sym own ∙ ap (λ j. place same j new_held) (sym is_key),
                          subst (λ (j : K). place same j new_held < length new_held) (sym is_key) (omega (arith, own, place_noticed same key old_keys)),
                        )
                    | inr before ↦
                        let low_g : g < length places = omega (arith, ap length (there_new new), length_push places at) in
                        let s = stays g d low_g in
                        let is_key : get_or (noticed same key q.keys) g d ≡ get_or q.keys g d = ap (λ (ks : List K). get_or ks g d) (keys_new new) ∙ get_or_append_left q.keys (key ∷ []) d g (omega (arith, q.seated.count)) in (
                          ap (λ (ps : List ℕ). get_or ps g 0) (there_new new) ∙ get_or_append_left places (at ∷ []) 0 g low_g ∙ s.0 ∙ ap (λ j. place same j new_held) (sym is_key),
                          subst (λ (j : K). place same j new_held < length new_held) (sym is_key) s.1,
                        )
                  ]
            ]

        seated_more : (held : List (Held K P)) → held_keys held ≡ new_held → Seated same held (noticed same key q.keys) there
        seated_more held z = record {
          count =
              elim (cases_lt group (length places)) [
                | inl old ↦ omega (arith, ap length (there_old old), ap length (keys_old old), q.seated.count)
                | inr new ↦ omega (arith, ap length (there_new new), length_push places at, ap length (keys_new new), length_push q.keys key, q.seated.count)
              ];
          seats = λ g d l. subst (λ (ks : List K). (get_or there g 0 ≡ place same (get_or (noticed same key q.keys) g d) ks) × (place same (get_or (noticed same key q.keys) g d) ks < length ks)) (sym z) (seats_more g d l);
        }

        few_more : length there ≤ i + 1
        few_more =
            elim (cases_lt group (length places)) [ inl old ↦ omega (arith, ap length (there_old old), q.few) | inr new ↦ omega (arith, ap length (there_new new), length_push places at, q.few) ]

        pub admitting_more : (w : Lists K R P) → w ≡ admitted same start blank u r → Admitting same start blank accepted t w batch ids there (i + 1)
        admitting_more w z = record {
          is = ap (λ (y : Lists K R P). admit same start blank y (drop (i + 1) batch)) z ∙ next;
          counts = subst (λ (y : Lists K R P). AllByRecursion (λ e. e.rows ≤ accepted + (i + 1)) y.held) (sym z) (subst (λ (n : ℕ). AllByRecursion (λ e. e.rows ≤ n) (counted_in same start key u.held)) (omega arith) (rows_counted same start key (accepted + i) u.held q.counts));
          waits = ap (λ (y : Lists K R P). length y.waiting) z ∙ length_push u.waiting _ ∙ omega (arith, q.waits);
          keeps = ap (λ (y : Lists K R P). length y.kept) z ∙ length_push u.kept _ ∙ omega (arith, q.keeps);
          keys = noticed same key q.keys;
          pad = q.pad;
          seated = seated_more w.held (ap (λ (y : Lists K R P). held_keys y.held) z ∙ keys_counted same start key u.held);
          few = few_more;
          rest = sym (drop-drop 1 i ids) ∙ ap (drop 1) next_ids;
        }

  pub admitting_all : length batch ≤ i → u ≡ admit same start blank t batch
  admitting_all h = sym (at_drop_all (admit same start blank u) batch i h) ∙ q.is
