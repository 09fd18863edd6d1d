-- What holds while the rows of a batch are admitted, one after the other.
use Rattle.std.proofs.Common.{◌≡◌, ℕ, suc, ◌+◌, ◌-◌, ◌<◌, ◌≤◌, Bool, true, false, cond, not, ltb, List, [], ◌∷◌, ◌++◌, map, length, drop, Some, None, filter, Option, sym, refl, ap, ◌∙◌, subst, inl, inr, zero-le, arith}
use Rattle.std.specs.List.{AllByRecursion}
use Rattle.std.proofs.lemmas.Bool.{cases_Bool, cases_lt, lt-ltb}
use Rattle.std.proofs.lemmas.List.{append-nil, append_assoc, map-append, map_push, length-append, length-map, length_push, length-drop, drop-append-le, nil_from_length}
use Rattle.std.proofs.lemmas.List.Elements.{filter-append}
use Rattle.std.proofs.ByRecursion.{All-push, All-weaker, All-map}
use Rattle.std.proofs.lemmas.List.Sums.{fold_push}
use Rattle.std.proofs.lemmas.Bool.Decides.{nat_tests}
use Rattle.searchers.specs.declared.rows.Row.{Row}
use Rattle.searchers.specs.declared.rows.Waiting.{Waiting}
use Rattle.searchers.specs.declared.rows.Held.{Held}
use Rattle.searchers.specs.Order.{keys_of, first_fall}
use Rattle.searchers.specs.Groups.{place, noticed}
use Rattle.tables.specs.declared.rows.Kept.{Kept}
use Rattle.tables.specs.Lists.{Lists, value_at, held_keys, place_in, distinct, one_more, counted_in, admitted, admit}
use Rattle.aggregates.specs.Figures.{Theory}
use Rattle.book.specs.Calls.{Settings, last_key}
use Rattle.book.specs.Book.{Ranked, rows_of, cells_of, ranked}
use Rattle.book.proofs.Basics.{false_from, kept_none, Rises, rises_push}
use Rattle.book.proofs.Orders.{Lawful, low, gone as gone-by, above, above_on, gone_on, gone_same, same_not_lower}
use Rattle.book.proofs.Places.{Found, Missing, Apart, rows_same, place_same, at_found, at_past, counted_place, counted_self, counted_long, counted_within, counted_keys, counted_apart, counted_all, counted_missing, missing_counted}

abbrev pub tag : {K R : Type 0} → Waiting K R → Ranked K
tag w = record { row = w.row; rank = w.rank }

-- Ranks, and the rows of a key

module _ {K : Type 0} (same : K → K → Bool) where
  pub ranked_append : (before xs ys : List (Row K)) → ranked same before (xs ++ ys) ≡ ranked same before xs ++ ranked same (before ++ xs) ys
  ranked_append before [] ys = ap (λ z. ranked same z ys) (sym (append-nil before))
  ranked_append before (x ∷ xs) ys =
      let here : Ranked K = record { row = x; rank = length (rows_of same x.key before) } in
      ap (λ z. here ∷ z) (ranked_append (before ++ x ∷ []) xs ys) ∙ ap (λ z. here ∷ (ranked same (before ++ x ∷ []) xs ++ ranked same z ys)) (append_assoc before (x ∷ []) xs)

  pub ranked_length : (before xs : List (Row K)) → length (ranked same before xs) ≡ length xs
  ranked_length before [] = refl
  ranked_length before (x ∷ xs) = ap suc (ranked_length (before ++ x ∷ []) xs)

  pub ranked_rows : (before xs : List (Row K)) → map (λ u. u.row) (ranked same before xs) ≡ xs
  ranked_rows before [] = refl
  ranked_rows before (x ∷ xs) = ap (λ z. x ∷ z) (ranked_rows (before ++ x ∷ []) xs)

  rows_hit : (key : K) (rows : List (Row K)) (r : Row K) → same r.key key ≡ true → rows_of same key (rows ++ r ∷ []) ≡ rows_of same key rows ++ r ∷ []
  rows_hit key rows r h = filter-append (λ x. same x.key key) rows (r ∷ []) ∙ ap (λ b. rows_of same key rows ++ cond b (r ∷ []) []) h

  rows_miss : (key : K) (rows : List (Row K)) (r : Row K) → same r.key key ≡ false → rows_of same key (rows ++ r ∷ []) ≡ rows_of same key rows
  rows_miss key rows r h = filter-append (λ x. same x.key key) rows (r ∷ []) ∙ ap (λ b. rows_of same key rows ++ cond b (r ∷ []) []) h ∙ append-nil _

  pub rows_more : (key : K) (rows more : List (Row K)) → length (rows_of same key rows) ≤ length (rows_of same key (rows ++ more))
  rows_more key rows more = omega (arith, ap length (filter-append (λ x. same x.key key) rows more), length-append (rows_of same key rows) (rows_of same key more))

-- The different keys of some rows

module _ {K : Type 0} (same : K → K → Bool) where
  cond_cons : (b : Bool) (x : K) (xs ys : List K) → cond b (x ∷ xs) (x ∷ ys) ≡ x ∷ cond b xs ys
  cond_cons true x xs ys = refl
  cond_cons false x xs ys = refl

  noticed_cons : (key x : K) (xs : List K) → noticed same key (x ∷ xs) ≡ cond (same x key) (x ∷ xs) (x ∷ noticed same key xs)
  noticed_cons key x xs =
      elim (same x key) as (λ t. cond (ltb (cond t 0 (suc (place same key xs))) (suc (length xs))) (x ∷ xs) (x ∷ (xs ++ key ∷ [])) ≡ cond t (x ∷ xs) (x ∷ noticed same key xs)) [
        | true ↦ ap (λ b. cond b (x ∷ xs) (x ∷ (xs ++ key ∷ []))) (lt-ltb 0 (suc (length xs)) (omega arith))
        | false ↦
            (let e : ltb (suc (place same key xs)) (suc (length xs)) ≡ ltb (place same key xs) (length xs) = grind (arith, nat_tests) in
            ap (λ b. cond b (x ∷ xs) (x ∷ (xs ++ key ∷ []))) e ∙ cond_cons _ x xs (xs ++ key ∷ []))
      ]

  counted_noticed : {P : Type 0} (st : P) (key : K) (held : List (Held K P)) → held_keys (counted_in same st key held) ≡ noticed same key (held_keys held)
  counted_noticed st key [] = refl
  counted_noticed st key (e ∷ held) =
      (elim (same e.key key) as (λ b. held_keys (cond b (one_more e ∷ held) (e ∷ counted_in same st key held)) ≡ cond b (held_keys (e ∷ held)) (e.key ∷ noticed same key (held_keys held))) [
        | true ↦ refl
        | false ↦ ap (λ z. e.key ∷ z) (counted_noticed st key held)
      ])
      ∙ sym (noticed_cons key e.key (held_keys held))

  -- a test that a key and those same to it pass may be made before or after
  kept_noticed : (p : K → Bool) (key : K) → p key ≡ true → ((x : K) → same x key ≡ true → p x ≡ true) → (keys : List K) → filter p (noticed same key keys) ≡ noticed same key (filter p keys)
  kept_noticed p key h like [] = ap (λ b. cond b (key ∷ []) []) h
  kept_noticed p key h like (x ∷ xs) =
      ap (filter p) (noticed_cons key x xs)
      ∙ (elim (cases_Bool (same x key)) [
        | inl y ↦ rw y (rw (like x y) (sym (noticed_cons key x (filter p xs) ∙ rw y refl)))
        | inr n ↦ rw n (elim (cases_Bool (p x)) [
          | inl px ↦ rw px (ap (λ z. x ∷ z) (kept_noticed p key h like xs) ∙ sym (noticed_cons key x (filter p xs) ∙ rw n refl))
          | inr np ↦ rw np (kept_noticed p key h like xs)
        ])
      ])

-- The tables of a run on the way

module _ {K R P : Type 0} (s : Settings K R P) where
  abbrev pub gone : Option K → K → Bool
  gone last key = gone-by s.kind s.mode last key

  abbrev pub over : Option K → K → Bool
  over last key = above s.kind s.mode last key

  abbrev pub Before : Ranked K → Ranked K → Type 0
  Before u v = low s.kind s.mode v.row.key u.row.key ≡ false

  abbrev pub admitted_row : Lists K R P → Row K → Lists K R P
  admitted_row t row = admitted s.kind.same s.figures.start s.figures.blank t row

  abbrev pub admitted_all : Lists K R P → List (Row K) → Lists K R P
  admitted_all t rows = admit s.kind.same s.figures.start s.figures.blank t rows

  -- a row's key is held, and its place is the key's
  pub record Located (held : List (Held K P)) (key : K) (p : ℕ) : Type 0 where
    pub place : p ≡ place_in s.kind.same key held
    pub found : Found s.kind.same key held

  -- how the rows of a key grew; one that the last key has passed stays so and gets no row
  pub record Grew (old : List (Row K)) (last0 : Option K) (now : List (Row K)) (last : Option K) (key : K) : Type 0 where
    pub newer : List (Row K)
    pub grown : rows_of s.kind.same key now ≡ rows_of s.kind.same key old ++ newer
    pub quiet : gone last0 key ≡ true → (newer ≡ []) × (gone last key ≡ true)

  -- the kept rows of a key: all but its first, which no result to come looks at
  pub record Stored (old now : List (Row K)) (kept : List (Kept K)) (key : K) : Type 0 where
    pub from : ℕ
    pub few : from ≤ length (rows_of s.kind.same key old) - s.figures.reach
    pub rows : rows_of s.kind.same key (map (λ x. x.row) kept) ≡ drop from (rows_of s.kind.same key now)

  -- the held keys are those of the rows that the last key has not passed
  pub record Named (last : Option K) (now : List (Row K)) (held : List (Held K P)) : Type 0 where
    pub alive : AllByRecursion (λ e. gone last e.key ≡ false) held
    pub names : held_keys held ≡ filter (λ key. not (gone last key)) (distinct s.kind.same [] now)

  module _ (l : Lawful s.kind) where
    -- a key that is not held has no kept row
    pub none_kept : (held : List (Held K P)) (kept : List (Kept K)) (key : K) → AllByRecursion (λ x. Located held x.row.key x.place) kept → Missing s.kind.same key held
        → rows_of s.kind.same key (map (λ x. x.row) kept) ≡ []
    none_kept held kept key keeps missing =
        kept_none (λ x. s.kind.same x.key key) _ (All-map (λ x. s.kind.same x.key key ≡ false) (λ x. x.row) kept
        (All-weaker (λ x. Located held x.row.key x.place) (λ x. s.kind.same x.row.key key ≡ false)
        (λ x q. elim (cases_Bool (s.kind.same x.row.key key)) [
          | inl y ↦ absurd (omega (arith, q.found, missing, place_same s.kind.same l.equality x.row.key key y held))
          | inr n ↦ n
        ]) kept keeps))

    -- where no held key was passed, none that is found was
    pub found_live : (last : Option K) (held : List (Held K P)) → AllByRecursion (λ e. gone last e.key ≡ false) held → (key : K) → Found s.kind.same key held → gone last key ≡ false
    found_live last held alive key lt =
        at_found s.kind.same (λ e. e.rows) 0 (λ e. gone last e.key ≡ false) (λ _. gone last key ≡ false) key
        (λ e a h. sym (gone_same s.kind l s.mode last e.key key h) ∙ a) held alive lt

  module _ (th : Theory s.figures) where
    pub record Counted (old : List (Row K)) (last0 : Option K) (now : List (Row K)) (last : Option K) (e : Held K P) : Type 0 where
      pub rows : e.rows ≡ length (rows_of s.kind.same e.key now)
      pub progress : gone last0 e.key ≡ false → e.progress ≡ th.state (cells_of s.kind.same e.key old)
      pub under : over last e.key ≡ false
      pub some : 0 < e.rows

    pub record Waits (old : List (Row K)) (last0 : Option K) (now : List (Row K)) (last : Option K) (held : List (Held K P)) (w : Waiting K R) : Type 0 where
      pub spot : Located held w.row.key w.place
      pub results : gone last0 w.row.key ≡ false → w.results ≡ s.figures.so_far false (cells_of s.kind.same w.row.key old) w.rank
      pub ranks : w.rank < length (rows_of s.kind.same w.row.key now)

    -- the tables hold what the rows `now` ask, with results and progress as of the rows `old`; c rows are out
    pub record Midway (old : List (Row K)) (last0 : Option K) (now : List (Row K)) (last : Option K) (c : ℕ) (t : Lists K R P) : Type 0 where
      pub tags : map tag t.waiting ≡ drop c (ranked s.kind.same [] now)
      pub short : c ≤ length now
      pub rises : Rises Before (ranked s.kind.same [] now)
      pub under : AllByRecursion (λ u. over last u.row.key ≡ false) (ranked s.kind.same [] now)
      pub apart : Apart s.kind.same t.held
      pub entries : AllByRecursion (Counted old last0 now last) t.held
      pub waits : AllByRecursion (Waits old last0 now last t.held) t.waiting
      pub keeps : AllByRecursion (λ x. Located t.held x.row.key x.place) t.kept
      pub covers : (key : K) → Missing s.kind.same key t.held → gone last key ≡ false → rows_of s.kind.same key now ≡ []
      pub stored : (key : K) → Found s.kind.same key t.held → Stored old now t.kept key
      pub grew : (key : K) → Grew old last0 now last key

    pub waiting_long : (old : List (Row K)) (last0 : Option K) (now : List (Row K)) (last : Option K) (c : ℕ) (t : Lists K R P) → Midway old last0 now last c t → length t.waiting ≡ length now - c
    waiting_long old last0 now last c t m =
        sym (length-map t.waiting tag) ∙ ap length m.tags ∙ length-drop c (ranked s.kind.same [] now) ∙ ap (λ z. z - c) (ranked_length s.kind.same [] now)

    module _ (l : Lawful s.kind) where
      -- one row is admitted
      module _ (old : List (Row K)) (last0 : Option K) (now : List (Row K)) (last : Option K) (c : ℕ) (t : Lists K R P) (m : Midway old last0 now last c t)
          (r : Row K) (in_order : gone last r.key ≡ false) where
        live_before : gone last0 r.key ≡ false
        live_before = false_from _ _ (λ g. ((m.grew r.key).quiet g).1) in_order

        old_le : (key : K) → length (rows_of s.kind.same key old) ≤ length (rows_of s.kind.same key now)
        old_le key = omega (arith, ap length (m.grew key).grown, length-append (rows_of s.kind.same key old) (m.grew key).newer)

        none_old : rows_of s.kind.same r.key now ≡ [] → rows_of s.kind.same r.key old ≡ []
        none_old e = nil_from_length _ (omega (arith, old_le r.key, ap length e))

        rank_is : value_at (λ e. e.rows) 0 t.held (place_in s.kind.same r.key t.held) ≡ length (rows_of s.kind.same r.key now)
        rank_is =
            elim (cases_lt (place_in s.kind.same r.key t.held) (length t.held)) [
              | inl lt ↦ at_found s.kind.same (λ e. e.rows) 0 (Counted old last0 now last) (λ y. y ≡ length (rows_of s.kind.same r.key now)) r.key
                  (λ e q h. q.rows ∙ ap length (rows_same s.kind.same l.equality e.key r.key h now)) t.held m.entries lt
              | inr ge ↦ at_past (λ e. e.rows) 0 t.held _ ge ∙ sym (ap length (m.covers r.key ge in_order))
            ]

        row_more : (key : K) → s.kind.same r.key key ≡ true → length (rows_of s.kind.same key (now ++ r ∷ [])) ≡ length (rows_of s.kind.same key now) + 1
        row_more key h = ap length (rows_hit s.kind.same key now r h) ∙ length_push (rows_of s.kind.same key now) r

        lifts : (key : K) → over last key ≡ false → over (Some r.key) key ≡ false
        lifts key h = above_on s.kind l s.mode last r.key key in_order h

        own_under : over (Some r.key) r.key ≡ false
        own_under = same_not_lower s.kind l s.mode r.key r.key (l.equality.refl _)

        entries_on : AllByRecursion (Counted old last0 (now ++ r ∷ []) (Some r.key)) (admitted_row t r).held
        entries_on = counted_all s.kind.same l.equality (Counted old last0 now last) (Counted old last0 (now ++ r ∷ []) (Some r.key)) s.figures.start r.key
            (λ e h q. record {
              rows = omega (arith, q.rows, row_more e.key (l.equality.symm _ _ ∙ h));
              progress = q.progress;
              under = lifts e.key q.under;
              some = omega (arith, q.some);
            })
            (λ e h q. record {
              rows = q.rows ∙ ap length (sym (rows_miss s.kind.same e.key now r (false_from _ _ (λ h. l.equality.symm e.key r.key ∙ h) h)));
              progress = q.progress;
              under = lifts e.key q.under;
              some = q.some;
            })
            t.held
            (λ h.
            (let none = m.covers r.key h in_order in
            record {
              rows = omega (arith, row_more r.key (l.equality.refl _), ap length none);
              progress = λ _. th.starts ∙ ap (λ z. th.state (map (λ x. x.cells) z)) (sym (none_old none));
              under = own_under;
              some = omega arith;
            }))
            m.apart m.entries

        located_on : (key : K) (p : ℕ) → Located t.held key p → Located (admitted_row t r).held key p
        located_on key p q =
            let e = counted_place s.kind.same s.figures.start key r.key t.held q.found in
            record { place = q.place ∙ sym e; found = omega (arith, q.found, e, counted_long s.kind.same s.figures.start r.key t.held) }

        located_new : Located (admitted_row t r).held r.key (place_in s.kind.same r.key t.held)
        located_new =
            let e = counted_self s.kind.same l.equality s.figures.start r.key t.held in
            record { place = sym e; found = omega (arith, e, counted_within s.kind.same s.figures.start r.key t.held) }

        stored_on : (key : K) → Found s.kind.same key (admitted_row t r).held → Stored old (now ++ r ∷ []) (admitted_row t r).kept key
        stored_on key lt =
            let same = s.kind.same in
            let now_on : rows_of same key (now ++ r ∷ []) ≡ rows_of same key now ++ rows_of same key (r ∷ []) = filter-append (λ x. same x.key key) now (r ∷ []) in
            let kept_on : rows_of same key (map (λ x. x.row) (admitted_row t r).kept) ≡ rows_of same key (map (λ x. x.row) t.kept) ++ rows_of same key (r ∷ []) =
            ap (rows_of same key) (map-append (λ (x : Kept K). x.row) t.kept _) ∙ filter-append (λ x. same x.key key) (map (λ x. x.row) t.kept) (r ∷ []) in
            elim (cases_lt (place_in same key t.held) (length t.held)) [
              | inl here ↦
                  (let st = m.stored key here in
                  record {
                    from = st.from;
                    few = st.few;
                    rows =
                        kept_on ∙ ap (λ z. z ++ rows_of same key (r ∷ [])) st.rows
                        ∙ sym (drop-append-le st.from (rows_of same key now) (rows_of same key (r ∷ [])) (omega (arith, st.few, old_le key)))
                        ∙ ap (drop st.from) (sym now_on);
                  })
              | inr ge ↦
                  (let is : same r.key key ≡ true =
                  elim (cases_Bool (same r.key key)) [ inl y ↦ y | inr n ↦ absurd (omega (arith, lt, missing_counted same s.figures.start key r.key t.held n ge)) ] in
                  let none : rows_of same key now ≡ [] = m.covers key ge (sym (gone_same s.kind l s.mode last r.key key is) ∙ in_order) in
                  record {
                    from = 0;
                    few = zero-le;
                    rows = kept_on ∙ ap (λ z. z ++ rows_of same key (r ∷ [])) (none_kept l t.held t.kept key m.keeps ge ∙ sym none) ∙ sym now_on;
                  })
            ]

        grew_on : (key : K) → Grew old last0 (now ++ r ∷ []) (Some r.key) key
        grew_on key =
            let same = s.kind.same in
            let q = m.grew key in
            record {
              newer = q.newer ++ rows_of same key (r ∷ []);
              grown = filter-append (λ x. same x.key key) now (r ∷ []) ∙ ap (λ z. z ++ rows_of same key (r ∷ [])) q.grown ∙ append_assoc (rows_of same key old) q.newer (rows_of same key (r ∷ []));
              quiet = λ g.
                  (let still = q.quiet g in
                  let differs : same r.key key ≡ false = false_from _ _ (λ y. gone_same s.kind l s.mode last r.key key y ∙ still.1) in_order in
                  (ap (λ z. z ++ rows_of same key (r ∷ [])) still.0 ∙ ap (λ b. cond b (r ∷ []) []) differs, gone_on s.kind l s.mode last r.key key in_order still.1));
            }

        midway_one : Midway old last0 (now ++ r ∷ []) (Some r.key) c (admitted_row t r)
        midway_one =
            let same = s.kind.same in
            let p = place_in same r.key t.held in
            let rank = value_at (λ e. e.rows) 0 t.held p in
            let w : Waiting K R = record { row = r; place = p; rank = rank; results = s.figures.blank } in
            let u : Ranked K = record { row = r; rank = length (rows_of same r.key now) } in
            let grown_tags : ranked same [] (now ++ r ∷ []) ≡ ranked same [] now ++ u ∷ [] = ranked_append same [] now (r ∷ []) in
            let under_on : AllByRecursion (λ v. over (Some r.key) v.row.key ≡ false) (ranked same [] now) = All-weaker _ _ (λ v h. lifts v.row.key h) (ranked same [] now) m.under in
            record {
              tags =
                  map_push tag t.waiting w ∙ ap (λ z. z ++ tag w ∷ []) m.tags
                  ∙ ap (λ n. drop c (ranked same [] now) ++ record { row = r; rank = n } ∷ []) rank_is
                  ∙ sym (drop-append-le c (ranked same [] now) (u ∷ []) (omega (arith, m.short, ranked_length same [] now)))
                  ∙ ap (drop c) (sym grown_tags);
              short = omega (arith, m.short, length_push now r);
              rises = subst (Rises Before) (sym grown_tags) (rises_push Before (ranked same [] now) u m.rises under_on);
              under = subst (AllByRecursion (λ v. over (Some r.key) v.row.key ≡ false)) (sym grown_tags)
                  (All-push (λ v. over (Some r.key) v.row.key ≡ false) (ranked same [] now) u under_on own_under);
              apart = counted_apart same s.figures.start r.key t.held m.apart;
              entries = entries_on;
              waits = All-push (Waits old last0 (now ++ r ∷ []) (Some r.key) (admitted_row t r).held) t.waiting w
                  (All-weaker (Waits old last0 now last t.held) (Waits old last0 (now ++ r ∷ []) (Some r.key) (admitted_row t r).held)
                  (λ x q. record {
                    spot = located_on x.row.key x.place q.spot;
                    results = q.results;
                    ranks = omega (arith, q.ranks, rows_more same x.row.key now (r ∷ []));
                  }) t.waiting m.waits)
                  (record {
                    spot = located_new;
                    results = λ _. th.blanks (cells_of same r.key old) rank (omega (arith, length-map (rows_of same r.key old) (λ (x : Row K). x.cells), old_le r.key, rank_is));
                    ranks = omega (arith, rank_is, row_more r.key (l.equality.refl _));
                  });
              keeps = All-push (λ x. Located (admitted_row t r).held x.row.key x.place) t.kept (record { row = r; place = p })
                  (All-weaker (λ x. Located t.held x.row.key x.place) (λ x. Located (admitted_row t r).held x.row.key x.place) (λ x q. located_on x.row.key x.place q) t.kept m.keeps)
                  located_new;
              covers = λ key h g.
                  (let was = counted_missing same l.equality s.figures.start key r.key t.held h in
                  rows_miss same key now r was.1 ∙ m.covers key was.0 (false_from _ _ (gone_on s.kind l s.mode last r.key key in_order) g));
              stored = stored_on;
              grew = grew_on;
            }

      passed_head : (b : Bool) (j : ℕ) (rest : Option ℕ) → cond b (Some j) rest ≡ None → (b ≡ false) × (rest ≡ None)
      passed_head true j rest e = let z : ◌≡◌ {A = ℕ} 0 1 = cc in absurd (omega arith)
      passed_head false j rest e = (refl, e)

      -- a batch in order is admitted
      pub midway_all : (old : List (Row K)) (last0 : Option K) (now : List (Row K)) (last : Option K) (c : ℕ) (t : Lists K R P) → Midway old last0 now last c t
          → (rows : List (Row K)) (i : ℕ) → first_fall (low s.kind s.mode) last i (keys_of rows) ≡ None
          → Midway old last0 (now ++ rows) (last_key last rows) c (admitted_all t rows)
      midway_all old last0 now last c t m [] i e = subst (λ z. Midway old last0 z last c t) (sym (append-nil now)) m
      midway_all old last0 now last c t m (r ∷ rows) i e =
          let h = passed_head _ _ _ e in
          subst (λ z. Midway old last0 z (last_key last (r ∷ rows)) c (admitted_all t (r ∷ rows))) (append_assoc now (r ∷ []) rows)
          (midway_all old last0 (now ++ r ∷ []) (Some r.key) c (admitted_row t r) (midway_one old last0 now last c t m r h.0) rows (i + 1) h.1)

      pub named_all : (old : List (Row K)) (last0 : Option K) (now : List (Row K)) (last : Option K) (c : ℕ) (t : Lists K R P) → Midway old last0 now last c t → Named last0 now t.held
          → (rows : List (Row K)) (i : ℕ) → first_fall (low s.kind s.mode) last i (keys_of rows) ≡ None
          → Named last0 (now ++ rows) (admitted_all t rows).held
      named_all old last0 now last c t m n [] i e = subst (λ z. Named last0 z t.held) (sym (append-nil now)) n
      named_all old last0 now last c t m n (r ∷ rows) i e =
          let same = s.kind.same in
          let h = passed_head _ _ _ e in
          let live = live_before old last0 now last c t m r h.0 in
          let p : K → Bool = λ key. not (gone last0 key) in
          let one : Named last0 (now ++ r ∷ []) (admitted_row t r).held = record {
            alive = counted_keys same (λ x. gone last0 x ≡ false) s.figures.start r.key t.held n.alive live;
            names =
                counted_noticed same s.figures.start r.key t.held ∙ ap (noticed same r.key) n.names
                ∙ sym (kept_noticed same p r.key (ap not live) (λ x y. ap not (gone_same s.kind l s.mode last0 x r.key y ∙ live)) (distinct same [] now))
                ∙ ap (filter p) (sym (fold_push (λ keys row. noticed same row.key keys) [] now r));
          } in
          subst (λ z. Named last0 z (admitted_all t (r ∷ rows)).held) (append_assoc now (r ∷ []) rows)
          (named_all old last0 (now ++ r ∷ []) (Some r.key) c (admitted_row t r) (midway_one old last0 now last c t m r h.0) one rows (i + 1) h.1)
