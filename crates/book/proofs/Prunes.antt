-- Pruning: the keys that have ended go, and of each other key the last rows stay.
use Rattle.std.proofs.Common.{◌≡◌, ℕ, zero, suc, ◌+◌, ◌-◌, ◌<◌, ◌≤◌, Bool, true, false, cond, not, ◌||◌, ltb, List, [], ◌∷◌, map, length, drop, Option, sym, refl, ap, ◌∙◌, subst, inl, inr, arith}
use mathlib.Core.List.{map-map}
use Rattle.std.specs.List.{AllByRecursion}
use Rattle.std.proofs.lemmas.Bool.{cases_Bool, cases_lt, both_ways, not-true, or_parts, lt-ltb, le-ltb}
use Rattle.std.proofs.lemmas.List.{length-map, length-drop, drop-map, drop-drop}
use Rattle.std.proofs.ByRecursion.{All-map, All-drop, all_kept_by, kept_by_passes}
use Rattle.figures.specs.Catching.{last as last_of}
use Rattle.searchers.specs.declared.rows.Row.{Row}
use Rattle.searchers.specs.declared.rows.Held.{Held}
use Rattle.tables.specs.declared.rows.Kept.{Kept}
use Rattle.tables.specs.Lists.{Lists, value_at, place_in, of_place, renumbered, pruned, moved, let_go}
use Rattle.aggregates.specs.Figures.{Theory}
use Rattle.book.specs.Calls.{Settings}
use Rattle.book.specs.Book.{rows_of, ranked}
use Rattle.book.proofs.Basics.{all_with, all_unmap}
use Rattle.book.proofs.Orders.{Lawful, gone_same}
use Rattle.book.proofs.Places.{Found, going, ended_place, place_same, at_found, renumbers, going_missing, kept_apart, kept_found}
use Rattle.book.proofs.Mids.{tag, gone, Located, Counted, Waits, Midway, found_live}
use Rattle.book.proofs.Ready.{kept_at}

last_few : {A : Type 0} (n : ℕ) (x : A) (xs : List A) → length xs < n → (last_of n (x ∷ xs) ≡ x ∷ xs) × (last_of n xs ≡ xs)
last_few n x xs h =
    let a : length (x ∷ xs) - n ≡ 0 = omega arith in
    let b : length xs - n ≡ 0 = omega arith in
    (ap (λ z. drop z (x ∷ xs)) a, ap (λ z. drop z xs) b)

last_many : {A : Type 0} (n : ℕ) (x : A) (xs : List A) → n ≤ length xs → last_of n (x ∷ xs) ≡ last_of n xs
last_many n x xs h = let a : length (x ∷ xs) - n ≡ suc (length xs - n) = omega arith in ap (λ z. drop z (x ∷ xs)) a

module _ {K R P : Type 0} (s : Settings K R P) (l : Lawful s.kind) where
  -- whether a kept row goes, before the rows behind it
  abbrev goes : ℕ → List (Held K P) → Kept K → List (Kept K) → Bool
  goes reach held x xs = value_at (λ e. e.ended) true held x.place || not (ltb (length (of_place x.place xs)) reach)

  abbrev renumbered_row : List (Held K P) → Kept K → Kept K
  renumbered_row held x = record { row = x.row; place = renumbered held x.place }

  pruned_spots : (reach : ℕ) (held : List (Held K P)) (kept : List (Kept K)) → AllByRecursion (λ x. Located s held x.row.key x.place) kept
      → AllByRecursion (λ x. Located s (going held) x.row.key x.place) (pruned reach held kept)
  pruned_spots reach held [] q = tt
  pruned_spots reach held (x ∷ xs) q =
      (elim (goes reach held x xs) as (λ b. goes reach held x xs ≡ b → AllByRecursion (λ x. Located s (going held) x.row.key x.place) (cond b (pruned reach held xs) (renumbered_row held x ∷ pruned reach held xs))) [
        | true ↦ λ e. pruned_spots reach held xs q.1
        | false ↦ λ e.
            (let live : ended_place s.kind.same held x.row.key ≡ false = ap (value_at (λ e. e.ended) true held) (sym q.0.place) ∙ (or_parts _ _ e).0 in
            let r = renumbers s.kind.same x.row.key held q.0.found live in
            (record { place = ap (renumbered held) q.0.place ∙ r.0; found = r.1 }, pruned_spots reach held xs q.1))
      ]) refl

  -- of a key that has not ended the last rows stay
  pruned_rows : (reach : ℕ) (held : List (Held K P)) (key : K) → Found s.kind.same key held → ended_place s.kind.same held key ≡ false
      → (kept : List (Kept K)) → AllByRecursion (λ x. Located s held x.row.key x.place) kept
      → rows_of s.kind.same key (map (λ x. x.row) (pruned reach held kept)) ≡ last_of reach (rows_of s.kind.same key (map (λ x. x.row) kept))
  pruned_rows reach held key lt live [] q = let z : 0 - reach ≡ 0 = omega arith in sym (ap (λ n. drop {A = Row K} n []) z)
  pruned_rows reach held key lt live (x ∷ xs) q =
      let same = s.kind.same in
      let on = pruned_rows reach held key lt live xs q.1 in
      let rest = rows_of same key (map (λ x. x.row) xs) in
      let left = rows_of same key (map (λ x. x.row) (pruned reach held xs)) in
      let step : (b : Bool) → goes reach held x xs ≡ b → rows_of same key (map (λ x. x.row) (pruned reach held (x ∷ xs))) ≡ cond b left (cond (same x.row.key key) (x.row ∷ left) left) =
      λ b e. ap (λ b. rows_of same key (map (λ x. x.row) (cond b (pruned reach held xs) (renumbered_row held x ∷ pruned reach held xs)))) e
      ∙ (elim b as (λ b. rows_of same key (map (λ x. x.row) (cond b (pruned reach held xs) (renumbered_row held x ∷ pruned reach held xs))) ≡ cond b left (cond (same x.row.key key) (x.row ∷ left) left)) [ true ↦ refl | false ↦ refl ]) in
      elim (cases_Bool (same x.row.key key)) [
        | inl y ↦
            (let place_is : x.place ≡ place_in same key held = q.0.place ∙ place_same same l.equality x.row.key key y held in
            let live_here : value_at (λ e. e.ended) true held x.place ≡ false = ap (value_at (λ e. e.ended) true held) place_is ∙ live in
            let many : length (of_place x.place xs) ≡ length rest =
            ap (λ n. length (of_place n xs)) place_is
            ∙ sym (length-map (of_place (place_in same key held) xs) (λ z. z.row)) ∙ ap length (sym (kept_at s l held xs key q.1 lt)) in
            let test : goes reach held x xs ≡ not (ltb (length rest) reach) = ap (λ b. b || not (ltb (length (of_place x.place xs)) reach)) live_here ∙ ap (λ n. not (ltb n reach)) many in
            elim (cases_lt (length rest) reach) [
              | inl few ↦
                  (let lf = last_few reach x.row rest few in
                  step false (test ∙ ap not (lt-ltb _ _ few))
                  ∙ ap (λ b. cond b (x.row ∷ left) left) y
                  ∙ ap (λ z. x.row ∷ z) (on ∙ lf.1) ∙ sym lf.0
                  ∙ ap (λ b. last_of reach (cond b (x.row ∷ rest) rest)) (sym y))
              | inr enough ↦
                  step true (test ∙ ap not (le-ltb _ _ enough))
                  ∙ on ∙ sym (last_many reach x.row rest enough)
                  ∙ ap (λ b. last_of reach (cond b (x.row ∷ rest) rest)) (sym y)
            ])
        | inr n ↦
            step (goes reach held x xs) refl
            ∙ ap (λ b. cond (goes reach held x xs) left (cond b (x.row ∷ left) left)) n
            ∙ (elim (goes reach held x xs) as (λ b. cond b left left ≡ left) [ true ↦ refl | false ↦ refl ])
            ∙ on ∙ ap (λ b. last_of reach (cond b (x.row ∷ rest) rest)) (sym n)
      ]

  module _ (th : Theory s.figures) (now : List (Row K)) (last : Option K) (c : ℕ) (t : Lists K R P) (m : Midway s th now last now last c t)
      (ends : AllByRecursion (λ e. e.ended ≡ gone s last e.key) t.held) where
    -- whether a key that is held has ended
    ended_is : (key : K) → Found s.kind.same key t.held → ended_place s.kind.same t.held key ≡ gone s last key
    ended_is key lt = at_found s.kind.same (λ e. e.ended) true (λ e. e.ended ≡ gone s last e.key) (λ y. y ≡ gone s last key) key
        (λ e q h. q ∙ gone_same s.kind l s.mode last e.key key h) t.held ends lt

    pub live_left : AllByRecursion (λ e. gone s last e.key ≡ false) (going t.held)
    live_left =
        all_with (λ e. e.ended ≡ gone s last e.key) (λ e. not e.ended ≡ true) (λ e. gone s last e.key ≡ false) (λ e a b. sym a ∙ not-true _ b) _
        (all_kept_by (λ e. not e.ended) (λ e. e.ended ≡ gone s last e.key) t.held ends) (kept_by_passes (λ e. not e.ended) t.held)

    pub kept_last : (key : K) → Found s.kind.same key (going t.held)
        → rows_of s.kind.same key (map (λ x. x.row) (pruned s.figures.reach t.held t.kept)) ≡ last_of s.figures.reach (rows_of s.kind.same key now)
    kept_last key h =
        let lt = kept_found s.kind.same (λ e. not e.ended) key t.held h in
        let live = found_live s l last (going t.held) live_left key h in
        let st = m.stored key lt in
        let all = rows_of s.kind.same key now in
        let sum : st.from + (length (drop st.from all) - s.figures.reach) ≡ length all - s.figures.reach = omega (arith, length-drop st.from all, st.few) in
        pruned_rows s.figures.reach t.held key lt (ended_is key lt ∙ live) t.kept m.keeps
        ∙ ap (last_of s.figures.reach) st.rows
        ∙ drop-drop (length (drop st.from all) - s.figures.reach) st.from all
        ∙ ap (λ z. drop z all) sum

    -- the first n waiting rows have left, and no row of an ended key waits behind them
    pub midway_left : (n : ℕ) → c + n ≤ length now → AllByRecursion (λ u. gone s last u.row.key ≡ false) (drop (c + n) (ranked s.kind.same [] now)) → Midway s th now last now last (c + n) (let_go s.figures.reach n t)
    midway_left zero fits live = subst (λ z. Midway s th now last now last z t) (let e : c ≡ c + 0 = omega arith in e) m
    midway_left (suc n) fits live =
        let same = s.kind.same in
        let tags_on : map tag (drop (suc n) t.waiting) ≡ drop (c + suc n) (ranked same [] now) =
        sym (drop-map tag (suc n) t.waiting) ∙ ap (drop (suc n)) m.tags ∙ drop-drop (suc n) c (ranked same [] now) in
        let lives : AllByRecursion (λ w. gone s last w.row.key ≡ false) (drop (suc n) t.waiting) =
        all_unmap (λ u. gone s last u.row.key ≡ false) tag (drop (suc n) t.waiting) (subst (AllByRecursion (λ u. gone s last u.row.key ≡ false)) (sym tags_on) live) in
        record {
          tags = map-map tag (moved t.held) (drop (suc n) t.waiting) ∙ tags_on;
          short = fits;
          rises = m.rises;
          under = m.under;
          apart = kept_apart same (λ e. not e.ended) t.held m.apart;
          entries = all_kept_by (λ e. not e.ended) (Counted s th now last now last) t.held m.entries;
          waits = All-map (Waits s th now last now last (going t.held)) (moved t.held) (drop (suc n) t.waiting)
              (all_with (Waits s th now last now last t.held) (λ w. gone s last w.row.key ≡ false) (λ w. Waits s th now last now last (going t.held) (moved t.held w))
              (λ w q g.
              (let r = renumbers same w.row.key t.held q.spot.found (ended_is w.row.key q.spot.found ∙ g) in
              record {
                spot = record { place = ap (renumbered t.held) q.spot.place ∙ r.0; found = r.1 };
                results = q.results;
                ranks = q.ranks;
              }))
              (drop (suc n) t.waiting) (All-drop _ (suc n) t.waiting m.waits) lives);
          keeps = pruned_spots s.figures.reach t.held t.kept m.keeps;
          covers = λ key h g.
              elim (going_missing same key t.held h) [
                | inl ge ↦ m.covers key ge g
                | inr dead ↦ absurd (both_ways _ g (sym (ended_is key dead.0) ∙ dead.1))
              ];
          stored = λ key h. record { from = length (rows_of same key now) - s.figures.reach; few = omega arith; rows = kept_last key h };
          grew = m.grew;
        }
