-- Settled rows: by the book, by the entry of the key, and as more rows come.
use Rattle.std.proofs.Common.{◌≡◌, suc, ◌+◌, ◌<◌, Bool, true, false, cond, ◌||◌, ltb, ◌⊎◌, List, [], ◌∷◌, ◌++◌, map, length, None, Option, sym, ap, ◌∙◌, inl, inr, arith}
use Rattle.std.specs.List.{AllByRecursion}
use Rattle.std.proofs.lemmas.Bool.{cases_Bool, cases_lt, both_ways, ltb-true, lt-ltb, or_cases, or_left, or_right}
use Rattle.std.proofs.lemmas.List.{append-nil, append_assoc, map-append, length-append, length-map}
use Rattle.std.proofs.lemmas.List.Elements.{filter-append}
use Rattle.searchers.specs.declared.rows.Row.{Row}
use Rattle.searchers.specs.declared.rows.Waiting.{Waiting}
use Rattle.searchers.specs.declared.rows.Held.{Held}
use Rattle.searchers.specs.Ends.{ended_at}
use Rattle.tables.specs.declared.rows.OutRow.{OutRow}
use Rattle.tables.specs.Lists.{value_at}
use Rattle.aggregates.specs.Figures.{Theory}
use Rattle.book.specs.Calls.{Settings, last_key, settled}
use Rattle.book.specs.Book.{Book, Ranked, rows_of, cells_of, ranked, ended, settled_row}
use Rattle.book.proofs.Basics.{all_with}
use Rattle.book.proofs.Orders.{Lawful, ended_is_gone, gone_same}
use Rattle.book.proofs.Places.{rows_same, at_found}
use Rattle.book.proofs.Mids.{tag, gone, over, Grew, Counted, Waits}

module _ {K R P : Type 0} (s : Settings K R P) where
  -- settled, where a key has ended once the last key has passed it
  abbrev pub ripe : List (Row K) → Option K → Ranked K → Bool
  ripe rows last u = ltb (u.rank + s.figures.ahead) (length (rows_of s.kind.same u.row.key rows)) || gone s last u.row.key

  -- a row with its results, from some rows
  abbrev pub out_from : List (Row K) → Ranked K → OutRow K R
  out_from rows u = record { row = u.row; results = s.figures.result (cells_of s.kind.same u.row.key rows) u.rank }

  pub ripe_cases : (rows : List (Row K)) (last : Option K) (u : Ranked K) → ripe rows last u ≡ true
      → (u.rank + s.figures.ahead < length (rows_of s.kind.same u.row.key rows)) ⊎ (gone s last u.row.key ≡ true)
  ripe_cases rows last u h = elim (or_cases _ (gone s last u.row.key) h) [ inl lt ↦ inl (ltb-true _ _ lt) | inr g ↦ inr g ]

  pub ripe_long : (rows : List (Row K)) (last : Option K) (u : Ranked K) → u.rank + s.figures.ahead < length (rows_of s.kind.same u.row.key rows) → ripe rows last u ≡ true
  ripe_long rows last u h = or_left _ (gone s last u.row.key) (lt-ltb _ _ h)

  pub ripe_gone : (rows : List (Row K)) (last : Option K) (u : Ranked K) → gone s last u.row.key ≡ true → ripe rows last u ≡ true
  ripe_gone rows last u h = or_right (ltb (u.rank + s.figures.ahead) (length (rows_of s.kind.same u.row.key rows))) (gone s last u.row.key) h

module _ {K R P : Type 0} (s : Settings K R P) (l : Lawful s.kind) where
  -- by the book of a run that is not finished
  pub book_ended : (b : Book K) (last : Option K) → b.finished ≡ false → last ≡ last_key None b.rows → (key : K) → over s last key ≡ false → ended s b key ≡ gone s last key
  book_ended b last unfinished is key under =
      let by : Option K → Bool = λ z. ended_at s.mode s.kind.same s.kind.parts z key in
      ap (λ z. z || by (last_key None b.rows)) unfinished ∙ ap by (sym is) ∙ ended_is_gone s.kind l s.mode last key under

  pub book_ripe : (b : Book K) (last : Option K) → b.finished ≡ false → last ≡ last_key None b.rows → (u : Ranked K) → over s last u.row.key ≡ false → settled_row s b u ≡ ripe s b.rows last u
  book_ripe b last unfinished is u under =
      ap (λ z. ltb (u.rank + s.figures.ahead) (length (rows_of s.kind.same u.row.key b.rows)) || z) (book_ended b last unfinished is u.row.key under)

  -- the last row of a key that has rows
  pub find_last : (Q : Ranked K → Type 0) (key : K) (before rows : List (Row K)) → 0 < length (rows_of s.kind.same key rows) → AllByRecursion Q (ranked s.kind.same before rows)
      → (u : Ranked K) × (s.kind.same u.row.key key ≡ true) × (u.rank + 1 ≡ length (rows_of s.kind.same key (before ++ rows))) × Q u
  find_last Q key before [] h a = absurd (omega arith)
  find_last Q key before (r ∷ rows) h a =
      let same = s.kind.same in
      elim (cases_lt 0 (length (rows_of same key rows))) [
        | inl more ↦
            (let f = find_last Q key (before ++ r ∷ []) rows more a.1 in
            (f.0, f.1, f.2 ∙ ap (λ z. length (rows_of same key z)) (append_assoc before (r ∷ []) rows), f.3))
        | inr none ↦
            (let y : same r.key key ≡ true = elim (cases_Bool (same r.key key)) [ inl y ↦ y | inr n ↦ absurd (let h2 : 0 < length (rows_of same key rows) = rw n at h in omega arith) ] in
            let one : length (rows_of same key (r ∷ rows)) ≡ suc (length (rows_of same key rows)) = ap (λ b. length (cond b (r ∷ rows_of same key rows) (rows_of same key rows))) y in (
              record { row = r; rank = length (rows_of same r.key before) },
              y,
              omega (arith, one, ap length (rows_same same l.equality r.key key y before), ap length (filter-append (λ x. same x.key key) before (r ∷ rows)), length-append (rows_of same key before) (rows_of same key (r ∷ rows))),
              a.0,
            ))
      ]

module _ {K R P : Type 0} (s : Settings K R P) (th : Theory s.figures) where
  -- by the entry of a waiting row's key
  pub settled_ripe : (l : Lawful s.kind) (now : List (Row K)) (last : Option K) (held : List (Held K P)) → AllByRecursion (Counted s th now last now last) held → AllByRecursion (λ e. e.ended ≡ gone s last e.key) held
      → (w : Waiting K R) → Waits s th now last now last held w → settled s.figures.ahead held w ≡ ripe s now last (tag w)
  settled_ripe l now last held entries ends w q =
      let same = s.kind.same in
      let F : Held K P → Bool = λ e. ltb (w.rank + s.figures.ahead) e.rows || e.ended in
      let Q : Held K P → Type 0 = λ e. (e.rows ≡ length (rows_of same e.key now)) × (e.ended ≡ gone s last e.key) in
      ap (value_at F false held) q.spot.place
      ∙ at_found same F false Q (λ y. y ≡ ripe s now last (tag w)) w.row.key
      (λ e a h.
      ap (λ n. ltb (w.rank + s.figures.ahead) n || e.ended) (a.0 ∙ ap length (rows_same same l.equality e.key w.row.key h now))
      ∙ ap (λ z. ltb (w.rank + s.figures.ahead) (length (rows_of same w.row.key now)) || z) (a.1 ∙ gone_same s.kind l s.mode last e.key w.row.key h))
      held (all_with (Counted s th now last now last) (λ e. e.ended ≡ gone s last e.key) Q (λ e a b. (a.rows, b)) held entries ends) q.spot.found

  -- a settled row has its results
  pub ripe_result : (now : List (Row K)) (last : Option K) (w : Waiting K R) (held : List (Held K P)) → Waits s th now last now last held w
      → (gone s last w.row.key ≡ true → w.results ≡ s.figures.result (cells_of s.kind.same w.row.key now) w.rank) → ripe s now last (tag w) ≡ true
      → w.results ≡ s.figures.result (cells_of s.kind.same w.row.key now) w.rank
  ripe_result now last w held q done h =
      elim (cases_Bool (gone s last w.row.key)) [
        | inl y ↦ done y
        | inr live ↦ elim (ripe_cases s now last (tag w) h) [
          | inl lt ↦ q.results live ∙ th.ready (cells_of s.kind.same w.row.key now) w.rank (omega (arith, lt, length-map (rows_of s.kind.same w.row.key now) (λ (r : Row K). r.cells)))
          | inr g ↦ absurd (both_ways _ live g)
        ]
      ]

  -- rows that come later leave a settled row settled, and its results as they were
  module _ (old : List (Row K)) (last0 : Option K) (now : List (Row K)) (last : Option K) (grew : (key : K) → Grew s old last0 now last key) (u : Ranked K) (h : ripe s old last0 u ≡ true) where
    pub ripe_on : ripe s now last u ≡ true
    ripe_on =
        let key = u.row.key in
        elim (ripe_cases s old last0 u h) [
          | inl lt ↦ ripe_long s now last u (omega (arith, lt, ap length (grew key).grown, length-append (rows_of s.kind.same key old) (grew key).newer))
          | inr g ↦ ripe_gone s now last u ((grew key).quiet g).1
        ]

    pub out_on : out_from s old u ≡ out_from s now u
    out_on =
        let key = u.row.key in
        let xs = cells_of s.kind.same key old in
        let ys = map (λ (r : Row K). r.cells) (grew key).newer in
        let cells : cells_of s.kind.same key now ≡ xs ++ ys =
        ap (map (λ (r : Row K). r.cells)) (grew key).grown ∙ map-append (λ (r : Row K). r.cells) (rows_of s.kind.same key old) (grew key).newer in
        let here : s.figures.result (xs ++ ys) u.rank ≡ s.figures.result xs u.rank =
        elim (ripe_cases s old last0 u h) [
          | inl lt ↦ th.lasts xs ys u.rank (omega (arith, lt, length-map (rows_of s.kind.same key old) (λ (r : Row K). r.cells)))
          | inr g ↦ ap (λ z. s.figures.result (xs ++ map (λ r. r.cells) z) u.rank) ((grew key).quiet g).0 ∙ ap (λ z. s.figures.result z u.rank) (append-nil xs)
        ] in
        ap (λ (z : R). record { row = u.row; results = z }) (sym here ∙ ap (λ z. s.figures.result z u.rank) (sym cells))
