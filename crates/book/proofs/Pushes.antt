-- An accepted push: what is carried from call to call holds after it.
use Rattle.std.proofs.Common.{◌≡◌, ℕ, zero, suc, ◌+◌, ◌-◌, ◌<◌, ◌≤◌, min, Bool, true, false, cond, not, ◌⊎◌, List, [], ◌∷◌, ◌++◌, map, length, take, drop, Some, None, filter, Option, sym, refl, ap, ◌∙◌, subst, inl, inr, arith, take-add}
use mathlib.Core.List.{map-map}
use Rattle.std.specs.List.{prefix_len, AllByRecursion}
use Rattle.std.proofs.lemmas.Bool.{cases_Bool, cases_lt, both_ways, not-true, or_right}
use Rattle.std.proofs.lemmas.List.{append-nil, append_assoc, nil_from_length, map-append, map_push, length-append, length-map, length-take-le, take-append-drop, take-append-le, take-map, drop_all}
use Rattle.std.proofs.lemmas.List.Sums.{prefix_len-le-length}
use Rattle.std.proofs.ByRecursion.{All-weaker, All-map, All-take, All-append}
use Rattle.figures.specs.Catching.{last as last_of}
use Rattle.searchers.specs.declared.rows.Row.{Row}
use Rattle.searchers.specs.declared.rows.Waiting.{Waiting}
use Rattle.searchers.specs.declared.rows.Held.{Held}
use Rattle.searchers.specs.Order.{keys_of, first_fall}
use Rattle.searchers.specs.Ends.{ended_at}
use Rattle.tables.specs.declared.rows.OutRow.{OutRow}
use Rattle.tables.specs.Lists.{Lists, held_keys, place_in, out_row, let_go}
use Rattle.aggregates.specs.Figures.{Theory}
use Rattle.book.specs.Calls.{Settings, View, last_key, settled, leaving, readied, accepted_push}
use Rattle.book.specs.Book.{Book, Ranked, entered, rows_of, cells_of, ranked, ended}
use Rattle.book.specs.Law.{kept_rows}
use Rattle.book.proofs.Basics.{false_from, all_with, kept_cong, kept_map, kept_whole, kept_kept, leading_all, leading_append, leading_whole, leading_map, map_cong, behind}
use Rattle.book.proofs.Orders.{Lawful, low, ended_is_gone, gone_ended, gone_same, gone_down}
use Rattle.book.proofs.Places.{Found, rows_same}
use Rattle.book.proofs.Mids.{tag, gone, Before, admitted_row, admitted_all, Counted, Waits, Midway, Named, midway_all, named_all, none_kept, waiting_long, ranked_append, ranked_length, rows_more}
use Rattle.book.proofs.Ready.{midway_caught, push_ends, push_results, caught_named}
use Rattle.book.proofs.Prunes.{midway_left, kept_last, live_left}
use Rattle.book.proofs.Settles.{ripe, ripe_cases, ripe_long, ripe_gone, out_from, settled_ripe, ripe_result, ripe_on, out_on, find_last}
use Rattle.book.proofs.Stands.{Cut, Going, front_ripe, found_open}

last_append : {K : Type 0} (last : Option K) (xs ys : List (Row K)) → last_key last (xs ++ ys) ≡ last_key (last_key last xs) ys
last_append last [] ys = refl
last_append last (x ∷ xs) ys = last_append (Some x.key) xs ys

-- nothing is left of no rows
none_left : {X : Type 0} (b : Bool) (n : ℕ) (xs : List X) → xs ≡ [] → cond b [] (last_of (min (length xs) n) xs) ≡ []
none_left true n xs e = refl
none_left false n xs e = drop_all _ xs (omega (arith, ap length e))

module _ {K R P : Type 0} (s : Settings K R P) where
  -- the rows kept before rows leave
  kept_on : (t : Lists K R P) (rows : List (Row K)) → map (λ k. k.row) (admitted_all s t rows).kept ≡ map (λ k. k.row) t.kept ++ rows
  kept_on t [] = sym (append-nil _)
  kept_on t (r ∷ rows) = kept_on (admitted_row s t r) rows ∙ ap (λ z. z ++ rows) (map_push (λ k. k.row) t.kept _) ∙ append_assoc _ (r ∷ []) rows

module _ {K R P : Type 0} (s : Settings K R P) (th : Theory s.figures) (l : Lawful s.kind)
    (v : View K R P) (b : Book K) (outs : List (OutRow K R)) (g : Going s th l v b outs)
    (batch : List (Row K)) (fits : first_fall (low s.kind s.mode) v.last 0 (keys_of batch) ≡ None) where
  -- the rows with the batch, the last key, the tables before rows leave, how many leave, and the rows in turn
  abbrev now : List (Row K)
  now = b.rows ++ batch

  abbrev last : Option K
  last = last_key v.last batch

  abbrev ready : Lists K R P
  ready = readied s v batch

  abbrev count : ℕ
  count = leaving s.figures.ahead (readied s v batch)

  abbrev turn : List (Ranked K)
  turn = ranked s.kind.same [] (b.rows ++ batch)

  abbrev marks : K → Bool
  marks = ended_at s.mode s.kind.same s.kind.parts last

  m1 : Midway s th b.rows v.last now last v.out (admitted_all s v.tables batch)
  m1 = midway_all s th l b.rows v.last b.rows v.last v.out v.tables g.mid batch 0 fits

  agrees : AllByRecursion (λ e. marks e.key ≡ gone s last e.key) (admitted_all s v.tables batch).held
  agrees = All-weaker (Counted s th b.rows v.last now last) _ (λ e q. ended_is_gone s.kind l s.mode last e.key q.under) _ m1.entries

  named1 : Named s v.last now (admitted_all s v.tables batch).held
  named1 = named_all s th l b.rows v.last b.rows v.last v.out v.tables g.mid g.named batch 0 fits

  m2 : Midway s th now last now last v.out ready
  m2 = midway_caught s l th b.rows v.last now last v.out (admitted_all s v.tables batch) m1 named1.alive marks agrees

  named2 : Named s v.last now ready.held
  named2 = caught_named s l (admitted_all s v.tables batch).kept marks v.last now (admitted_all s v.tables batch).held named1

  ends : AllByRecursion (λ e. e.ended ≡ gone s last e.key) ready.held
  ends = push_ends s l th b.rows v.last now last v.out (admitted_all s v.tables batch) m1 named1.alive marks agrees

  alike : AllByRecursion (λ w. settled s.figures.ahead ready.held w ≡ ripe s now last (tag w)) ready.waiting
  alike = All-weaker (Waits s th now last now last ready.held) _ (settled_ripe s th l now last ready.held m2.entries ends) _ m2.waits

  last_on : last ≡ last_key None now
  last_on = ap (λ z. last_key z batch) g.last ∙ sym (last_append None b.rows batch)

  turn_long : length turn ≡ length now
  turn_long = ranked_length s.kind.same [] now

  -- The rows that were out before

  were_ripe : AllByRecursion (λ u. ripe s b.rows v.last u ≡ true) (take v.out (ranked s.kind.same [] b.rows))
  were_ripe =
      subst (λ c. AllByRecursion (λ u. ripe s b.rows v.last u ≡ true) (take c (ranked s.kind.same [] b.rows))) (sym (g.fronts ∙ front_ripe s l b v g.book_open g.last g.mid.under))
      (leading_all (ripe s b.rows v.last) (ranked s.kind.same [] b.rows))

  take_old : take v.out turn ≡ take v.out (ranked s.kind.same [] b.rows)
  take_old =
      ap (take v.out) (ranked_append s.kind.same [] b.rows batch)
      ∙ take-append-le v.out (ranked s.kind.same [] b.rows) (ranked s.kind.same b.rows batch) (omega (arith, g.mid.short, ranked_length s.kind.same [] b.rows))

  -- the scan over the waiting rows finds the book's front
  front_on : prefix_len (ripe s now last) turn ≡ v.out + count
  front_on =
      let p = ripe s now last in
      let all : AllByRecursion (λ u. p u ≡ true) (take v.out turn) =
      subst (AllByRecursion (λ u. p u ≡ true)) (sym take_old) (All-weaker (λ u. ripe s b.rows v.last u ≡ true) (λ u. p u ≡ true) (ripe_on s th b.rows v.last now last m1.grew) _ were_ripe) in
      ap (prefix_len p) (sym (take-append-drop v.out turn)) ∙ leading_append p (take v.out turn) (drop v.out turn) all
      ∙ ap (λ z. z + prefix_len p (drop v.out turn)) (length-take-le v.out turn (omega (arith, m1.short, turn_long)))
      ∙ ap (λ z. v.out + prefix_len p z) (sym m2.tags)
      ∙ ap (λ z. v.out + z) (sym (leading_map (settled s.figures.ahead ready.held) p tag ready.waiting alike))

  count_fits : v.out + count ≤ length now
  count_fits = omega (arith, front_on, prefix_len-le-length (ripe s now last) turn, turn_long)

  -- no row of an ended key waits behind the front
  lives : AllByRecursion (λ u. gone s last u.row.key ≡ false) (drop (v.out + count) turn)
  lives =
      subst (λ n. AllByRecursion (λ u. gone s last u.row.key ≡ false) (drop n turn)) front_on
      (behind (Before s) (ripe s now last) (λ u. gone s last u.row.key) (ripe_gone s now last) (λ x y le h. gone_down s.kind l s.mode last x.row.key y.row.key le h) _ m1.rises)

  -- The rows that leave

  put_is : (accepted_push s v batch).put ≡ map (out_from s now) (take count (drop v.out turn))
  put_is =
      let W = ready.waiting in
      let So : Waiting K R → Type 0 = Waits s th now last now last ready.held in
      let Done : Waiting K R → Type 0 = λ w. gone s last w.row.key ≡ true → w.results ≡ s.figures.result (cells_of s.kind.same w.row.key now) w.rank in
      let Alike : Waiting K R → Type 0 = λ w. settled s.figures.ahead ready.held w ≡ ripe s now last (tag w) in
      let Ripe : Waiting K R → Type 0 = λ w. ripe s now last (tag w) ≡ true in
      let dones : AllByRecursion Done W = push_results s l th b.rows v.last now last v.out (admitted_all s v.tables batch) m1 named1.alive marks agrees in
      let ripes : AllByRecursion Ripe (take count W) = all_with Alike _ Ripe (λ w a h. sym a ∙ h) (take count W) (All-take Alike count W alike) (leading_all (settled s.figures.ahead ready.held) W) in
      let each : AllByRecursion (λ w. out_row w ≡ out_from s now (tag w)) (take count W) =
      all_with (λ w. So w × Done w) Ripe _ (λ w q h. ap (λ (z : R). record { row = w.row; results = z }) (ripe_result s th now last w ready.held q.0 q.1 h)) (take count W)
      (All-take (λ w. So w × Done w) count W (all_with So Done (λ w. So w × Done w) (λ w a b. (a, b)) W m2.waits dones)) ripes in
      map_cong out_row (λ w. out_from s now (tag w)) (take count W) each
      ∙ sym (map-map (out_from s now) tag (take count W))
      ∙ ap (map (out_from s now)) (sym (take-map tag count W) ∙ ap (take count) m2.tags)

  put_long : length (accepted_push s v batch).put ≡ count
  put_long = length-map (take count ready.waiting) out_row ∙ length-take-le count ready.waiting (prefix_len-le-length (settled s.figures.ahead ready.held) ready.waiting)

  first_on : outs ++ (accepted_push s v batch).put ≡ map (out_from s now) (take (v.out + count) turn)
  first_on =
      let f = out_from s now in
      let was : outs ≡ map f (take v.out turn) =
      g.first
      ∙ map_cong (out_from s b.rows) f (take v.out (ranked s.kind.same [] b.rows)) (All-weaker (λ u. ripe s b.rows v.last u ≡ true) _ (out_on s th b.rows v.last now last m1.grew) _ were_ripe)
      ∙ ap (map f) (sym take_old) in
      ap (λ z. z ++ (accepted_push s v batch).put) was ∙ ap (λ z. map f (take v.out turn) ++ z) put_is
      ∙ sym (map-append f (take v.out turn) (take count (drop v.out turn))) ∙ ap (map f) (sym (take-add v.out count turn))

  -- The keys held

  -- where no row is awaited, every row leaves: if none does, the batch was empty, and the last key is the one before
  last_stays : count ≡ 0 → s.figures.ahead ≡ 0 → last ≡ v.last
  last_stays none none_ahead =
      let whole : count ≡ length ready.waiting =
      leading_whole (settled s.figures.ahead ready.held) ready.waiting
      (all_with (λ w. settled s.figures.ahead ready.held w ≡ ripe s now last (tag w)) (Waits s th now last now last ready.held) _
      (λ w a q. a ∙ ripe_long s now last (tag w) (omega (arith, none_ahead, q.ranks))) ready.waiting alike m2.waits) in
      ap (last_key v.last) (nil_from_length batch (omega (arith, whole, none, waiting_long s th now last now last v.out ready m2, length-append b.rows batch, g.mid.short)))

  -- a row was settled before, or its key has not been passed
  abbrev Either : Ranked K → Type 0
  Either u = (ripe s b.rows v.last u ≡ true) ⊎ (gone s last u.row.key ≡ false)

  -- the key of a last row u that is either has not been passed, if it had not been before
  still_open : count ≡ 0 → (key : K) (u : Ranked K) → s.kind.same u.row.key key ≡ true → u.rank + 1 ≡ length (rows_of s.kind.same key now) → Either u
      → gone s v.last key ≡ false → gone s last key ≡ false
  still_open none key u is rank (inr open-now) live = sym (gone_same s.kind l s.mode last u.row.key key is) ∙ open-now
  still_open none key u is rank (inl was) live =
      elim (ripe_cases s b.rows v.last u was) [
        | inl lt ↦
            (let none_ahead : s.figures.ahead ≡ 0 = omega (arith, lt, rank, ap length (rows_same s.kind.same l.equality u.row.key key is b.rows), rows_more s.kind.same key b.rows batch) in
            ap (λ z. gone s z key) (last_stays none none_ahead) ∙ live)
        | inr passed ↦ absurd (both_ways _ (gone_same s.kind l s.mode v.last u.row.key key is ∙ live) passed)
      ]

  -- with no row leaving no key has ended
  none_gone : count ≡ 0 → AllByRecursion (λ e. gone s last e.key ≡ false) ready.held
  none_gone none =
      let same_front : v.out + count ≡ v.out = omega (arith, none) in
      let before : AllByRecursion Either (take v.out turn) = subst (AllByRecursion Either) (sym take_old) (All-weaker (λ u. ripe s b.rows v.last u ≡ true) Either (λ u h. inl h) _ were_ripe) in
      let after : AllByRecursion Either (drop v.out turn) = subst (λ n. AllByRecursion Either (drop n turn)) same_front (All-weaker (λ u. gone s last u.row.key ≡ false) Either (λ u h. inr h) _ lives) in
      let all : AllByRecursion Either turn = subst (AllByRecursion Either) (take-append-drop v.out turn) (All-append Either (take v.out turn) (drop v.out turn) before after) in
      all_with (Counted s th now last now last) (λ e. gone s v.last e.key ≡ false) (λ e. gone s last e.key ≡ false)
      (λ e q live. (let f = find_last s l Either e.key [] now (omega (arith, q.rows, q.some)) all in still_open none e.key f.0 f.1 f.2 f.3 live))
      ready.held m2.entries named2.alive

  open_left : (n : ℕ) → count ≡ n
      → AllByRecursion (λ e. gone s last e.key ≡ false) (let_go s.figures.reach n ready).held
      × (held_keys (let_go s.figures.reach n ready).held ≡ filter (λ key. not (gone s last key)) (held_keys ready.held))
  open_left zero none =
      let p : K → Bool = λ key. not (gone s last key) in
      let alive = none_gone none in
      (alive, sym (kept_whole p (held_keys ready.held) (All-map (λ key. p key ≡ true) (λ e. e.key) ready.held (All-weaker (λ e. gone s last e.key ≡ false) _ (λ e h. ap not h) ready.held alive))))
  open_left (suc n) some =
      let p : K → Bool = λ key. not (gone s last key) in (
        live_left s l th now last v.out ready m2 ends,
        ap (map (λ (e : Held K P). e.key)) (kept_cong (λ e. not e.ended) (λ e. p e.key) ready.held (All-weaker (λ e. e.ended ≡ gone s last e.key) _ (λ e h. ap not h) ready.held ends))
            ∙ sym (kept_map p (λ e. e.key) ready.held),
      )

  named_on : Named s last now (accepted_push s v batch).view.tables.held
  named_on =
      let left = open_left count refl in
      let later : (key : K) → not (gone s last key) ≡ true → not (gone s v.last key) ≡ true =
      λ key h. ap not (false_from _ _ (λ was. ((m1.grew key).quiet was).1) (not-true (gone s last key) h)) in
      record {
        alive = left.0;
        names = left.1 ∙ ap (filter (λ key. not (gone s last key))) named2.names ∙ kept_kept _ _ later _;
      }

  pub push_going : Going s th l (accepted_push s v batch).view (entered b batch) (outs ++ (accepted_push s v batch).put)
  push_going = record {
    mid = midway_left s l th now last v.out ready m2 ends count count_fits lives;
    last = last_on;
    fronts = sym front_on ∙ sym (front_ripe s l (entered b batch) (accepted_push s v batch).view g.book_open last_on m2.under);
    first = first_on;
    accepted = ap (λ z. z + length batch) g.accepted ∙ sym (length-append b.rows batch);
    named = named_on;
    view_open = refl;
    book_open = g.book_open;
  }

  -- The rows kept

  pruned_by : (n : ℕ) → 0 < n → (key : K) → Found s.kind.same key (let_go s.figures.reach n ready).held
      → rows_of s.kind.same key (map (λ x. x.row) (let_go s.figures.reach n ready).kept) ≡ last_of s.figures.reach (rows_of s.kind.same key now)
  pruned_by zero h key lt = absurd (omega arith)
  pruned_by (suc n) h key lt = kept_last s l th now last v.out ready m2 ends key lt

  pub push_cut : 0 < length (accepted_push s v batch).put → Cut s (accepted_push s v batch).view (entered b batch)
  push_cut h key =
      let same = s.kind.same in
      let v' = (accepted_push s v batch).view in
      let all = rows_of same key now in
      let wanted : Bool → List (Row K) = λ e. cond e [] (last_of (min (length all) s.figures.reach) all) in
      elim (cases_lt (place_in same key v'.tables.held) (length v'.tables.held)) [
        | inl lt ↦
            (let as_many : length all - s.figures.reach ≡ length all - min (length all) s.figures.reach = omega arith in
            pruned_by count (omega (arith, h, put_long)) key lt ∙ ap (λ z. drop z all) as_many ∙ ap wanted (sym (found_open s th l v' (entered b batch) (outs ++ (accepted_push s v batch).put) push_going key lt)))
        | inr ge ↦
            none_kept s l v'.tables.held v'.tables.kept key push_going.mid.keeps ge
            ∙ sym (elim (cases_Bool (gone s last key)) [
              | inl passed ↦
                  (let is : ended s (entered b batch) key ≡ true = or_right _ _ (ap (λ z. ended_at s.mode s.kind.same s.kind.parts z key) (sym last_on) ∙ gone_ended s.kind l s.mode last key passed) in
                  ap wanted is)
              | inr live ↦ none_left (ended s (entered b batch) key) s.figures.reach all (push_going.mid.covers key ge live)
            ])
      ]

  left_by : (n : ℕ) → n ≡ 0 → map (λ x. x.row) (let_go s.figures.reach n ready).kept ≡ map (λ x. x.row) ready.kept
  left_by zero e = refl
  left_by (suc n) e = absurd (omega arith)

  pub push_uncut : length (accepted_push s v batch).put ≡ 0 → kept_rows (accepted_push s v batch).view ≡ kept_rows v ++ batch
  push_uncut none = left_by count (omega (arith, none, put_long)) ∙ kept_on s v.tables batch
