-- Marking and catching up: progress and results become those of all accepted rows.
use Rattle.std.proofs.Common.{◌≡◌, ℕ, suc, ◌+◌, ◌-◌, ◌<◌, ◌≤◌, Bool, true, false, cond, eqb, List, [], ◌∷◌, ◌++◌, map, length, drop, Option, sym, refl, ap, ◌∙◌, subst, arith}
use mathlib.Core.List.{map-map}
use Rattle.std.specs.List.{AllByRecursion}
use Rattle.std.proofs.lemmas.List.{append-nil, map-append, length-append, length-map, drop-map}
use Rattle.std.proofs.ByRecursion.{All-weaker, All-map}
use Rattle.searchers.specs.declared.rows.Row.{Row}
use Rattle.searchers.specs.declared.rows.Waiting.{Waiting}
use Rattle.searchers.specs.declared.rows.Held.{Held}
use Rattle.searchers.specs.Ends.{marked}
use Rattle.tables.specs.declared.rows.Kept.{Kept}
use Rattle.tables.specs.Lists.{Lists, value_at, held_keys, place_in, mark, of_place}
use Rattle.aggregates.specs.Figures.{Theory}
use Rattle.aggregates.specs.CatchingUp.{cells_at, forwarded, written, caught_up}
use Rattle.book.specs.Calls.{Settings}
use Rattle.book.specs.Book.{rows_of, cells_of}
use Rattle.book.proofs.Basics.{kept_cong, kept_map, all_with}
use Rattle.book.proofs.Orders.{Lawful, gone_same}
use Rattle.book.proofs.Places.{Found, Apart, Placed, placed, rows_same, eqb_place, at_found, marked_place}
use Rattle.book.proofs.Mids.{tag, gone, over, Located, Counted, Waits, Midway, Named}

module _ {K R P : Type 0} (s : Settings K R P) (l : Lawful s.kind) where
  -- the kept rows at a key's place are those of the key
  pub kept_at : (held : List (Held K P)) (kept : List (Kept K)) (key : K) → AllByRecursion (λ x. Located s held x.row.key x.place) kept → Found s.kind.same key held
      → rows_of s.kind.same key (map (λ x. x.row) kept) ≡ map (λ x. x.row) (of_place (place_in s.kind.same key held) kept)
  kept_at held kept key q lt =
      let same = s.kind.same in
      kept_map (λ r. same r.key key) (λ x. x.row) kept
      ∙ ap (map (λ x. x.row)) (kept_cong (λ x. same x.row.key key) (λ x. eqb x.place (place_in same key held)) kept
      (All-weaker (λ x. Located s held x.row.key x.place) (λ x. same x.row.key key ≡ eqb x.place (place_in same key held))
      (λ x p. sym (ap (λ n. eqb n (place_in same key held)) p.place ∙ eqb_place same l.equality x.row.key key held lt)) kept q))

  -- marks and progress leave the keys and their places as they are
  module _ (kept : List (Kept K)) (g : K → Bool) where
    abbrev caught : ℕ → List (Held K P) → List (Held K P)
    caught p held = forwarded s.figures kept p (map (marked g) held)

    caught_place : (key : K) (p : ℕ) (held : List (Held K P)) → place_in s.kind.same key (caught p held) ≡ place_in s.kind.same key held
    caught_place key p [] = refl
    caught_place key p (e ∷ held) = ap (λ n. cond (s.kind.same e.key key) 0 (suc n)) (caught_place key (suc p) held)

    caught_length : (p : ℕ) (held : List (Held K P)) → length (caught p held) ≡ length held
    caught_length p [] = refl
    caught_length p (e ∷ held) = ap suc (caught_length (suc p) held)

    caught_all : (Q : K → Type 0) (p : ℕ) (held : List (Held K P)) → AllByRecursion (λ e. Q e.key) held → AllByRecursion (λ e. Q e.key) (caught p held)
    caught_all Q p [] q = tt
    caught_all Q p (e ∷ held) q = (q.0, caught_all Q (suc p) held q.1)

    caught_keys : (p : ℕ) (held : List (Held K P)) → held_keys (caught p held) ≡ held_keys held
    caught_keys p [] = refl
    caught_keys p (e ∷ held) = ap (λ z. e.key ∷ z) (caught_keys (suc p) held)

    caught_apart : (p : ℕ) (held : List (Held K P)) → Apart s.kind.same held → Apart s.kind.same (caught p held)
    caught_apart p [] q = tt
    caught_apart p (e ∷ held) q = (caught_all (λ x. s.kind.same e.key x ≡ false) (suc p) held q.0, caught_apart (suc p) held q.1)

    pub caught_named : (last0 : Option K) (now : List (Row K)) (held : List (Held K P)) → Named s last0 now held → Named s last0 now (caught 0 held)
    caught_named last0 now held n = record { alive = caught_all (λ key. gone s last0 key ≡ false) 0 held n.alive; names = caught_keys 0 held ∙ n.names }

  -- the held keys are marked by g, which tells of each what `flag` does
  module _ (th : Theory s.figures) (old : List (Row K)) (last0 : Option K) (now : List (Row K)) (last : Option K) (c : ℕ) (t : Lists K R P) (m : Midway s th old last0 now last c t)
      (alive : AllByRecursion (λ e. gone s last0 e.key ≡ false) t.held)
      (g flag : K → Bool) (flag_same : (a b : K) → s.kind.same a b ≡ true → flag a ≡ flag b)
      (agrees : AllByRecursion (λ e. g e.key ≡ flag e.key) t.held) where
    now_cells : (key : K) → cells_of s.kind.same key now ≡ cells_of s.kind.same key old ++ map (λ r. r.cells) (m.grew key).newer
    now_cells key = ap (map (λ (r : Row K). r.cells)) (m.grew key).grown ∙ map-append (λ (r : Row K). r.cells) (rows_of s.kind.same key old) (m.grew key).newer

    now_long : (key : K) → length (rows_of s.kind.same key now) ≡ length (cells_of s.kind.same key old ++ map (λ r. r.cells) (m.grew key).newer)
    now_long key = sym (length-map (rows_of s.kind.same key now) (λ r. r.cells)) ∙ ap length (now_cells key)

    -- one key that is held
    module _ (key : K) (lt : Found s.kind.same key t.held) where
      at_place : cells_at (place_in s.kind.same key t.held) t.kept ≡ drop (m.stored key lt).from (cells_of s.kind.same key old ++ map (λ r. r.cells) (m.grew key).newer)
      at_place =
          sym (map-map (λ r. r.cells) (λ (x : Kept K). x.row) (of_place (place_in s.kind.same key t.held) t.kept))
          ∙ ap (map (λ (r : Row K). r.cells)) (sym (kept_at t.held t.kept key m.keeps lt) ∙ (m.stored key lt).rows)
          ∙ sym (drop-map (λ (r : Row K). r.cells) (m.stored key lt).from (rows_of s.kind.same key now))
          ∙ ap (drop (m.stored key lt).from) (now_cells key)

      few : (m.stored key lt).from ≤ length (cells_of s.kind.same key old) - s.figures.reach
      few = omega (arith, (m.stored key lt).few, length-map (rows_of s.kind.same key old) (λ (r : Row K). r.cells))

      module _ (st : P) (n : ℕ) (e : Bool) (hs : st ≡ th.state (cells_of s.kind.same key old)) (hn : n ≡ length (rows_of s.kind.same key now)) where
        forward_is : e ≡ false → s.figures.forward st n e (cells_at (place_in s.kind.same key t.held) t.kept) ≡ th.state (cells_of s.kind.same key now)
        forward_is he =
            let xs = cells_of s.kind.same key old in
            let ys = map (λ (r : Row K). r.cells) (m.grew key).newer in
            let f = s.figures.forward in
            let cs = cells_at (place_in s.kind.same key t.held) t.kept in
            ap (λ z. f z n e cs) hs ∙ ap (λ z. f (th.state xs) z e cs) (hn ∙ now_long key) ∙ ap (λ z. f (th.state xs) (length (xs ++ ys)) z cs) he
            ∙ ap (f (th.state xs) (length (xs ++ ys)) false) at_place
            ∙ th.forwards xs ys (m.stored key lt).from few
            ∙ ap th.state (sym (now_cells key))

        write_is : (i : ℕ) (results : R) → results ≡ s.figures.so_far false (cells_of s.kind.same key old) i → i < length (rows_of s.kind.same key now)
            → (e ≡ false → s.figures.write st n e (cells_at (place_in s.kind.same key t.held) t.kept) i results ≡ s.figures.so_far false (cells_of s.kind.same key now) i)
            × (e ≡ true → s.figures.write st n e (cells_at (place_in s.kind.same key t.held) t.kept) i results ≡ s.figures.result (cells_of s.kind.same key now) i)
        write_is i results hr hi =
            let xs = cells_of s.kind.same key old in
            let ys = map (λ (r : Row K). r.cells) (m.grew key).newer in
            let f = s.figures.write in
            let so = s.figures.so_far false in
            let cs = cells_at (place_in s.kind.same key t.held) t.kept in
            let d = (m.stored key lt).from in
            let low : i < length (xs ++ ys) = omega (arith, hi, now_long key) in
            let all : f st n e cs i results ≡ f (th.state xs) (length (xs ++ ys)) e (drop d (xs ++ ys)) i (so xs i) =
            ap (λ z. f z n e cs i results) hs ∙ ap (λ z. f (th.state xs) z e cs i results) (hn ∙ now_long key)
            ∙ ap (λ z. f (th.state xs) (length (xs ++ ys)) e z i results) at_place ∙ ap (f (th.state xs) (length (xs ++ ys)) e (drop d (xs ++ ys)) i) hr in (
              λ he. all ∙ ap (λ z. f (th.state xs) (length (xs ++ ys)) z (drop d (xs ++ ys)) i (so xs i)) he ∙ th.writes xs ys d few i low ∙ ap (λ z. so z i) (sym (now_cells key)),
              λ he. all ∙ ap (λ z. f (th.state xs) (length (xs ++ ys)) z (drop d (xs ++ ys)) i (so xs i)) he ∙ th.ends xs ys d few i low ∙ ap (λ z. s.figures.result z i) (sym (now_cells key)),
            )

    -- an entry is caught up
    pub record Caught (e : Held K P) : Type 0 where
      pub rows : e.rows ≡ length (rows_of s.kind.same e.key now)
      pub ended : e.ended ≡ flag e.key
      pub progress : flag e.key ≡ false → e.progress ≡ th.state (cells_of s.kind.same e.key now)
      pub under : over s last e.key ≡ false
      pub some : 0 < e.rows

    caught_from : (held : List (Held K P)) (p : ℕ) → p + length held ≡ length t.held → Placed s.kind.same t.held p held → AllByRecursion (Counted s th old last0 now last) held
        → AllByRecursion (λ e. gone s last0 e.key ≡ false) held → AllByRecursion (λ e. g e.key ≡ flag e.key) held
        → AllByRecursion Caught (forwarded s.figures t.kept p (map (marked g) held))
    caught_from [] p h pl q lv a = tt
    caught_from (e ∷ held) p h pl q lv a =
        let lt : Found s.kind.same e.key t.held = omega (arith, h, pl.0) in (
          record {
            rows = q.0.rows;
            ended = a.0;
            progress = λ no_end. ap (λ n. s.figures.forward e.progress e.rows (g e.key) (cells_at n t.kept)) (sym pl.0)
                ∙ forward_is e.key lt e.progress e.rows (g e.key) (q.0.progress lv.0) q.0.rows (a.0 ∙ no_end);
            under = q.0.under;
            some = q.0.some;
          },
          caught_from held (suc p) (omega (arith, h)) pl.1 q.1 lv.1 a.1,
        )

    entries_caught : AllByRecursion Caught (caught_up s.figures (mark g t)).held
    entries_caught = caught_from t.held 0 (omega arith) (placed s.kind.same l.equality t.held m.apart) m.entries alive agrees

    -- each waiting row has the results that are due
    pub results_caught : (w : Waiting K R) → Waits s th old last0 now last t.held w
        → (flag w.row.key ≡ false → (written s.figures t.kept (map (marked g) t.held) w).results ≡ s.figures.so_far false (cells_of s.kind.same w.row.key now) w.rank)
        × (flag w.row.key ≡ true → (written s.figures t.kept (map (marked g) t.held) w).results ≡ s.figures.result (cells_of s.kind.same w.row.key now) w.rank)
    results_caught w q =
        let same = s.kind.same in
        let key = w.row.key in
        let Y : ℕ → Held K P → R = λ p e. s.figures.write e.progress e.rows e.ended (cells_at p t.kept) w.rank w.results in
        let held' = map (marked g) t.held in
        let e1 = marked_place same g key t.held in
        let lt' : Found same key held' = omega (arith, q.spot.found, e1, length-map t.held (marked g)) in
        let Q : Held K P → Type 0 = λ e. (e.rows ≡ length (rows_of same e.key now)) × (e.ended ≡ flag e.key) × (e.progress ≡ th.state (cells_of same e.key old)) × (gone s last0 e.key ≡ false) in
        let S : R → Type 0 = λ y. (flag key ≡ false → y ≡ s.figures.so_far false (cells_of same key now) w.rank) × (flag key ≡ true → y ≡ s.figures.result (cells_of same key now) w.rank) in
        let live : AllByRecursion (λ e. Counted s th old last0 now last e × (gone s last0 e.key ≡ false)) t.held = all_with _ _ _ (λ e a b. (a, b)) t.held m.entries alive in
        let all : AllByRecursion Q held' = All-map Q (marked g) t.held (all_with _ _ (λ e. Q (marked g e)) (λ e a b. (a.0.rows, b, a.0.progress a.1, a.1)) t.held live agrees) in
        let path : value_at (Y w.place) w.results held' w.place ≡ value_at (Y (place_in same key t.held)) w.results held' (place_in same key held') =
        ap (λ p. value_at (Y p) w.results held' p) q.spot.place ∙ ap (λ p. value_at (Y (place_in same key t.held)) w.results held' p) (sym e1) in
        subst S (sym path)
        (at_found same (Y (place_in same key t.held)) w.results Q S key
        (λ e a h.
        (let like = rows_same same l.equality e.key key h in
        let wi = write_is key q.spot.found e.progress e.rows e.ended
        (a.2 ∙ ap (λ z. th.state (map (λ r. r.cells) z)) (like old)) (a.0 ∙ ap length (like now)) w.rank w.results
        (q.results (sym (gone_same s.kind l s.mode last0 e.key key h) ∙ a.3)) q.ranks in
        let is_flag : e.ended ≡ flag key = a.1 ∙ flag_same e.key key h in
        (λ x. wi.0 (is_flag ∙ x), λ x. wi.1 (is_flag ∙ x))))
        held' all lt')

  -- a push, caught up: the marks tell which keys the last key has passed
  module _ (th : Theory s.figures) (old : List (Row K)) (last0 : Option K) (now : List (Row K)) (last : Option K) (c : ℕ) (t : Lists K R P) (m : Midway s th old last0 now last c t)
      (alive : AllByRecursion (λ e. gone s last0 e.key ≡ false) t.held)
      (g : K → Bool) (agrees : AllByRecursion (λ e. g e.key ≡ gone s last e.key) t.held) where
    push_caught : AllByRecursion (Caught th old last0 now last c t m alive g (gone s last) (gone_same s.kind l s.mode last) agrees) (caught_up s.figures (mark g t)).held
    push_caught = entries_caught th old last0 now last c t m alive g (gone s last) (gone_same s.kind l s.mode last) agrees

    push_written : (w : Waiting K R) → Waits s th old last0 now last t.held w
        → (gone s last w.row.key ≡ false → (written s.figures t.kept (map (marked g) t.held) w).results ≡ s.figures.so_far false (cells_of s.kind.same w.row.key now) w.rank)
        × (gone s last w.row.key ≡ true → (written s.figures t.kept (map (marked g) t.held) w).results ≡ s.figures.result (cells_of s.kind.same w.row.key now) w.rank)
    push_written = results_caught th old last0 now last c t m alive g (gone s last) (gone_same s.kind l s.mode last) agrees

    pub push_ends : AllByRecursion (λ e. e.ended ≡ gone s last e.key) (caught_up s.figures (mark g t)).held
    push_ends = All-weaker _ (λ e. e.ended ≡ gone s last e.key) (λ e q. q.ended) _ push_caught

    -- the rows of an ended key have their results
    pub push_results : AllByRecursion (λ w. gone s last w.row.key ≡ true → w.results ≡ s.figures.result (cells_of s.kind.same w.row.key now) w.rank) (caught_up s.figures (mark g t)).waiting
    push_results = All-map (λ w. gone s last w.row.key ≡ true → w.results ≡ s.figures.result (cells_of s.kind.same w.row.key now) w.rank) (written s.figures t.kept (map (marked g) t.held)) t.waiting
        (All-weaker (Waits s th old last0 now last t.held) _ (λ w q. (push_written w q).1) t.waiting m.waits)

    pub midway_caught : Midway s th now last now last c (caught_up s.figures (mark g t))
    midway_caught =
        let same = s.kind.same in
        let t' = caught_up s.figures (mark g t) in
        let w' = written s.figures t.kept (map (marked g) t.held) in
        let place_is = λ (key : K). caught_place t.kept g key 0 t.held in
        let long = caught_length t.kept g 0 t.held in
        let spot : (key : K) (p : ℕ) → Located s t.held key p → Located s t'.held key p =
        λ key p q. record { place = q.place ∙ sym (place_is key); found = omega (arith, q.found, place_is key, long) } in
        record {
          tags = map-map tag w' t.waiting ∙ m.tags;
          short = m.short;
          rises = m.rises;
          under = m.under;
          apart = caught_apart t.kept g 0 t.held m.apart;
          entries = All-weaker _ (Counted s th now last now last) (λ e q. record { rows = q.rows; progress = q.progress; under = q.under; some = q.some }) _ push_caught;
          waits = All-map (Waits s th now last now last t'.held) w' t.waiting
              (All-weaker (Waits s th old last0 now last t.held) (λ w. Waits s th now last now last t'.held (w' w))
              (λ w q. record { spot = spot w.row.key w.place q.spot; results = (push_written w q).0; ranks = q.ranks }) t.waiting m.waits);
          keeps = All-weaker (λ x. Located s t.held x.row.key x.place) (λ x. Located s t'.held x.row.key x.place) (λ x q. spot x.row.key x.place q) t.kept m.keeps;
          covers = λ key h. m.covers key (omega (arith, h, place_is key, long));
          stored = λ key h.
              (let st = m.stored key (omega (arith, h, place_is key, long)) in
              record { from = st.from; few = omega (arith, st.few, ap length (m.grew key).grown, length-append (rows_of same key old) (m.grew key).newer); rows = st.rows });
          grew = λ key. record { newer = []; grown = sym (append-nil _); quiet = λ h. (refl, h) };
        }
