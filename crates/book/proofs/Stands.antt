-- A run that is not finished, against its book: what is carried from call to call, and that the law follows from it.
use Rattle.std.proofs.Common.{◌≡◌, ◌-◌, ◌<◌, min, Bool, true, false, cond, not, ltb, List, [], ◌∷◌, ◌++◌, map, length, take, drop, None, sym, ap, ◌∙◌, subst, arith}
use mathlib.Core.List.{map-map}
use Rattle.std.specs.List.{prefix_len, AllByRecursion}
use Rattle.std.proofs.lemmas.Bool.{both_ways}
use Rattle.std.proofs.lemmas.List.{length-map, length-take-le}
use Rattle.std.proofs.ByRecursion.{All-weaker, All-map, All-push}
use Rattle.figures.specs.Catching.{last as last_of}
use Rattle.searchers.specs.declared.rows.Row.{Row}
use Rattle.searchers.specs.Groups.{place, noticed}
use Rattle.searchers.specs.Leaving.{LongestFront}
use Rattle.tables.specs.declared.rows.OutRow.{OutRow}
use Rattle.tables.specs.Lists.{distinct}
use Rattle.aggregates.specs.Figures.{Theory}
use Rattle.book.specs.Calls.{Settings, View, last_key, view_facts, push_refusal, finish_refusal}
use Rattle.book.specs.Book.{Book, rows_of, cells_of, in_turn, ended, settled_row, front, afresh, as_due, open_keys, book_facts}
use Rattle.book.specs.Law.{Latest, standing, kept_rows, Law}
use Rattle.book.proofs.Basics.{kept_cong, map_cong, leading_cong, leading_longest}
use Rattle.book.proofs.Orders.{Lawful, above_same}
use Rattle.book.proofs.Places.{Found, at_found}
use Rattle.book.proofs.Mids.{tag, gone, over, Counted, Waits, Midway, Named, found_live, waiting_long, ranked_length, ranked_rows}
use Rattle.book.proofs.Settles.{ripe, book_ended, book_ripe}

module _ {K : Type 0} (same : K → K → Bool) (Q : K → Type 0) where
  noticed_all : (key : K) (keys : List K) → AllByRecursion Q keys → Q key → AllByRecursion Q (noticed same key keys)
  noticed_all key keys a h = elim (ltb (place same key keys) (length keys)) as (λ b. AllByRecursion Q (cond b keys (keys ++ key ∷ []))) [ true ↦ a | false ↦ All-push Q keys key a h ]

  distinct_all : (seen : List K) (rows : List (Row K)) → AllByRecursion Q seen → AllByRecursion (λ r. Q r.key) rows → AllByRecursion Q (distinct same seen rows)
  distinct_all seen [] a h = a
  distinct_all seen (r ∷ rows) a h = distinct_all (noticed same r.key seen) rows (noticed_all r.key seen a h.0) h.1

-- the same facts, told of the view and of the book
pub same_facts : {K R P : Type 0} (s : Settings K R P) (v : View K R P) (b : Book K)
    → v.finished ≡ b.finished → v.last ≡ last_key None b.rows → v.accepted ≡ length b.rows → length v.tables.waiting ≡ length b.rows - front s b → map (λ e. e.key) v.tables.held ≡ open_keys s b
    → view_facts v ≡ book_facts s b (length (kept_rows v))
same_facts s v b finished last accepted waiting held = let kept = length-map v.tables.kept (λ k. k.row) in cc

module _ {K R P : Type 0} (s : Settings K R P) where
  -- of each key that has not ended exactly the last rows are kept, and of an ended one none
  abbrev pub Cut : View K R P → Book K → Type 0
  Cut v b = (key : K)
      → rows_of s.kind.same key (kept_rows v)
      ≡ cond (ended s b key) [] (last_of (min (length (rows_of s.kind.same key b.rows)) s.figures.reach) (rows_of s.kind.same key b.rows))

  -- what the latest call did to the rows kept
  pub record Called (v : View K R P) (b : Book K) (latest : Latest K) : Type 0 where
    pub cut : 0 < latest.put → Cut v b
    pub uncut : latest.put ≡ 0 → kept_rows v ≡ latest.before ++ latest.came

module _ {K R P : Type 0} (s : Settings K R P) (l : Lawful s.kind) where
  -- the front of the book, where a key has ended once the last key has passed it
  pub front_ripe : (b : Book K) (v : View K R P) → b.finished ≡ false → v.last ≡ last_key None b.rows → AllByRecursion (λ u. over s v.last u.row.key ≡ false) (in_turn s b)
      → front s b ≡ prefix_len (ripe s b.rows v.last) (in_turn s b)
  front_ripe b v unfinished is under = leading_cong _ _ _ (All-weaker _ (λ u. settled_row s b u ≡ ripe s b.rows v.last u) (book_ripe s l b v.last unfinished is) _ under)

module _ {K R P : Type 0} (s : Settings K R P) (th : Theory s.figures) (l : Lawful s.kind) where
  -- a run that is not finished, its book and the rows out
  pub record Going (v : View K R P) (b : Book K) (outs : List (OutRow K R)) : Type 0 where
    pub mid : Midway s th b.rows v.last b.rows v.last v.out v.tables
    pub last : v.last ≡ last_key None b.rows
    pub fronts : v.out ≡ front s b
    pub first : outs ≡ map (afresh s b) (take v.out (in_turn s b))
    pub accepted : v.accepted ≡ length b.rows
    -- no key that is held has ended
    pub named : Named s v.last b.rows v.tables.held
    pub view_open : v.finished ≡ false
    pub book_open : b.finished ≡ false

  module _ (v : View K R P) (b : Book K) (outs : List (OutRow K R)) (g : Going v b outs) where
    turn_long : length (in_turn s b) ≡ length b.rows
    turn_long = ranked_length s.kind.same [] b.rows

    pub waits_long : length v.tables.waiting ≡ length b.rows - v.out
    waits_long = waiting_long s th b.rows v.last b.rows v.last v.out v.tables g.mid

    outs_long : v.out ≡ length outs
    outs_long = sym (ap length g.first ∙ length-map (take v.out (in_turn s b)) (afresh s b) ∙ length-take-le v.out (in_turn s b) (omega (arith, g.mid.short, turn_long)))

    -- a key that is held has not ended
    pub found_open : (key : K) → Found s.kind.same key v.tables.held → ended s b key ≡ false
    found_open key lt =
        let under : over s v.last key ≡ false =
        at_found s.kind.same (λ e. e.rows) 0 (Counted s th b.rows v.last b.rows v.last) (λ _. over s v.last key ≡ false) key
        (λ e q h. above_same s.kind l s.mode v.last e.key key h q.under) v.tables.held g.mid.entries lt in
        book_ended s l b v.last g.book_open g.last key under ∙ found_live s l v.last v.tables.held g.named.alive key lt

    each_due : AllByRecursion (λ w. standing w ≡ as_due s b (tag w)) v.tables.waiting
    each_due =
        All-weaker (Waits s th b.rows v.last b.rows v.last v.tables.held) _
        (λ w q.
        (let key = w.row.key in
        let cells = cells_of s.kind.same key b.rows in
        ap (λ (z : R). record { row = w.row; rank = w.rank; results = z }) (q.results (found_live s l v.last v.tables.held g.named.alive key q.spot.found) ∙ ap (λ e. s.figures.so_far e cells w.rank) (sym (found_open key q.spot.found)))))
        v.tables.waiting g.mid.waits

    keys_open : map (λ e. e.key) v.tables.held ≡ open_keys s b
    keys_open =
        let under : AllByRecursion (λ r. over s v.last r.key ≡ false) b.rows =
        subst (AllByRecursion (λ r. over s v.last r.key ≡ false)) (ranked_rows s.kind.same [] b.rows) (All-map (λ r. over s v.last r.key ≡ false) (λ u. u.row) (in_turn s b) g.mid.under) in
        g.named.names
        ∙ kept_cong (λ key. not (gone s v.last key)) (λ key. not (ended s b key)) (distinct s.kind.same [] b.rows)
        (All-weaker (λ key. over s v.last key ≡ false) _ (λ key h. ap not (sym (book_ended s l b v.last g.book_open g.last key h)))
        (distinct s.kind.same [] b.rows) (distinct_all s.kind.same (λ key. over s v.last key ≡ false) [] b.rows tt under))

    facts : view_facts v ≡ book_facts s b (length (kept_rows v))
    facts = same_facts s v b (g.view_open ∙ sym g.book_open) g.last g.accepted (waits_long ∙ ap (λ z. length b.rows - z) g.fronts) keys_open

    pub going_lawful : (latest : Latest K) → Called s v b latest → Law s v b outs latest
    going_lawful latest called = record {
      longest = subst (LongestFront (λ t. settled_row s b t ≡ true) (in_turn s b)) (sym g.fronts ∙ outs_long) (leading_longest (settled_row s b) (in_turn s b));
      out_afresh = g.first ∙ ap (λ c. map (afresh s b) (take c (in_turn s b))) outs_long;
      waiting_rest =
          map_cong standing (λ w. as_due s b (tag w)) v.tables.waiting each_due
          ∙ sym (map-map (as_due s b) tag v.tables.waiting) ∙ ap (map (as_due s b)) (g.mid.tags ∙ ap (λ c. drop c (in_turn s b)) outs_long);
      accepted = g.accepted;
      counted = outs_long;
      nothing_lost = omega (arith, g.accepted, waits_long, g.mid.short);
      finished = g.view_open ∙ sym g.book_open;
      emptied = λ h. absurd (both_ways _ g.book_open h);
      last_is = g.last;
      keys_held = keys_open;
      keys_counted =
          map_cong (λ e. e.rows) (λ e. length (rows_of s.kind.same e.key b.rows)) v.tables.held (All-weaker _ _ (λ e q. q.rows) _ g.mid.entries)
          ∙ sym (map-map (λ key. length (rows_of s.kind.same key b.rows)) (λ e. e.key) v.tables.held) ∙ ap (map (λ key. length (rows_of s.kind.same key b.rows))) keys_open;
      cut = called.cut;
      uncut = λ h _. called.uncut h;
      push_refused = λ batch places. ap (λ z. push_refusal s z batch places) facts;
      finish_refused = λ places. ap (λ z. finish_refusal s z places) facts;
    }
