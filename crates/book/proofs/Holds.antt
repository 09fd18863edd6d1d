-- The law over any list of calls: an accepted finish, refusals, and the induction.
use Rattle.std.proofs.Common.{◌≡◌, ℕ, Bool, true, false, ltb, ◌⊎◌, List, [], ◌∷◌, ◌++◌, map, length, take, drop, Some, None, Option, sym, refl, ap, ◌∙◌, subst, inl, inr, arith}
use mathlib.Core.List.{map-map}
use Rattle.std.specs.List.{AllByRecursion}
use Rattle.std.proofs.lemmas.Bool.{both_ways, or_right, true≢false}
use Rattle.std.proofs.lemmas.List.{append-nil, map-append, length-map, take-append-drop, take_all, drop_all}
use Rattle.std.proofs.ByRecursion.{All-weaker}
use Rattle.faults.specs.declared.told.Told.{Told}
use Rattle.std.specs.Bool.{then_some}
use Rattle.faults.specs.Numbers.{of_run}
use Rattle.faults.proofs.Causes.{no_cause, when_none}
use Rattle.searchers.specs.declared.rows.Row.{Row}
use Rattle.searchers.specs.Order.{keys_of, first_fall}
use Rattle.searchers.specs.Ends.{marked}
use Rattle.searchers.specs.Leaving.{LongestFront}
use Rattle.tables.specs.declared.rows.OutRow.{OutRow}
use Rattle.tables.specs.Lists.{out_row, distinct}
use Rattle.aggregates.specs.Figures.{Theory}
use Rattle.aggregates.specs.CatchingUp.{written}
use Rattle.book.specs.Calls.{Settings, View, fresh, out_of_order, view_facts, push_causes, push_refusal, finish_refusal, unless, accepted_push, accepted_finish}
use Rattle.book.specs.Book.{Book, unwritten, entered, closed, in_turn, settled_row, front, afresh, as_due, open_keys, book_facts}
use Rattle.book.specs.Law.{Latest, kept_rows, Law}
use Rattle.book.specs.Reached.{noted, brought, Reached, made, push, finish}
use Rattle.book.proofs.Basics.{all_always, kept_none, map_cong, leading_whole, leading_longest}
use Rattle.book.proofs.Orders.{Lawful, low}
use Rattle.book.proofs.Mids.{tag, Waits, ranked_length}
use Rattle.book.proofs.Ready.{results_caught}
use Rattle.book.proofs.Stands.{same_facts, Called, Going, waits_long, going_lawful}
use Rattle.book.proofs.Pushes.{push_going, push_cut, push_uncut}

-- a call that is not refused

in_order : (row : Option ℕ) → out_of_order row ≡ None → row ≡ None
in_order None e = refl
in_order (Some row) e = let z : ◌≡◌ {A = ℕ} 0 1 = cc in absurd (omega arith)

module _ {K R P : Type 0} (s : Settings K R P) (th : Theory s.figures) (l : Lawful s.kind) where
  -- a finished run
  pub record Shut (v : View K R P) (b : Book K) (outs : List (OutRow K R)) : Type 0 where
    pub lawful : (latest : Latest K) → Law s v b outs latest
    pub closed : v.finished ≡ true

  abbrev Run : View K R P → Book K → List (OutRow K R) → Latest K → Type 0
  Run v b outs latest = (Going s th l v b outs × Called s v b latest) ⊎ Shut v b outs

  -- an accepted finish
  module _ (v : View K R P) (b : Book K) (outs : List (OutRow K R)) (g : Going s th l v b outs) where
    put_is : (accepted_finish s v).put ≡ map (afresh s b) (drop v.out (in_turn s b))
    put_is =
        let t = v.tables in
        let always : K → Bool = λ _. true in
        let w' = written s.figures t.kept (map (marked always) t.held) in
        let each : AllByRecursion (λ w. out_row (w' w) ≡ afresh s b (tag w)) t.waiting =
        All-weaker (Waits s th b.rows v.last b.rows v.last t.held) _
        (λ w q. ap (λ (z : R). record { row = w.row; results = z })
        ((results_caught s l th b.rows v.last b.rows v.last v.out t g.mid g.named.alive always always (λ _ _ _. refl) (all_always _ (λ _. refl) t.held) w q).1 refl))
        t.waiting g.mid.waits in
        map-map out_row w' t.waiting ∙ map_cong (λ w. out_row (w' w)) (λ w. afresh s b (tag w)) t.waiting each
        ∙ sym (map-map (afresh s b) tag t.waiting) ∙ ap (map (afresh s b)) g.mid.tags

    outs_all : outs ++ (accepted_finish s v).put ≡ map (afresh s b) (in_turn s b)
    outs_all =
        let f = afresh s b in
        let turn = in_turn s b in
        ap (λ z. z ++ (accepted_finish s v).put) g.first ∙ ap (λ z. map f (take v.out turn) ++ z) put_is
        ∙ sym (map-append f (take v.out turn) (drop v.out turn)) ∙ ap (map f) (take-append-drop v.out turn)

    finish_lawful : (latest : Latest K) → Law s (accepted_finish s v).view (closed b) (outs ++ (accepted_finish s v).put) latest
    finish_lawful latest =
        let b' = closed b in
        let v' = (accepted_finish s v).view in
        let turn = in_turn s b in
        let turn_long : length turn ≡ length b.rows = ranked_length s.kind.same [] b.rows in
        let outs_long : length (outs ++ (accepted_finish s v).put) ≡ length turn = ap length outs_all ∙ length-map turn (afresh s b) in
        let whole : front s b' ≡ length turn = leading_whole (settled_row s b') turn (all_always _ (λ u. or_right _ _ refl) turn) in
        let waits = waits_long s th l v b outs g in
        let none_open : [] ≡ open_keys s b' = sym (kept_none (λ key. false) _ (all_always (λ key. ◌≡◌ {A = Bool} false false) (λ _. refl) (distinct s.kind.same [] b.rows))) in
        let facts : view_facts v' ≡ book_facts s b' 0 = same_facts s v' b' refl g.last g.accepted (omega (arith, whole, turn_long)) none_open in
        record {
          longest = subst (LongestFront (λ t. settled_row s b' t ≡ true) turn) (whole ∙ sym outs_long) (leading_longest (settled_row s b') turn);
          out_afresh = outs_all ∙ ap (map (afresh s b)) (sym (take_all _ turn (omega (arith, outs_long))));
          waiting_rest = ap (map (as_due s b')) (sym (drop_all _ turn (omega (arith, outs_long))));
          accepted = g.accepted;
          counted = omega (arith, waits, g.mid.short, outs_long, turn_long);
          nothing_lost = omega (arith, g.accepted, waits, g.mid.short);
          finished = refl;
          emptied = λ _. refl;
          last_is = g.last;
          keys_held = none_open;
          keys_counted = ap (map _) none_open;
          cut = λ _ key. refl;
          uncut = λ _ h. absurd (true≢false h);
          push_refused = λ batch places. ap (λ z. push_refusal s z batch places) facts;
          finish_refused = λ places. ap (λ z. finish_refusal s z places) facts;
        }

  -- a refused call leaves all as it was
  refused : (v : View K R P) (b : Book K) (outs : List (OutRow K R)) (latest : Latest K) → Run v b outs latest → Run v b (outs ++ []) (record { put = 0; before = kept_rows v; came = [] })
  refused v b outs latest run =
      subst (λ z. Run v b z (record { put = 0; before = kept_rows v; came = [] })) (sym (append-nil outs))
      (elim run [
        | inl g ↦ inl (g.0, record { cut = λ h. absurd (omega arith); uncut = λ _. sym (append-nil (kept_rows v)) })
        | inr shut ↦ inr shut
      ])

  push_by : (cause : Option Told) (v : View K R P) (b : Book K) (outs : List (OutRow K R)) (latest : Latest K) (batch : List (Row K))
      → (cause ≡ None → (v.finished ≡ false) × (first_fall (low s.kind s.mode) v.last 0 (keys_of batch) ≡ None)) → Run v b outs latest
      → Run (unless cause v (accepted_push s v batch)).view (noted (unless cause v (accepted_push s v batch)).fault b (entered b batch)) (outs ++ (unless cause v (accepted_push s v batch)).put)
      (record { put = length (unless cause v (accepted_push s v batch)).put; before = kept_rows v; came = brought (unless cause v (accepted_push s v batch)).fault batch })
  push_by (Some told) v b outs latest batch passes run = refused v b outs latest run
  push_by None v b outs latest batch passes (inl g) =
      inl (push_going s th l v b outs g.0 batch (passes refl).1, record { cut = push_cut s th l v b outs g.0 batch (passes refl).1; uncut = push_uncut s th l v b outs g.0 batch (passes refl).1 })
  push_by None v b outs latest batch passes (inr shut) = absurd (both_ways _ (passes refl).0 shut.closed)

  finish_by : (cause : Option Told) (v : View K R P) (b : Book K) (outs : List (OutRow K R)) (latest : Latest K) → (cause ≡ None → v.finished ≡ false) → Run v b outs latest
      → Run (unless cause v (accepted_finish s v)).view (noted (unless cause v (accepted_finish s v)).fault b (closed b)) (outs ++ (unless cause v (accepted_finish s v)).put)
      (record { put = length (unless cause v (accepted_finish s v)).put; before = kept_rows v; came = [] })
  finish_by (Some told) v b outs latest passes run = refused v b outs latest run
  finish_by None v b outs latest passes (inl g) = inr (record { lawful = finish_lawful v b outs g.0; closed = refl })
  finish_by None v b outs latest passes (inr shut) = absurd (both_ways _ (passes refl) shut.closed)

  start : Going s th l fresh unwritten []
  start = record {
    mid = record {
      tags = refl;
      short = omega arith;
      rises = tt;
      under = tt;
      apart = tt;
      entries = tt;
      waits = tt;
      keeps = tt;
      covers = λ key h g. refl;
      stored = λ key h. absurd (omega arith);
      grew = λ key. record { newer = []; grown = refl; quiet = λ h. (refl, h) };
    };
    last = refl;
    fronts = refl;
    first = refl;
    accepted = refl;
    named = record { alive = tt; names = refl };
    view_open = refl;
    book_open = refl;
  }

  runs : (v : View K R P) (b : Book K) (outs : List (OutRow K R)) (latest : Latest K) → Reached s v b outs latest → Run v b outs latest
  runs v b outs latest made = inl (start, record { cut = λ h. absurd (omega arith); uncut = λ _. refl })
  runs v b outs latest (push v0 b0 outs0 latest0 batch places before) =
      push_by (push_refusal s (view_facts v0) batch places) v0 b0 outs0 latest0 batch
      (λ e. (let none = no_cause (push_causes s (view_facts v0) batch places) e in (when_none _ _ none.0, in_order _ none.1.1.0)))
      (runs v0 b0 outs0 latest0 before)
  runs v b outs latest (finish v0 b0 outs0 latest0 places before) =
      finish_by (finish_refusal s (view_facts v0) places) v0 b0 outs0 latest0
      (λ e. when_none _ _ (no_cause (then_some v0.finished (of_run 7 0) ∷ then_some (ltb places (length v0.tables.waiting)) (of_run 14 0) ∷ []) e).0)
      (runs v0 b0 outs0 latest0 before)

  pub lawful : (v : View K R P) (b : Book K) (outs : List (OutRow K R)) (latest : Latest K) → Reached s v b outs latest → Law s v b outs latest
  lawful v b outs latest reached = elim (runs v b outs latest reached) [ inl g ↦ going_lawful s th l v b outs g.0 latest g.1 | inr shut ↦ shut.lawful latest ]
