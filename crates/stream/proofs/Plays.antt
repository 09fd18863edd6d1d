-- From runs to the lists that they hold: every run that is reached holds what is reached on lists.
use Rattle.std.proofs.Common.{◌≡◌, ℕ, List, [], ◌++◌, length, drop, Some, None, Ok, Err, Option, Result, sym, refl, ap, ◌∙◌, subst, arith}
use Rattle.std.proofs.lemmas.List.{take_at}
use Rattle.figures.specs.declared.figure.Figure as figure
use Rattle.figures.specs.Cells.{Outcome}
use Rattle.searchers.specs.declared.search.PartitionSearcher as searcher
use Rattle.searchers.specs.declared.rows.Row.{Row}
use Rattle.faults.specs.declared.run.RunFault.{RunFault}
use Rattle.faults.specs.declared.told.Told.{Told}
use Rattle.faults.specs.Numbers.{run_told, answered}
use Rattle.tables.specs.declared.rows.OutRow.{OutRow}
use Rattle.aggregates.specs.declared.progress.Progress.{Progress}
use Rattle.book.specs.Calls.{Kind, View, After, push_refusal, finish_refusal, view_facts, accepted_push, accepted_finish, unless, pushed, finished_by}
use Rattle.book.specs.Book.{Book, entered, closed}
use Rattle.book.specs.Law.{Latest, kept_rows}
use Rattle.book.specs.Reached as on-lists
use Rattle.stream.specs.declared.run.BoundedWindowAggStream.{BoundedWindowAggStream}
use Rattle.stream.specs.Views.{view, answer, settings, settings_of, Leaves}
use Rattle.stream.specs.Reached.{booked, taken, latest_call, Reached, made, push, finish}

-- no call is both accepted and refused
never : (B : Type 0) (n : ℕ) (told : Told) → ◌≡◌ {A = Result ℕ Told} (Ok n) (Err told) → B
never B n told e = let z : ◌≡◌ {A = ℕ} 0 1 = cc in absurd (omega arith)

-- What follows a call, by its answer and by its cause on lists.
module _ {K R : Type 0} (before : List (OutRow K R)) (out : List (OutRow K R)) (batch kept : List (Row K)) (b b' : Book K) where
  abbrev AfterCall : Result ℕ RunFault → Option Told → List (OutRow K R) → Type 0
  AfterCall told fault put =
      (booked told b b' ≡ on-lists.noted fault b b')
      × (before ++ taken told (put ++ drop (length put) out) ≡ before ++ put)
      × (latest_call told kept batch ≡ record { put = length put; before = kept; came = on-lists.brought fault batch })

  after_call : (told : Result ℕ RunFault) (fault : Option Told) (put : List (OutRow K R)) → ((cause : Told) → fault ≡ Some cause → put ≡ [])
      → answered run_told told ≡ answer fault put → AfterCall told fault put
  after_call (Ok n) None put none e =
      let count : n ≡ length put = cc in
      (refl, ap (λ z. before ++ z) (take_at put (drop (length put) out) n (sym count)), ap (λ (m : ℕ). record { put = m; before = kept; came = batch }) count)
  after_call (Ok n) (Some cause) put none e = never _ n cause e
  after_call (Err fault) None put none e = never _ (length put) (run_told fault) (sym e)
  after_call (Err fault) (Some cause) put none e =
      let empty : put ≡ [] = none cause refl in
      (refl, ap (λ z. before ++ z) (sym empty), ap (λ (m : ℕ). record { put = m; before = kept; came = [] }) (sym (ap length empty)))

-- a refused call puts nothing out
refused_puts_none : {K R P : Type 0} (fault : Option Told) (v : View K R P) (accepted : After K R P) → accepted.fault ≡ None
    → (cause : Told) → (unless fault v accepted).fault ≡ Some cause → (unless fault v accepted).put ≡ []
refused_puts_none None v accepted is cause e = let z : ◌≡◌ {A = ℕ} 0 1 = cc in absurd (omega arith)
refused_puts_none (Some told) v accepted is cause e = refl

-- a finish brings no row
brings_none : {K : Type 0} (fault : Option Told) → on-lists.brought {K = K} fault [] ≡ []
brings_none None = refl
brings_none (Some told) = refl

module _ {K S F : Type 0} (k : Kind K) (s : searcher.Ghosts S K) (f : figure.Ghosts F) where
  settings_stay : (r r' : BoundedWindowAggStream K S F) → r'.settings.searcher ≡ r.settings.searcher → r'.settings.set ≡ r.settings.set → settings_of k s f r' ≡ settings_of k s f r
  settings_stay r r' by set = ap (λ z. settings k s f z r'.settings.set) by ∙ ap (settings k s f r.settings.searcher) set

  -- one call on
  one_call : (r r' : BoundedWindowAggStream K S F) (b b' : Book K) (outs out out' : List (OutRow K (List Outcome))) (batch : List (Row K)) (told : Result ℕ RunFault) (a : After K (List Outcome) Progress)
      → ((cause : Told) → a.fault ≡ Some cause → a.put ≡ []) → Leaves k s f r out told r' out' a
      → on-lists.Reached (settings_of k s f r) a.view (on-lists.noted a.fault b b') (outs ++ a.put)
      (record { put = length a.put; before = kept_rows (view r); came = on-lists.brought a.fault batch })
      → on-lists.Reached (settings_of k s f r') (view r') (booked told b b') (outs ++ taken told out') (latest_call told (kept_rows (view r)) batch)
  one_call r r' b b' outs out out' batch told a none q h =
      let next = after_call outs out batch (kept_rows (view r)) b b' told a.fault a.put none q.answers in
      let set = settings_of k s f r in
      subst (λ z. on-lists.Reached z (view r') (booked told b b') (outs ++ taken told out') (latest_call told (kept_rows (view r)) batch)) (sym (settings_stay r r' q.searcher_stays q.set_stays))
      (subst (λ z. on-lists.Reached set z (booked told b b') (outs ++ taken told out') (latest_call told (kept_rows (view r)) batch)) (sym q.holds)
      (subst (λ z. on-lists.Reached set a.view z (outs ++ taken told out') (latest_call told (kept_rows (view r)) batch)) (sym next.0)
      (subst (λ z. on-lists.Reached set a.view (on-lists.noted a.fault b b') z (latest_call told (kept_rows (view r)) batch)) (sym (ap (λ z. outs ++ taken told z) q.writes ∙ next.1))
      (subst (λ z. on-lists.Reached set a.view (on-lists.noted a.fault b b') (outs ++ a.put) z) (sym next.2) h))))

  pub views_reached : (r : BoundedWindowAggStream K S F) (b : Book K) (outs : List (OutRow K (List Outcome))) (latest : Latest K)
      → Reached k s f r b outs latest → on-lists.Reached (settings_of k s f r) (view r) b outs latest
  views_reached r b outs latest (made by set _ m) = subst (λ v. on-lists.Reached (settings_of k s f r) v b outs latest) (sym m.holds) on-lists.made
  views_reached r b outs latest (push r0 _ b0 outs0 latest0 batch out out' told h q) =
      let set = settings_of k s f r0 in
      one_call r0 r b0 (entered b0 batch) outs0 out out' batch told (pushed set (view r0) batch (length out))
      (refused_puts_none (push_refusal set (view_facts (view r0)) batch (length out)) (view r0) (accepted_push set (view r0) batch) refl)
      q.leaves (on-lists.push (view r0) b0 outs0 latest0 batch (length out) (views_reached r0 b0 outs0 latest0 h))
  views_reached r b outs latest (finish r0 _ b0 outs0 latest0 out out' told h q) =
      let set = settings_of k s f r0 in
      one_call r0 r b0 (closed b0) outs0 out out' [] told (finished_by set (view r0) (length out))
      (refused_puts_none (finish_refusal set (view_facts (view r0)) (length out)) (view r0) (accepted_finish set (view r0)) refl)
      q (subst (λ (z : List (Row K)). on-lists.Reached set (finished_by set (view r0) (length out)).view (on-lists.noted (finished_by set (view r0) (length out)).fault b0 (closed b0)) (outs0 ++ (finished_by set (view r0) (length out)).put)
      (record { put = length (finished_by set (view r0) (length out)).put; before = kept_rows (view r0); came = z }))
      (sym (brings_none (finished_by set (view r0) (length out)).fault)) (on-lists.finish (view r0) b0 outs0 latest0 (length out) (views_reached r0 b0 outs0 latest0 h)))
