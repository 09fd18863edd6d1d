use Rattle.std.proofs.Common.{◌≡◌, ◌<◌, false, not, eqb, length, set, sym, ap, ◌∙◌, arith, rules, None}
use Rattle.std.proofs.lemmas.Bool.{eqb-true, and_parts, not-true}
use Rattle.figures.specs.Sets.{figures}
use Rattle.tables.specs.Rows.{rows}
use Rattle.tables.specs.Whole.{lists}
use Rattle.aggregates.specs.CatchingUp.{cells_at}
use Rattle.aggregates.specs.Sets.{set_figures}
use Rattle.aggregates.specs.Writing.{all_rewritten}
use Rattle.aggregates.proofs.Idle.{carries_idle, results_idle}
use Rattle.aggregates.proofs.KeyByKey.{caught_up_none, caught_up_more, caught_up_idle, caught_up_all, as_many_held}
use Rattle.tables.proofs.Lent.{get_read, get_none}
use Rattle.aggregates.proofs.compute.compute_aggregates.Goals as goal
use Rattle.aggregates.proofs.compute.compute_aggregates.Goals.{in-Some+then-not-is_caught_up, in_default, in_default-via-in-None-1, in_default-via-in-Some+else-not-is_caught_up}

pub loop-place-init : goal.loop-place-init
loop-place-init g c = caught_up_none (set_figures g.F.Figure c.args.set.now) (lists c.args.tables.now)

pub loop-place-preserved : goal.loop-place-preserved
loop-place-preserved g c =
    let set' = c.args.set.now in
    let f = set_figures g.F.Figure c.args.set.now in
    let t = lists c.args.tables.now in
    let so_far = lists c.loop-place.tables in
    let after = lists c.match-copied.tables in
    let p = c.loop-place.place in
    let held = rows c.loop-place.tables.held in
    let stood = sym (c.copied.ensures ∙ c.get.ensures) in
    let h : c.loop-place.place < length (rows c.args.tables.now.held) = omega (arith, c.len-place-end.ensures.count, c.loop-place-test.true) in
    elim c.match-copied.branch [
      | in-Some+then-not-is_caught_up w ↦
          let e = w.in-Some.entry in
          let reads = (get_read held p e (stood ∙ w.in-Some.is)).1 in
          let cells = w.as_slice.ensures.value ∙ w.gather.ensures in
          let progress = w.catch_up_key-progress.ensures.progress ∙ ap (f.forward e.progress e.rows e.ended) cells in
          caught_up_more f t p e so_far after h c.loop-place.invariant reads
          (ap (λ x. rows x.held) w.tables-is ∙ w.put.ensures ∙ ap (λ q. set (rows c.loop-place.tables.held) p (record { key = e.key; rows = e.rows; ended = e.ended; progress = q })) progress)
          (ap (λ x. rows x.waiting) w.tables-is ∙ w.catch_up_key-progress.ensures.waiting ∙ ap (λ r. all_rewritten p (f.write e.progress e.rows e.ended r) (rows c.loop-place.tables.waiting)) cells)
          (ap (λ x. rows x.kept) w.tables-is)
      | in_default w ↦
          elim w.in_default.branch [
            | in_default-via-in-None-1 w' ↦
                let as_many = as_many_held f t p so_far c.loop-place.invariant in
                let none : c.copied.result ≡ None = search rules in
                absurd (omega (arith, h, as_many, get_none held p (stood ∙ none)))
            | in_default-via-in-Some+else-not-is_caught_up w' ↦
                let e = w'.in-Some.entry in
                let reads = (get_read held p e (stood ∙ w'.in-Some.is)).1 in
                let parts = and_parts (eqb e.progress.rows e.rows) (not e.ended) (sym w'.is_caught_up.ensures ∙ w'.if-not-is_caught_up.false) in
                let same : e.progress.rows ≡ e.rows = eqb-true e.progress.rows e.rows parts.0 in
                let lasts : e.ended ≡ false = not-true e.ended parts.1 in
                let cells = cells_at p (rows c.loop-place.tables.kept) in
                caught_up_idle f t p e so_far after h c.loop-place.invariant reads (ap lists w.tables-is)
                (ap (λ ks. record { rows = e.rows; carries = ks }) (carries_idle g.F.Figure e.progress.rows e.rows e.ended cells same lasts (figures set') e.progress.carries)
                ∙ ap (λ n. record { rows = n; carries = e.progress.carries }) (sym same))
                (λ i r. results_idle g.F.Figure e.progress.rows e.rows e.ended cells same lasts (figures set') e.progress.carries i r)
          ]
    ]

pub returns : goal.returns
returns g c = c.loop-place.invariant ∙ caught_up_all (set_figures g.F.Figure c.args.set.now) (lists c.args.tables.now) c.loop-place.place (omega (arith, c.len-place-end.ensures.count, c.loop-place-test.false))
