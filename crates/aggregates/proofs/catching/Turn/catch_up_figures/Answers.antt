use Rattle.std.proofs.Common.{◌≡◌, ℕ, ◌+◌, ◌<◌, List, [], length, get_or, take, drop, set, sym, refl, ap, ◌∙◌, arith, length-set, rules}
use Rattle.std.proofs.lemmas.List.{take_all, length-drop}
use Rattle.figures.specs.declared.carry.Carry.{Carry}
use Rattle.figures.specs.Carries.{fresh}
use Rattle.figures.specs.Sets.{figures}
use Rattle.figures.specs.Cells.{Outcome}
use Rattle.tables.specs.Rows.{rows}
use Rattle.aggregates.specs.Sets.{next_carry, next_carries, next_results}
use Rattle.aggregates.specs.Writing.{all_rewritten, figure_renewed}
use Rattle.aggregates.proofs.FigureByFigure.{at_front, carries_more, carry_waits, results_more}
use Rattle.aggregates.proofs.Rewriting.{all_twice, all_unchanged}
use Rattle.aggregates.proofs.WholeSet.{set_few, turn_low}
use Rattle.aggregates.proofs.catching.Turn.catch_up_figures.Goals as goal

pub loop-j-init : goal.loop-j-init
loop-j-init g c = (refl, sym (all_unchanged c.args.self.now.place _ (λ i os. refl) (rows c.args.waiting.now)), search rules, c.iter-figure-items.ensures)

pub catch_up_figure-requires : goal.catch_up_figure-requires
catch_up_figure-requires g c = omega (arith, turn_low c.args.set.now c.loop-j.j c.in-Some.figure.now _ _ c.loop-j.invariant.3 c.in-Some.ensures.steps)

pub offset_bounds-next-j-in-loop-j : goal.offset_bounds-next-j-in-loop-j
offset_bounds-next-j-in-loop-j g c = omega (arith, turn_low c.args.set.now c.loop-j.j c.in-Some.figure.now _ _ c.loop-j.invariant.3 c.in-Some.ensures.steps)

pub bounds-next-j-in-loop-j : goal.bounds-next-j-in-loop-j
bounds-next-j-in-loop-j g c = omega (arith, turn_low c.args.set.now c.loop-j.j c.in-Some.figure.now _ _ c.loop-j.invariant.3 c.in-Some.ensures.steps)

pub overflow_step-j : goal.overflow_step-j
overflow_step-j g c = omega (arith, turn_low c.args.set.now c.loop-j.j c.in-Some.figure.now _ _ c.loop-j.invariant.3 c.in-Some.ensures.steps)

pub loop-j-preserved : goal.loop-j-preserved
loop-j-preserved g c =
    let m = g.F.Figure in
    let s = c.args.self.now in
    let old = s.entry.progress.rows in
    let n = s.entry.rows in
    let ended = s.entry.ended in
    let cells = s.cells.now in
    let fs = figures c.args.set.now in
    let ks = c.args.carries in
    let j = c.loop-j.j in
    let f = c.in-Some.figure.now in
    let turn = at_front j fs f _ (sym c.loop-j.invariant.3 ∙ c.in-Some.ensures.steps) in
    let four : length c.args.carries ≡ 4 = search rules in
    let within : c.loop-j.j < length c.args.carries = omega (arith, turn.2, four, set_few c.args.set.now) in
    let k = get_or c.loop-j.next j fresh in
    let was : get_or c.loop-j.next j fresh ≡ get_or c.args.carries j fresh = ap (λ r. get_or r j fresh) c.loop-j.invariant.0 ∙ carry_waits m old n ended cells j fs ks fresh in
    let before = next_results m old n ended cells (take j fs) ks in
    let done = next_carries m old n ended cells (take j fs) ks in
    let new : Carry → ℕ → List Outcome → List Outcome = figure_renewed m old n ended cells j f in (
      ap (λ r. set r j c.catch_up_figure.result) c.loop-j.invariant.0
          ∙ ap (set done j) (c.catch_up_figure.ensures.carry ∙ ap (next_carry m old n ended cells f) was)
          ∙ sym (carries_more m old n ended cells j fs ks f fresh turn.0),
      c.catch_up_figure.ensures.waiting
          ∙ ap (all_rewritten s.place (new k)) c.loop-j.invariant.1
          ∙ all_twice s.place (new k) before (next_results m old n ended cells (take (j + 1) fs) ks)
          (λ i os. ap (λ q. new q i (before i os)) was ∙ results_more m old n ended cells j fs ks i os f fresh turn.0 within)
          (rows c.args.waiting.now),
      simp length-set c.loop-j.invariant.2,
      sym turn.1,
    )

pub returns : goal.returns
returns g c =
    let m = g.F.Figure in
    let s = c.args.self.now in
    let fs = figures c.args.set.now in
    let done : drop c.loop-j.j (figures c.args.set.now) ≡ [] = sym c.loop-j.invariant.3 ∙ c.in-None.ensures.steps.0 in
    let all : take c.loop-j.j (figures c.args.set.now) ≡ figures c.args.set.now = take_all c.loop-j.j fs (omega (arith, length-drop c.loop-j.j fs, ap length done)) in
    record {
      carries = c.loop-j.invariant.0 ∙ ap (λ r. next_carries m s.entry.progress.rows s.entry.rows s.entry.ended s.cells.now r c.args.carries) all;
      waiting = c.loop-j.invariant.1 ∙ ap (λ r. all_rewritten s.place (next_results m s.entry.progress.rows s.entry.rows s.entry.ended s.cells.now r c.args.carries) (rows c.args.waiting.now)) all;
    }
