use Rattle.std.proofs.Common.{◌≡◌, ◌≤◌, [], length, take, drop, set, sym, ap, ◌∙◌, arith, length-set}
use Rattle.std.proofs.lemmas.List.{take_all, length-drop}
use Rattle.figures.specs.Carries.{fresh}
use Rattle.figures.specs.Sets.{figures}
use Rattle.aggregates.specs.Sets.{four}
use Rattle.aggregates.proofs.FigureByFigure.{at_front}
use Rattle.aggregates.proofs.WholeSet.{set_few, four_more}
use Rattle.aggregates.proofs.progress.start_of.Goals as goal

pub loop-j-preserved : goal.loop-j-preserved
loop-j-preserved g c =
    let fs = figures c.args.set.now in
    let j = c.loop-j.j in
    let h = at_front j fs c.in-Some.figure.now _ (sym c.loop-j.invariant.2 ∙ c.in-Some.ensures.steps) in (
      ap (λ ks. set ks j c.start.result) c.loop-j.invariant.0
          ∙ ap (set (four fresh g.F.Figure.starts (take j fs)) j) c.start.ensures
          ∙ four_more fresh g.F.Figure.starts fs j c.in-Some.figure.now (set_few c.args.set.now) h.0,
      simp length-set c.loop-j.invariant.1,
      sym h.1,
    )

pub returns : goal.returns
returns g c =
    let fs = figures c.args.set.now in
    let done : drop c.loop-j.j (figures c.args.set.now) ≡ [] = sym c.loop-j.invariant.2 ∙ c.in-None.ensures.steps.0 in
    let short : length (figures c.args.set.now) ≤ c.loop-j.j = omega (arith, length-drop c.loop-j.j (figures c.args.set.now), ap length done) in
    ap (λ ks. record { rows = 0; carries = ks }) (c.loop-j.invariant.0 ∙ ap (four fresh g.F.Figure.starts) (take_all c.loop-j.j fs short))
