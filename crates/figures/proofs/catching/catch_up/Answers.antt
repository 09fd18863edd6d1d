use Rattle.std.proofs.Common.{◌≡◌, ◌+◌, ◌-◌, ◌<◌, [], ◌++◌, length, take, sym, ap, ◌∙◌, arith}
use Rattle.std.proofs.lemmas.List.{append-nil, take_all}
use Rattle.figures.specs.Catching.{stretch, carry_after}
use Rattle.figures.proofs.Kept.{keeps_up}
use Rattle.figures.proofs.Stretched.{results_more, carry_more}
use Rattle.figures.proofs.catching.catch_up.Goals as goal

pub loop-place-init : goal.loop-place-init
loop-place-init g c =
    let m = g.F.Figure in
    let f = c.args.figure.now in
    let rows = c.args.kept.now.rows.now in
    let n = length c.args.results.now in
    let from : c.args.from + 0 ≡ c.args.from = omega arith in
    let whole : length c.args.results.now - 0 ≡ length c.args.results.now = omega arith in (
      ap (λ i. stretch m f c.args.carry c.args.kept.now.first rows i (n - 0)) from ∙ ap (stretch m f c.args.carry c.args.kept.now.first rows c.args.from) whole,
      ap (λ i. carry_after m f c.args.carry c.args.kept.now.first rows i (n - 0)) from ∙ ap (carry_after m f c.args.carry c.args.kept.now.first rows c.args.from) whole,
    )

pub loop-place-preserved : goal.loop-place-preserved
loop-place-preserved g c =
    let m = g.F.Figure in
    let f = c.args.figure.now in
    let rows = c.args.kept.now.rows.now in
    let n = length c.args.results.now in
    let j = c.loop-place.place in
    let k = c.loop-place.next in
    let k' = c.pass-next.result in
    let room : j < length c.loop-place.results = omega (arith, c.loop-place-test.true, c.loop-place.auto.results) in (
      results_more m f k k' c.args.kept.now.first rows c.args.from j n c.loop-place-test.true c.pass-next.ensures c.loop-place.results c.result_of.result room c.result_of.ensures
          ∙ c.loop-place.invariant.0,
      carry_more m f k k' c.args.kept.now.first rows c.args.from j n c.loop-place-test.true c.pass-next.ensures ∙ c.loop-place.invariant.1,
    )

pub returns : goal.returns
returns g c =
    let m = g.F.Figure in
    let f = c.args.figure.now in
    let rows = c.args.kept.now.rows.now in
    let first = c.args.kept.now.first in
    let from = c.args.from in
    let n = length c.args.results.now in
    let os = c.loop-place.results in
    let k = c.loop-place.next in
    let j = c.loop-place.place in
    let none : length c.args.results.now - c.loop-place.place ≡ 0 = omega (arith, c.loop-place-test.false) in
    let all_done : take j os ≡ os = take_all j os (omega (arith, c.loop-place-test.false, c.loop-place.auto.results)) in
    let results : os ≡ stretch m f c.args.carry first rows from n =
    sym (append-nil os)
    ∙ ap (λ r. r ++ []) (sym all_done)
    ∙ ap (λ t. take j os ++ stretch m f k first rows (from + j) t) (sym none)
    ∙ c.loop-place.invariant.0 in
    let carry : k ≡ carry_after m f c.args.carry first rows from n = ap (carry_after m f k first rows (from + j)) (sym none) ∙ c.loop-place.invariant.1 in
    let theory = keeps_up m in
    record {
      results = results;
      carry = carry;
      whole = λ all held.
          let right = theory.gives f c.args.carry first rows from n all held in
          (results ∙ right.0, carry ∙ right.1);
      theory = theory;
    }
