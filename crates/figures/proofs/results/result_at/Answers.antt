use Rattle.std.proofs.Common.{◌≡◌, ◌-◌, min, length, take, fold, refl, ap, ◌∙◌, arith}
use Rattle.figures.specs.Results.{carried}
use Rattle.figures.proofs.Framed.{take_min}
use Rattle.figures.proofs.Kept.{worked_is}
use Rattle.figures.proofs.results.result_at.Goals as goal

pub returns : goal.returns
returns g c =
    let m = g.F.Figure in
    let f = c.args.figure.now in
    let rows = c.args.rows.now in
    let i = c.args.rank in
    let start : c.min-start.result ≡ min (i - m.back f) (length rows) = omega (arith, c.min-start.ensures, c.saturating_sub.ensures, c.before-2.ensures) in
    let carry : c.absorb_from_start-carry.result ≡ carried m f rows i =
    c.absorb_from_start-carry.ensures ∙ ap (fold (m.absorbs f) (m.starts f)) (ap (λ n. take n rows) start ∙ take_min (i - m.back f) rows) in
    c.result_of.ensures ∙ worked_is m f rows rows c.absorb_from_start-carry.result 0 i (record { suffix = refl; reached = omega arith; carry = carry })
