-- The searcher's answer is the longest settled front of the lists.
use Rattle.std.proofs.Common.{◌≡◌, ap, ◌∙◌, arith}
use Rattle.std.proofs.lemmas.List.Sums.{prefix_len-le-length}
use Rattle.figures.specs.Sets.{figures, largest}
use Rattle.searchers.specs.Leaving as places
use Rattle.tables.specs.Places.{laid}
use Rattle.tables.specs.Whole.{lists}
use Rattle.book.specs.Calls.{settled, leaving}
use Rattle.stream.proofs.Leaving.{leaving_laid}
use Rattle.stream.proofs.rounds.n_out_row.Goals as goal

pub returns : goal.returns
returns g c =
    let ahead = g.F.Figure.ahead in
    let fs = figures c.args.settings.now.set in
    let t = lists c.args.tables.now in
    let due = places.by_largest ahead fs in
    let count : c.calculate_n_out_row.result ≡ leaving (largest ahead fs) t =
    c.calculate_n_out_row.ensures.largest
    ∙ ap (λ set. places.leaving (places.by_largest ahead (figures set)) c.places-2.result.now c.places.result.now) c.set.ensures
    ∙ ap (λ held. places.leaving due held c.places.result.now) c.places-2.ensures
    ∙ ap (places.leaving due (laid 64 t.held)) c.places.ensures
    ∙ leaving_laid ahead fs t
    in
    record { count = count; few = omega (arith, count, prefix_len-le-length (settled (largest ahead fs) t.held) t.waiting) }
