use Rattle.std.proofs.Common.{◌≡◌, ◌+◌, rules}
use Rattle.std.proofs.iter.Rest.{running}
use Rattle.std.proofs.iter.Serving.{returning}
use Rattle.figures.specs.Sets.{figures, largest}
use Rattle.figures.proofs.Largest.{largest_is}
use Rattle.figures.proofs.set.FigureSet.reach.Goals as goal

pub returns-clause-largest : goal.returns-clause-largest
returns-clause-largest g c =
    let value : c.fold.result ≡ largest (λ f. g.F.Figure.back f + g.F.Figure.ahead f) (figures c.args.self.now) = search (rules, returning, running) in
    largest_is (λ f. g.F.Figure.back f + g.F.Figure.ahead f) c.args.self.now c.fold.result value
