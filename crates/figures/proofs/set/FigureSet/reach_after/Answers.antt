use Rattle.std.proofs.Common.{◌≡◌, rules}
use Rattle.std.proofs.iter.Rest.{running}
use Rattle.std.proofs.iter.Serving.{returning}
use Rattle.figures.specs.Sets.{figures, largest}
use Rattle.figures.proofs.Largest.{largest_is}
use Rattle.figures.proofs.set.FigureSet.reach_after.Goals as goal

pub returns-clause-largest : goal.returns-clause-largest
returns-clause-largest g c =
    let value : c.fold.result ≡ largest g.F.Figure.ahead (figures c.args.self.now) = search (rules, returning, running) in
    largest_is g.F.Figure.ahead c.args.self.now c.fold.result value
