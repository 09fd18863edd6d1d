use Rattle.aggregates.proofs.WholeSet.{supplied}
use Rattle.figures.proofs.Kept.{keeps_up}
use Rattle.aggregates.proofs.theory.sets_keep_up.Goals as goal

pub returns : goal.returns
returns g c = supplied g.F.Figure (keeps_up g.F.Figure)
