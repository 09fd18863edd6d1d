use Rattle.std.proofs.Common.{◌-◌}
use Rattle.figures.proofs.Framed.{cut}
use Rattle.figures.proofs.rows.KeptRows.between.Goals as goal

pub returns : goal.returns
returns c =
    let first = c.args.self.now.first in
    cut c.args.self.now.rows.now (c.args.start - first) (c.args.end - first) _ _ c.place.ensures c.place-2.ensures
