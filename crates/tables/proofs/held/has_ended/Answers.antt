use Rattle.std.proofs.Common.{true, rules}
use Rattle.tables.specs.Rows.{rows}
use Rattle.tables.proofs.Holding.{value_got}
use Rattle.tables.proofs.held.has_ended.Goals as goal

pub returns : goal.returns
returns g c = value_got (λ e. e.ended) true (rows c.args.held.now) c.args.place c.get.result c.get.ensures c.map_or.result _ (λ x p. search rules) c.map_or.ensures
