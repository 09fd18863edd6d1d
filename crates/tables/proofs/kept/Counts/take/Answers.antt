use Rattle.std.proofs.Common.{◌-◌, ◌∙◌, rules}
use Rattle.tables.specs.Rows.{rows}
use Rattle.tables.proofs.Holding.{value_got, value_less}
use Rattle.tables.proofs.kept.Counts.take.Goals as goal

pub returns-clause-left : goal.returns-clause-left
returns-clause-left c =
    let counts = rows c.args.self.now.rows in
    value_got (λ n. n - 1) 0 counts c.args.place c.get.result c.get.ensures c.map_or-left.result _ (λ x p. search rules) c.map_or-left.ensures ∙ value_less counts c.args.place
