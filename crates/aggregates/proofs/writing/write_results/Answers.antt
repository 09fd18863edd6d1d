use Rattle.std.proofs.Common.{rules}
use Rattle.std.proofs.lemmas.Fn.{always_returns_same}
use Rattle.aggregates.specs.Writing.{rewritten, figure_taken}
use Rattle.aggregates.proofs.writing.write_results.Goals as goal

pub returns : goal.returns
returns g c = c.for_each_mut.ensures.function (rewritten c.args.place (figure_taken c.args.figure c.args.results.now c.args.from)) (always_returns_same _ _ _ (λ a r q k. search rules))
