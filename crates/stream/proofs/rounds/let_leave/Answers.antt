use Rattle.std.proofs.Common.{ap, ◌∙◌}
use Rattle.tables.specs.Lists.{let_go}
use Rattle.tables.specs.Whole.{lists}
use Rattle.aggregates.specs.Sets.{set_figures}
use Rattle.stream.proofs.rounds.let_leave.Goals as goal

pub returns : goal.returns
returns g c = record {
  count = c.n_out_row-n.ensures.count;
  few = c.n_out_row-n.ensures.few;
  tables = c.release.ensures
      ∙ ap (λ reach. let_go reach c.n_out_row-n.result (lists c.args.tables.now)) (c.reach.ensures.value ∙ ap (λ set. (set_figures g.F.Figure set).reach) c.set.ensures);
  out = c.put_out.ensures;
}
