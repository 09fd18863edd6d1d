use Rattle.std.proofs.Common.{◌≡◌, ap, ◌∙◌}
use Rattle.searchers.specs.Ends.{ended_at}
use Rattle.tables.specs.Lists.{admit, mark}
use Rattle.tables.specs.Whole.{lists}
use Rattle.aggregates.specs.CatchingUp.{caught_up}
use Rattle.aggregates.specs.Sets.{set_figures}
use Rattle.stream.proofs.rounds.ready.Goals as goal

pub returns : goal.returns
returns g c =
    let same = g.K.PartialEq.eq in
    let f = set_figures g.F.Figure c.args.settings.now.set in
    let start : c.start_of.result ≡ f.start = c.start_of.ensures ∙ ap (λ s. (set_figures g.F.Figure s).start) c.set.ensures in
    c.compute_aggregates.ensures
    ∙ ap (λ s. caught_up (set_figures g.F.Figure s) (lists c.mark_partition_end.new.self)) c.set-2.ensures
    ∙ ap (caught_up f) (
    c.mark_partition_end.ensures ∙ ap (λ s. mark (ended_at (g.S.PartitionSearcher.mode s) same g.K.OrderedKey.parts c.args.last.now) (lists c.admit.new.self)) c.searcher.ensures
    ∙ ap (mark (ended_at (g.S.PartitionSearcher.mode c.args.settings.now.searcher) same g.K.OrderedKey.parts c.args.last.now)) (c.admit.ensures ∙ (λ i. admit same (start i) (c.blank.ensures i) (lists c.args.tables.now) c.args.batch.now))
    )
