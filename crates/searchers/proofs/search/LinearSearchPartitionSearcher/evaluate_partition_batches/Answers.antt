use Rattle.std.proofs.Common.{◌≡◌, take, ap, ◌∙◌}
use Rattle.searchers.specs.Order.{keys_of}
use Rattle.searchers.specs.Groups.{grouped}
use Rattle.searchers.proofs.Means.{groups_mean}
use Rattle.searchers.proofs.search.LinearSearchPartitionSearcher.evaluate_partition_batches.Goals as goal

pub returns : goal.returns
returns g c =
    let same = g.K.PartialEq.eq in
    let rows = take 256 c.args.rows.now in
    let value : c.group_by_hash.result ≡ grouped same (keys_of rows) = c.group_by_hash.ensures ∙ ap (λ rows. grouped same (keys_of rows)) c.first_rows.ensures.first in
    record { value = value; means = groups_mean same g.met.K.Eq.laws (keys_of rows) _ value }
