use Rattle.std.proofs.Common.{◌≡◌, ℕ, take, Some, None, Option, ap, ◌∙◌, rules}
use Rattle.std.specs.Option.{MatchOption}
use Rattle.searchers.specs.declared.groups.Groups.{Groups}
use Rattle.searchers.specs.Order.{keys_of}
use Rattle.searchers.specs.Groups.{grouped, if_sorted}
use Rattle.searchers.proofs.Means.{groups_mean}
use Rattle.searchers.proofs.search.SortedSearchPartitionSearcher.evaluate_partition_batches.Goals as goal

-- the groups of a batch without a fall, or else those by the hash table, are its groups
either : {ByHash : Type 0} (fall : Option ℕ) (found : Option Groups) (all got : Groups) → found ≡ if_sorted fall all → MatchOption found ByHash (λ groups. got ≡ groups) → (ByHash → got ≡ all) → got ≡ all
either fall None all got e given by_hash = by_hash given
either None (Some groups) all got e given by_hash = given ∙ cc
either (Some i) (Some groups) all got e given by_hash = cc

pub returns : goal.returns
returns g c =
    let same = g.K.PartialEq.eq in
    let rows = take 256 c.args.rows.now in
    let value : c.unwrap_or_else.result ≡ grouped same (keys_of rows) =
    either _ _ _ _ c.evaluate_partition_ranges.ensures c.unwrap_or_else.ensures (λ made. search rules) ∙ ap (λ rows. grouped same (keys_of rows)) c.first_rows-rows.ensures.first
    in
    record { value = value; means = groups_mean same g.met.K.Eq.laws (keys_of rows) _ value }
