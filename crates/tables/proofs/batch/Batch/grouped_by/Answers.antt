use Rattle.std.proofs.Common.{ap, ◌∙◌}
use Rattle.std.proofs.lemmas.List.{take_all}
use Rattle.searchers.specs.Groups.{grouped}
use Rattle.searchers.specs.Order.{keys_of}
use Rattle.tables.proofs.batch.Batch.grouped_by.Goals as goal

pub of-requires : goal.of-requires
of-requires g c =
    record { short = c.if-rows-gt256.false; grouped = c.evaluate_partition_batches-groups.ensures.value ∙ ap (λ rows. grouped g.K.PartialEq.eq (keys_of rows)) (take_all 256 c.args.rows.now c.if-rows-gt256.false) }
