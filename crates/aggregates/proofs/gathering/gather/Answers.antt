use Rattle.std.proofs.Common.{◌≡◌, ◌++◌, length, ap, ◌∙◌, arith}
use Rattle.tables.specs.Rows.{rows, values_left}
use Rattle.tables.proofs.Edits.{rows_few}
use Rattle.aggregates.specs.CatchingUp.{cells_at}
use Rattle.aggregates.proofs.gathering.gather.Goals as goal

pub loop-one-init : goal.loop-one-init
loop-one-init g c =
    let left : values_left c.into_iter-one-iterator.result ≡ rows c.args.kept.now = ap values_left c.into_iter-one-iterator.ensures.into_iter_gives ∙ c.iter-one-items.ensures in
    record { is = ap (λ cells. cells ++ cells_at c.args.place (values_left c.into_iter-one-iterator.result)) c.clear.ensures ∙ ap (cells_at c.args.place) left; few = omega (arith, ap length left, ap length c.clear.ensures, rows_few c.args.kept.now) }
