-- The waiting rows are as many after they got their results.
use Rattle.std.proofs.Common.{◌≡◌, true, ◌++◌, map, length, drop, ap, ◌∙◌, arith, rules}
use Rattle.std.proofs.lemmas.List.{length-map, take_all}
use Rattle.tables.specs.Lists.{mark, out_row}
use Rattle.tables.specs.Whole.{lists}
use Rattle.aggregates.specs.CatchingUp.{written, caught_up}
use Rattle.aggregates.specs.Sets.{set_figures}
use Rattle.stream.proofs.rounds.end.Goals as goal

pub put_out-requires : goal.put_out-requires
put_out-requires g c =
    let f = set_figures g.F.Figure c.args.set.now in
    let t = lists c.args.tables.now in
    let after : lists c.compute_aggregates.new.tables ≡ caught_up f (mark (λ _. true) t) = c.compute_aggregates.ensures ∙ ap (caught_up f) c.end_all.ensures in
    let long = ap (λ z. length z.waiting) after ∙ length-map t.waiting (written f t.kept (mark (λ _. true) t).held) in
    (search rules, (omega (arith, c.len-n.ensures.count), omega (arith, c.len-n.ensures.count, long, c.requires)))

pub returns : goal.returns
returns g c =
    let f = set_figures g.F.Figure c.args.set.now in
    let t = lists c.args.tables.now in
    let after : lists c.compute_aggregates.new.tables ≡ caught_up f (mark (λ _. true) t) = c.compute_aggregates.ensures ∙ ap (caught_up f) c.end_all.ensures in
    let long = ap (λ z. length z.waiting) after ∙ length-map t.waiting (written f t.kept (mark (λ _. true) t).held) in
    record {
      count = c.len-n.ensures.count ∙ long;
      tables = c.clear.ensures;
      out = c.put_out.ensures
          ∙ ap (λ rows. map out_row rows ++ drop c.len-n.result c.args.out.now)
          (take_all c.len-n.result (lists c.compute_aggregates.new.tables).waiting (omega (arith, c.len-n.ensures.count)) ∙ ap (λ z. z.waiting) after);
    }
