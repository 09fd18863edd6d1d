use Rattle.std.proofs.Common.{◌<◌, length, set, sym, ap, ◌∙◌, rules}
use Rattle.std.specs.Option.{option_map}
use Rattle.std.proofs.lemmas.List.Edits.{map_over_more}
use Rattle.searchers.specs.Ends.{ended_at, marked}
use Rattle.searchers.proofs.ends.mark_all.Goals as goal

pub loop-place-preserved : goal.loop-place-preserved
loop-place-preserved g c =
    let i = c.loop-place.place-index in
    let held = c.args.held.now in
    let within : i < length held = search rules in
    let mark = option_map (marked (ended_at c.args.mode g.K.PartialEq.eq g.K.OrderedKey.parts c.args.last)) in
    ap (set c.loop-place.place-items i) (c.mark.ensures ∙ ap mark (sym c.place-item.is))
    ∙ map_over_more mark held c.loop-place.place-items i c.place-item.result within c.loop-place.invariant c.place-item.is
