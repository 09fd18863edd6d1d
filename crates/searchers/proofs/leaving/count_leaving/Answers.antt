use Rattle.std.proofs.Common.{◌∙◌}
use Rattle.figures.specs.Sets.{figures}
use Rattle.searchers.proofs.Leaves.{same_count, longest}
use Rattle.searchers.proofs.leaving.count_leaving.Goals as goal

pub returns : goal.returns
returns g c =
    let ahead = g.F.Figure.ahead in
    let set = c.args.set.now in
    let held = c.args.held.now in
    let waiting = c.args.waiting.now in
    let each = c.scan_waiting.ensures in
    record { each = each; largest = each ∙ same_count ahead set held waiting; front = longest ahead (figures set) held waiting c.scan_waiting.result each }
