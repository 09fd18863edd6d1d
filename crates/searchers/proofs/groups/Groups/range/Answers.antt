use Rattle.std.proofs.Common.{◌≡◌, get_or, rules}
use Rattle.searchers.proofs.Ranges.{is_after_last}
use Rattle.searchers.proofs.groups.Groups.range.Goals as goal

pub returns-clause-value : goal.returns-clause-value
returns-clause-value c =
    let self = c.args.self.now in
    let g = c.args.group in
    let first : c.map_or-first.result ≡ get_or self.firsts g 256 = search rules in
    λ j. (first j, is_after_last g self.ids c.after_last.result c.after_last.ensures j)
