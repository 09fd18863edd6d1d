use Rattle.std.proofs.Common.{◌∙◌}
use Rattle.call_signs.specs.Tied.{same_ties}
use Rattle.call_signs.proofs.sign.CallSignOrderedKey.compare_parts.Goals as goal

pub returns-clause-tied : goal.returns-clause-tied
returns-clause-tied c = λ e. c.cmp.ensures ∙ same_ties c.args.self.now c.args.other.now e
