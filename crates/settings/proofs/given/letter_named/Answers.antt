use Rattle.std.proofs.Common.{◌∙◌}
use Rattle.settings.proofs.Tables.{letter_is}
use Rattle.settings.proofs.given.letter_named.Goals as goal

pub returns : goal.returns
returns c = c.ok.ensures.value ∙ letter_is _ _ c.try_from.ensures
