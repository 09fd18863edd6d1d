use Rattle.std.proofs.Common.{◌∙◌}
use Rattle.settings.proofs.Tables.{column_is}
use Rattle.settings.proofs.given.column_named.Goals as goal

pub returns : goal.returns
returns c = c.ok.ensures.value ∙ column_is _ _ c.try_from.ensures
