use Rattle.std.proofs.Common.{◌∙◌}
use Rattle.call_signs.proofs.Reading.{the_sign}
use Rattle.call_signs.proofs.sign.CallSignKey.read.Goals as goal

pub returns-then-all_zero : goal.returns-then-all_zero
returns-then-all_zero c =
    c.ok.ensures.value ∙ c.try_from.ensures.0 ∙ the_sign c.args.bytes.now c.from-len.result c.from-len.ensures c.in-len1-up.len_at_least c.if-rest-eq8.true c.if-len-le8.true c.if-all_zero.ensures
