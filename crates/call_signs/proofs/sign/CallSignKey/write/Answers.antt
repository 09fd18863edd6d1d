use Rattle.std.proofs.Common.{[], ◌∷◌, arith}
use Rattle.raw_bytes.proofs.Writing.{written_both}
use Rattle.call_signs.proofs.sign.CallSignKey.write.Goals as goal

pub returns : goal.returns
returns c =
    rw (← c.spelled-sign.ensures.bytes, ← c.spelled-sign.ensures.len)
    (written_both (c.spelled-sign.result.len ∷ []) c.spelled-sign.result.bytes (omega arith) c.put.ensures c.put_text.ensures)
