use Rattle.std.proofs.Common.{[], ◌∷◌, get_or, take, arith}
use Rattle.std.proofs.lemmas.List.{take_all, take_more}
use Rattle.raw_bytes.proofs.Writing.{written_none, written_both}
use Rattle.raw_bytes.proofs.writer.Writer.put_text.Goals as goal

pub loop-byte-init : goal.loop-byte-init
loop-byte-init c = written_none _ (omega arith)

pub loop-byte-preserved : goal.loop-byte-preserved
loop-byte-preserved c =
    rw (take_more c.args.text.now c.loop-byte.byte-index 0 (omega arith))
    (written_both (take c.loop-byte.byte-index c.args.text.now) (get_or c.args.text.now c.loop-byte.byte-index 0 ∷ []) (omega arith) c.loop-byte.invariant c.put.ensures)

pub returns : goal.returns
returns c = rw (take_all c.loop-byte.byte-index c.args.text.now c.loop-byte-test.false) at c.loop-byte.invariant
