use Rattle.std.proofs.Common.{take}
use Rattle.raw_bytes.specs.Writing.{Written}
use Rattle.raw_bytes.proofs.writer.Writer.put_text.Given as goal

-- the bytes so far are written
abbrev pub invariant-loop-byte : goal.invariant-loop-byte
invariant-loop-byte l = Written l.initial.self (take l.byte-index l.text) l.self
