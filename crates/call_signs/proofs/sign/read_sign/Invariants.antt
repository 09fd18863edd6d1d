use Rattle.std.proofs.Common.{◌≡◌, drop}
use Rattle.call_signs.specs.Signs.{grown}
use Rattle.call_signs.proofs.sign.read_sign.Given as goal

-- what is left gives the answer
abbrev pub invariant-loop-byte : goal.invariant-loop-byte
invariant-loop-byte l = grown l.sign (drop l.byte-index l.rest) ≡ grown l.initial.sign l.rest
