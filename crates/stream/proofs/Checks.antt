-- What a check that ended with a refusal hands on.
use Rattle.std.proofs.Common.{◌≡◌, Some, Err, Option, Result, sym, subst}
use Rattle.faults.specs.declared.told.Told.{Told}
use Rattle.faults.specs.declared.run.RunFault.{RunFault}
use Rattle.faults.specs.Numbers.{run_told}
use Rattle.stream.specs.Steps.{Checks, Gives}

-- a check that ended with a refusal, handed on as it was
pub handed_on : {X : Type 0} (refusal : Option Told) (r : Result X RunFault) (fault : RunFault) → r ≡ Err fault → refusal ≡ Some (run_told fault) → Checks refusal r
handed_on refusal r fault is e = subst (Checks refusal) (sym is) e

pub gives_none : {X : Type 0} (x : X) (r : Result X RunFault) (fault : RunFault) → r ≡ Err fault → Gives x r
gives_none x r fault is = subst (Gives x) (sym is) tt
