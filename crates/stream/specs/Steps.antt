-- What the steps of a call promise each other.
use Rattle.std.specs.Prelude.{◌≡◌, Bool, true, List, Some, None, Ok, Err, Option, Result}
use Rattle.searchers.specs.declared.rows.Row.{Row}
use Rattle.faults.specs.declared.run.RunFault.{RunFault}
use Rattle.faults.specs.declared.told.Told.{Told}
use Rattle.faults.specs.Numbers.{run_told}
use Rattle.tables.specs.Lists.{Lists, admit, mark}
use Rattle.aggregates.specs.Figures.{Figures}
use Rattle.aggregates.specs.CatchingUp.{caught_up}

-- a check passes exactly where there is no refusal; else it gives the refusal
abbrev pub Checks : {X : Type 0} → Option Told → Result X RunFault → Type 0
Checks refusal (Ok x) = refusal ≡ None
Checks refusal (Err fault) = refusal ≡ Some (run_told fault)

-- what a check that passes gives
abbrev pub Gives : {X : Type 0} → X → Result X RunFault → Type 0
Gives x (Ok y) = y ≡ x
Gives x (Err fault) = Unit {0}

-- a batch admitted, ended keys marked, results worked out
abbrev pub readied_with : {K R P : Type 0} → (K → K → Bool) → Figures P R → (K → Bool) → Lists K R P → List (Row K) → Lists K R P
readied_with same f ended t batch = caught_up f (mark ended (admit same f.start f.blank t batch))

abbrev pub ended_with : {K R P : Type 0} → Figures P R → Lists K R P → Lists K R P
ended_with f t = caught_up f (mark (λ _. true) t)
