-- Every refusal by its number and place.
use Rattle.std.specs.Prelude.{ℕ, Ok, Err, Result}
use Rattle.faults.specs.declared.told.Layer.TheVariants.{Settings, Run}
use Rattle.faults.specs.declared.told.Told.{Told}
use Rattle.faults.specs.declared.settings.SettingsFault.{SettingsFault}
use Rattle.faults.specs.declared.settings.SettingsFault.TheVariants.{KeyKind, Mode, FigureCount, Letter, Column, Reach}
use Rattle.faults.specs.declared.run.RunFault.{RunFault}
use Rattle.faults.specs.declared.run.RunFault.TheVariants.{Finished, BatchTooLong, OutOfOrder, TooManyAccepted, WaitingFull, KeptFull, KeysFull, OutputTooShort}

-- a refusal of settings, and of a call on a run
abbrev pub of_settings : ℕ → ℕ → Told
of_settings number place = record { layer = Settings; number = number; place = place }

abbrev pub of_run : ℕ → ℕ → Told
of_run number place = record { layer = Run; number = number; place = place }

abbrev pub settings_told : SettingsFault → Told
settings_told KeyKind = of_settings 1 0
settings_told Mode = of_settings 2 0
settings_told FigureCount = of_settings 3 0
settings_told (Letter figure) = of_settings 4 figure
settings_told (Column figure) = of_settings 5 figure
settings_told (Reach figure) = of_settings 6 figure

abbrev pub run_told : RunFault → Told
run_told Finished = of_run 7 0
run_told BatchTooLong = of_run 8 0
run_told (OutOfOrder row) = of_run 9 row
run_told TooManyAccepted = of_run 10 0
run_told WaitingFull = of_run 11 0
run_told KeptFull = of_run 12 0
run_told KeysFull = of_run 13 0
run_told OutputTooShort = of_run 14 0

-- an answer as it is told
abbrev pub answered : {A E : Type 0} → (E → Told) → Result A E → Result A Told
answered told (Ok value) = Ok value
answered told (Err fault) = Err (told fault)
