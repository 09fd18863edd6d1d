use Rattle.std.proofs.Common.{refl}
use Rattle.std.specs.Int.{int_wrap}
use Rattle.figures.proofs.cases.worked_cases.Goals as goal

pub returns : goal.returns
unfolding int_wrap
returns c = record {
  mean = record { ruled = refl; lined = refl };
  early = record { ruled = refl; lined = refl };
  earlier = record { ruled = refl; lined = refl };
  later = record { ruled = refl; lined = refl };
  late = record { ruled = refl; lined = refl };
}
