-- Each case computes.
use Rattle.std.proofs.Common.{refl}
use Rattle.std.specs.Int.{int_wrap}
use Rattle.book.proofs.cases.worked_cases.Goals as goal

pub returns : goal.returns
unfolding int_wrap
returns c = record {
  first = record { accepted = refl; these = refl };
  wait = refl;
  sevens = refl;
  eights = refl;
  rest = record { accepted = refl; these = refl };
  none_past = record { accepted = refl; many = refl };
  sorted = record { accepted = refl; many = refl };
  linear = record { accepted = refl; many = refl };
  by_route = record { accepted = refl; many = refl };
  by_key = refl;
  mean = record { accepted = refl; these = refl };
  earlier = record { accepted = refl; these = refl };
  later = record { accepted = refl; these = refl };
  last_later = record { accepted = refl; these = refl };
  empty = record { accepted = refl; many = refl };
  empty_later = record { accepted = refl; many = refl };
  countable = refl;
  uncountable = refl;
}
