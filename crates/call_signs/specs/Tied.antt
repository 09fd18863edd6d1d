-- Signs are equal exactly where they tie.
use Rattle.std.specs.Prelude.{◌≡◌, true}
use Rattle.std.specs.declared.cmp.Ordering.TheVariants.{Equal}
use Rattle.std.proofs.Common.{sym, ◌∙◌}
use Rattle.std.specs.Cmp.{Equal-is, unsigned_ties}
use Rattle.std.specs.Cmp.Lexicographic.{lists_ties}
use Rattle.std.specs.Ordering.{is_eq, nat_cmp}
use Rattle.call_signs.specs.Signs.{compared_bytes, same_sign, sign_order}
use Rattle.call_signs.specs.declared.sign.CallSign.{CallSign}

pub signs_tied : (x y : CallSign) → same_sign x y ≡ is_eq (sign_order x y)
signs_tied x y = lists_ties nat_cmp unsigned_ties (compared_bytes x) (compared_bytes y)

pub same_ties : (x y : CallSign) → same_sign x y ≡ true → sign_order x y ≡ Equal
same_ties x y e = (Equal-is (sign_order x y)).0 (sym (signs_tied x y) ∙ e)
