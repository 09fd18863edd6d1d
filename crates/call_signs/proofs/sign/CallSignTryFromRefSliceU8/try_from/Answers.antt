use Rattle.std.proofs.Common.{◌≡◌, ℕ, List, Result, Ok, Err, MatchResult, IsFalse, is_some, sym, ap, ◌∙◌}
use Rattle.std.specs.Result.{result_ok}
use Rattle.call_signs.specs.Spelling.{is_sign}
use Rattle.call_signs.specs.Signs.{sign_bytes, sign_of}
use Rattle.call_signs.specs.Same.{sign_only, sign_known}
use Rattle.call_signs.specs.declared.sign.CallSign.{CallSign}
use Rattle.call_signs.specs.declared.sign.NoSign.{NoSign}
use Rattle.call_signs.proofs.sign.CallSignTryFromRefSliceU8.try_from.Goals as goal

read_or_refused : (bytes : List ℕ) (read : Result CallSign NoSign) → result_ok read ≡ sign_of bytes → MatchResult read (λ sign. sign_bytes sign ≡ bytes) (λ _. IsFalse (is_sign bytes))
read_or_refused bytes (Ok sign) e = sign_only bytes sign (sym e)
read_or_refused bytes (Err _) e = sym (sign_known bytes) ∙ ap is_some (sym e)

pub returns : goal.returns
returns c =
    let made = sym c.ok_or.ensures.ok_part ∙ c.read_sign.ensures in
    (made, read_or_refused c.args.bytes.now c.ok_or.result made)
