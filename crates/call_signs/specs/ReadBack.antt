-- A sign that is written is read back, and what is read as a sign is that sign's written form.
use Rattle.std.specs.Prelude.{◌≡◌, ℕ, ◌-◌, ◌≤◌, true, ◌&&◌, List, [], ◌∷◌, ◌++◌, length, take, drop, replicate, Some, ◌==◌, nat_le, refl}
use Rattle.std.proofs.Common.{sym, ap, ◌∙◌, arith, take-append-drop, length-drop}
use Rattle.std.proofs.lemmas.List.{length-take-le}
use Rattle.std.proofs.lemmas.Bool.{eqb-true, leb-true, and_parts}
use Rattle.std.proofs.lemmas.Option.{none-some}
use Rattle.keys.specs.ReadBack.{cond_some}
use Rattle.call_signs.specs.Spelling.{zeros}
use Rattle.call_signs.specs.Signs.{sign_bytes, sign_of, sign_from, written_sign}
use Rattle.call_signs.specs.Same.{sign_again, sign_only}
use Rattle.call_signs.specs.declared.sign.CallSign.{CallSign}
use Rattle.call_signs.specs.declared.sign.CallSign.TheVariants.{One, Two, Three, Four, Five, Six, Seven, Eight}

zeros_only : (bs : List ℕ) → zeros bs ≡ true → bs ≡ replicate (length bs) 0
zeros_only [] h = refl
zeros_only (b ∷ bs) h =
    let p = and_parts (b == 0) (zeros bs) h in
    λ i. eqb-true b 0 p.0 i ∷ zeros_only bs p.1 i

pub sign_only_written : (bs : List ℕ) (s : CallSign) → sign_from bs ≡ Some s → written_sign s ≡ bs
sign_only_written [] s h = absurd (none-some s h)
sign_only_written (n ∷ bs) s h =
    let p = cond_some (length bs == 8 && (nat_le n 8 && zeros (drop n bs))) (sign_of (take n bs)) s h in
    let q = and_parts (length bs == 8) (nat_le n 8 && zeros (drop n bs)) p.0 in
    let r = and_parts (nat_le n 8) (zeros (drop n bs)) q.1 in
    let eight : length bs ≡ 8 = eqb-true (length bs) 8 q.0 in
    let fits : n ≤ 8 = leb-true n 8 r.0 in
    let front : sign_bytes s ≡ take n bs = sign_only (take n bs) s p.1 in
    let long : length (sign_bytes s) ≡ n = ap length front ∙ length-take-le n bs (omega arith) in
    let rest : 8 - length (sign_bytes s) ≡ length (drop n bs) = simp length-drop (omega arith) in
    let tail : replicate (8 - length (sign_bytes s)) 0 ≡ drop n bs = ◌∙◌ {b = replicate (length (drop n bs)) 0} (ap (λ k. replicate k 0) rest) (sym (zeros_only (drop n bs) r.1)) in
    let parts : written_sign s ≡ n ∷ (take n bs ++ drop n bs) = λ i. long i ∷ (front i ++ tail i) in
    parts ∙ ap (λ xs. n ∷ xs) (take-append-drop n bs)

-- each written form has nine bytes
pub written_long : (s : CallSign) → length (written_sign s) ≡ 9
written_long (One a) = refl
written_long (Two a b) = refl
written_long (Three a b c) = refl
written_long (Four a b c d) = refl
written_long (Five a b c d e) = refl
written_long (Six a b c d e f) = refl
written_long (Seven a b c d e f g) = refl
written_long (Eight a b c d e f g h) = refl

pub written_few : (s : CallSign) → length (written_sign s) ≤ 9
written_few s = omega (arith, written_long s)

pub sign_read_back : (s : CallSign) → sign_from (written_sign s) ≡ Some s
sign_read_back (One a) = sign_again (One a)
sign_read_back (Two a b) = sign_again (Two a b)
sign_read_back (Three a b c) = sign_again (Three a b c)
sign_read_back (Four a b c d) = sign_again (Four a b c d)
sign_read_back (Five a b c d e) = sign_again (Five a b c d e)
sign_read_back (Six a b c d e f) = sign_again (Six a b c d e f)
sign_read_back (Seven a b c d e f g) = sign_again (Seven a b c d e f g)
sign_read_back (Eight a b c d e f g h) = sign_again (Eight a b c d e f g h)
