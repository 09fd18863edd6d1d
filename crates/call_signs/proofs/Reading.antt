-- Bytes that are read as a sign, as the code cuts them: the first is the length n, and of the others n are letters and the rest zeros.
use Rattle.std.proofs.Common.{◌≡◌, ℕ, ◌-◌, ◌≤◌, true, List, [], ◌∷◌, length, get_or, take, drop, sym, ap, ◌∙◌, arith}
use Rattle.std.proofs.lemmas.Bool.{eq-eqb, le-leb, and_from, cond-true}
use Rattle.std.proofs.lemmas.List.{take_rest}
use Rattle.call_signs.specs.Spelling.{zeros}
use Rattle.call_signs.specs.Signs.{sign_of, sign_from}

-- all but the first
abbrev tail : List ℕ → List ℕ
tail bytes = take (length bytes - 1) (drop 1 bytes)

pub the_sign : (bytes : List ℕ) (n : ℕ) → n ≡ get_or bytes 0 0 → 1 ≤ length bytes → length (tail bytes) ≡ 8 → n ≤ 8 → true ≡ zeros (take (length (tail bytes) - n) (drop n (tail bytes))) → sign_of (take n (tail bytes)) ≡ sign_from bytes
the_sign [] n first some eight fits blank = absurd (omega arith)
the_sign (b ∷ bs) n first some eight fits blank =
    let rest : tail (b ∷ bs) ≡ bs = take_rest (b ∷ bs) 1 in
    let long = eq-eqb (length bs) 8 (sym (ap length rest) ∙ eight) in
    let few = le-leb b 8 (omega arith) in
    let all = (λ i. zeros (drop (sym first i) (sym rest i))) ∙ sym (ap zeros (take_rest (tail (b ∷ bs)) n)) ∙ sym blank in
    (λ i. sign_of (take (first i) (rest i))) ∙ sym (cond-true _ _ _ (and_from _ _ long (and_from _ _ few all)))
