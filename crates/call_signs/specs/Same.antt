-- Signs with the same bytes are the same, and what is made of a sign's bytes is that sign.
use Rattle.std.specs.Prelude.{◌≡◌, ℕ, Bool, true, false, ◌&&◌, List, [], ◌∷◌, ◌++◌, length, take, Some, None, Option, is_some, if◌then◌else◌, ◌==◌, nat_le, IsTrue, refl}
use Rattle.std.specs.List.{list_all}
use Rattle.std.specs.Option.{option_and_then}
use Rattle.std.proofs.Common.{sym, ap, ◌∙◌, append_assoc, arith}
use Rattle.std.proofs.lemmas.List.{append-nil, take_at}
use Rattle.std.proofs.lemmas.Bool.{eqb-true, le-leb, lt-leb, and_left, and_right}
use Rattle.std.proofs.lemmas.Bool.Decides.{nat_tests}
use Rattle.std.proofs.lemmas.Option.{none-some, same_Some, option_and_then_some}
use Rattle.call_signs.specs.Letters.{code, letters, with_byte, letter_of, is_letter}
use Rattle.call_signs.specs.Spelling.{is_sign, padded}
use Rattle.call_signs.specs.Signs.{sign_bytes, added, grown, sign_of}
use Rattle.call_signs.specs.declared.letter.Letter.{Letter}
use Rattle.call_signs.specs.declared.letter.Letter.TheVariants.{Blank, N0, N1, N2, N3, N4, N5, N6, N7, N8, N9, A, B, C, D, E, F, G, H, I, J, K, L, M, N, O, P, Q, R, S, T, U, V, W, X, Y, Z}
use Rattle.call_signs.specs.declared.sign.CallSign.{CallSign}
use Rattle.call_signs.specs.declared.sign.CallSign.TheVariants.{One, Two, Three, Four, Five, Six, Seven, Eight}

-- a letter's byte is read as that letter
pub letter_again : (l : Letter) → letter_of (code l) ≡ Some l
letter_again Blank = refl
letter_again N0 = refl
letter_again N1 = refl
letter_again N2 = refl
letter_again N3 = refl
letter_again N4 = refl
letter_again N5 = refl
letter_again N6 = refl
letter_again N7 = refl
letter_again N8 = refl
letter_again N9 = refl
letter_again A = refl
letter_again B = refl
letter_again C = refl
letter_again D = refl
letter_again E = refl
letter_again F = refl
letter_again G = refl
letter_again H = refl
letter_again I = refl
letter_again J = refl
letter_again K = refl
letter_again L = refl
letter_again M = refl
letter_again N = refl
letter_again O = refl
letter_again P = refl
letter_again Q = refl
letter_again R = refl
letter_again S = refl
letter_again T = refl
letter_again U = refl
letter_again V = refl
letter_again W = refl
letter_again X = refl
letter_again Y = refl
letter_again Z = refl

letter_by : (b : ℕ) (m : Letter) (ls : List Letter) (l : Letter) → (with_byte b ls ≡ Some l → code l ≡ b) → (t : Bool) → (code m == b) ≡ t → (if t then Some m else with_byte b ls) ≡ Some l → code l ≡ b
letter_by b m ls l rest true e h = ap code (sym (same_Some m l h)) ∙ eqb-true (code m) b e
letter_by b m ls l rest false e h = rest h

letter_only : (b : ℕ) (ls : List Letter) (l : Letter) → with_byte b ls ≡ Some l → code l ≡ b
letter_only b [] l h = absurd (none-some l h)
letter_only b (m ∷ ls) l h = letter_by b m ls l (letter_only b ls l) (code m == b) refl h

-- a byte is read as a letter exactly where it is one
pub letter_known : (b : ℕ) → is_some (letter_of b) ≡ is_letter b
letter_known b = grind (arith, nat_tests)

-- every letter's byte is one
pub code_known : (l : Letter) → IsTrue (is_letter (code l))
code_known l = sym (letter_known (code l)) ∙ ap is_some (letter_again l)

-- the bytes stand in front of the zeros behind them
pub front : (bytes : List ℕ) → take (length bytes) (padded bytes) ≡ bytes
front bytes = take_at bytes _ _ refl

-- a sign's bytes make that sign
pub sign_again : (s : CallSign) → sign_of (sign_bytes s) ≡ Some s
sign_again (One a) = simp letter_again
sign_again (Two a b) = simp letter_again
sign_again (Three a b c) = simp letter_again
sign_again (Four a b c d) = simp letter_again
sign_again (Five a b c d e) = simp letter_again
sign_again (Six a b c d e f) = simp letter_again
sign_again (Seven a b c d e f g) = simp letter_again
sign_again (Eight a b c d e f g h) = simp letter_again

-- signs with the same bytes are the same
pub same_by_bytes : (x y : CallSign) → sign_bytes x ≡ sign_bytes y → x ≡ y
same_by_bytes x y e = same_Some x y (sym (sign_again x) ∙ ap sign_of e ∙ sign_again y)

added_only : (s : CallSign) (l : Letter) (t : CallSign) → added s l ≡ Some t → sign_bytes t ≡ sign_bytes s ++ code l ∷ []
added_only (One a) l t h = ap sign_bytes (sym (same_Some _ t h))
added_only (Two a b) l t h = ap sign_bytes (sym (same_Some _ t h))
added_only (Three a b c) l t h = ap sign_bytes (sym (same_Some _ t h))
added_only (Four a b c d) l t h = ap sign_bytes (sym (same_Some _ t h))
added_only (Five a b c d e) l t h = ap sign_bytes (sym (same_Some _ t h))
added_only (Six a b c d e f) l t h = ap sign_bytes (sym (same_Some _ t h))
added_only (Seven a b c d e f g) l t h = ap sign_bytes (sym (same_Some _ t h))
added_only (Eight a b c d e f g h) l t q = absurd (none-some t q)

grown_only : (s : CallSign) (bs : List ℕ) (t : CallSign) → grown s bs ≡ Some t → sign_bytes t ≡ sign_bytes s ++ bs
grown_only s [] t h = ap sign_bytes (sym (same_Some s t h)) ∙ sym (append-nil (sign_bytes s))
grown_only s (b ∷ bs) t h =
    option_and_then_some (λ l. option_and_then (λ u. grown u bs) (added s l)) (letter_of b) t h
    (λ l e g. option_and_then_some (λ u. grown u bs) (added s l) t g
    (λ u d r. grown_only u bs t r
    ∙ ap (λ xs. xs ++ bs) (added_only s l u d ∙ ap (λ c. sign_bytes s ++ c ∷ []) (letter_only b letters l e))
    ∙ append_assoc (sign_bytes s) (b ∷ []) bs))

-- a sign that bytes make has these bytes
pub sign_only : (bs : List ℕ) (t : CallSign) → sign_of bs ≡ Some t → sign_bytes t ≡ bs
sign_only [] t h = absurd (none-some t h)
sign_only (b ∷ bs) t h =
    option_and_then_some (λ l. grown (One l) bs) (letter_of b) t h
    (λ l e g. grown_only (One l) bs t g ∙ ap (λ c. c ∷ bs) (letter_only b letters l e))

grown_by : (s : CallSign) (b : ℕ) (bs : List ℕ) (o : Option Letter) → ((t : CallSign) → is_some (grown t bs) ≡ (nat_le (length (sign_bytes t ++ bs)) 8 && list_all is_letter bs)) → is_some (option_and_then (λ l. option_and_then (λ t. grown t bs) (added s l)) o) ≡ (nat_le (length (sign_bytes s ++ b ∷ bs)) 8 && (is_some o && list_all is_letter bs))
grown_by s b bs None rest = sym (and_right _ _ refl)
grown_by (One a) x bs (Some l) rest = rest (Two a l)
grown_by (Two a b) x bs (Some l) rest = rest (Three a b l)
grown_by (Three a b c) x bs (Some l) rest = rest (Four a b c l)
grown_by (Four a b c d) x bs (Some l) rest = rest (Five a b c d l)
grown_by (Five a b c d e) x bs (Some l) rest = rest (Six a b c d e l)
grown_by (Six a b c d e f) x bs (Some l) rest = rest (Seven a b c d e f l)
grown_by (Seven a b c d e f g) x bs (Some l) rest = rest (Eight a b c d e f g l)
grown_by (Eight a b c d e f g h) x bs (Some l) rest = sym (and_left _ _ (lt-leb (length (sign_bytes (Eight a b c d e f g h) ++ x ∷ bs)) 8 (omega arith)))

grown_known : (s : CallSign) (bs : List ℕ) → is_some (grown s bs) ≡ (nat_le (length (sign_bytes s ++ bs)) 8 && list_all is_letter bs)
grown_known (One a) [] = refl
grown_known (Two a b) [] = refl
grown_known (Three a b c) [] = refl
grown_known (Four a b c d) [] = refl
grown_known (Five a b c d e) [] = refl
grown_known (Six a b c d e f) [] = refl
grown_known (Seven a b c d e f g) [] = refl
grown_known (Eight a b c d e f g h) [] = refl
grown_known s (b ∷ bs) = grown_by s b bs (letter_of b) (λ t. grown_known t bs) ∙ ap (λ t. nat_le (length (sign_bytes s ++ b ∷ bs)) 8 && (t && list_all is_letter bs)) (letter_known b)

sign_by : (b : ℕ) (bs : List ℕ) (o : Option Letter) → is_some (option_and_then (λ l. grown (One l) bs) o) ≡ (nat_le (length (b ∷ bs)) 8 && (is_some o && list_all is_letter bs))
sign_by b bs None = sym (and_right _ _ refl)
sign_by b bs (Some l) = grown_known (One l) bs

-- bytes make a sign exactly where they are one to eight letters
pub sign_known : (bs : List ℕ) → is_some (sign_of bs) ≡ is_sign bs
sign_known [] = refl
sign_known (b ∷ bs) =
    sign_by b bs (letter_of b)
    ∙ ap (λ t. nat_le (length (b ∷ bs)) 8 && (t && list_all is_letter bs)) (letter_known b)
    ∙ ap (λ t. t && (nat_le (length (b ∷ bs)) 8 && list_all is_letter (b ∷ bs))) (sym (le-leb 1 (length (b ∷ bs)) (omega arith)))

-- every sign's bytes are one to eight letters
pub bytes_known : (s : CallSign) → IsTrue (is_sign (sign_bytes s))
bytes_known s = sym (sign_known (sign_bytes s)) ∙ ap is_some (sign_again s)
