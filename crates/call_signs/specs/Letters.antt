-- The letters of a call sign as bytes: A to Z, 0 to 9 and the blank, in ASCII.
use Rattle.std.specs.Prelude.{ℕ, Bool, ◌&&◌, ◌||◌, List, [], ◌∷◌, Some, None, Option, if◌then◌else◌, ◌==◌, nat_le}
use Rattle.call_signs.specs.declared.letter.Letter.{Letter}
use Rattle.call_signs.specs.declared.letter.Letter.TheVariants.{Blank, N0, N1, N2, N3, N4, N5, N6, N7, N8, N9, A, B, C, D, E, F, G, H, I, J, K, L, M, N, O, P, Q, R, S, T, U, V, W, X, Y, Z}

abbrev pub code : Letter → ℕ
code Blank = 32
code N0 = 48
code N1 = 49
code N2 = 50
code N3 = 51
code N4 = 52
code N5 = 53
code N6 = 54
code N7 = 55
code N8 = 56
code N9 = 57
code A = 65
code B = 66
code C = 67
code D = 68
code E = 69
code F = 70
code G = 71
code H = 72
code I = 73
code J = 74
code K = 75
code L = 76
code M = 77
code N = 78
code O = 79
code P = 80
code Q = 81
code R = 82
code S = 83
code T = 84
code U = 85
code V = 86
code W = 87
code X = 88
code Y = 89
code Z = 90

-- all letters, in the order of their bytes
abbrev pub letters : List Letter
letters = Blank ∷ N0 ∷ N1 ∷ N2 ∷ N3 ∷ N4 ∷ N5 ∷ N6 ∷ N7 ∷ N8 ∷ N9 ∷ A ∷ B ∷ C ∷ D ∷ E ∷ F ∷ G ∷ H ∷ I ∷ J ∷ K ∷ L ∷ M ∷ N ∷ O ∷ P ∷ Q ∷ R ∷ S ∷ T ∷ U ∷ V ∷ W ∷ X ∷ Y ∷ Z ∷ []

-- the first of some letters with the byte b
abbrev pub with_byte : ℕ → List Letter → Option Letter
with_byte b [] = None
with_byte b (l ∷ ls) = if code l == b then Some l else with_byte b ls

abbrev pub letter_of : ℕ → Option Letter
letter_of b = with_byte b letters

-- the bytes that are letters: the blank, 0 to 9 and A to Z
abbrev pub is_letter : ℕ → Bool
is_letter b = b == 32 || (nat_le 48 b && nat_le b 57 || nat_le 65 b && nat_le b 90)
