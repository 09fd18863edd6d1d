-- Call signs as bytes.
use Rattle.std.specs.Prelude.{ℕ, nat_eq, Bool, ◌&&◌, List, [], ◌∷◌, map, length, take, drop, Some, None, Option, if◌then◌else◌, ◌==◌, nat_le}
use Rattle.std.specs.Option.{option_and_then}
use Rattle.std.specs.declared.cmp.Ordering.{Ordering}
use Rattle.std.specs.Cmp.Lexicographic.{slice_cmp, pointwise}
use Rattle.std.specs.Ordering.{nat_cmp}
use Rattle.raw_bytes.specs.Numbers.{little_endian}
use Rattle.call_signs.specs.Letters.{code, letter_of}
use Rattle.call_signs.specs.Spelling.{padded, zeros, underscored}
use Rattle.call_signs.specs.declared.letter.Letter.{Letter}
use Rattle.call_signs.specs.declared.sign.CallSign.{CallSign}
use Rattle.call_signs.specs.declared.sign.CallSign.TheVariants.{One, Two, Three, Four, Five, Six, Seven, Eight}

-- the bytes of a sign, one for each letter
abbrev pub sign_bytes : CallSign → List ℕ
sign_bytes (One a) = code a ∷ []
sign_bytes (Two a b) = code a ∷ code b ∷ []
sign_bytes (Three a b c) = code a ∷ code b ∷ code c ∷ []
sign_bytes (Four a b c d) = code a ∷ code b ∷ code c ∷ code d ∷ []
sign_bytes (Five a b c d e) = code a ∷ code b ∷ code c ∷ code d ∷ code e ∷ []
sign_bytes (Six a b c d e f) = code a ∷ code b ∷ code c ∷ code d ∷ code e ∷ code f ∷ []
sign_bytes (Seven a b c d e f g) = code a ∷ code b ∷ code c ∷ code d ∷ code e ∷ code f ∷ code g ∷ []
sign_bytes (Eight a b c d e f g h) = code a ∷ code b ∷ code c ∷ code d ∷ code e ∷ code f ∷ code g ∷ code h ∷ []

-- what equality, hash and both comparisons look at: all of the sign's bytes
abbrev pub compared_bytes : CallSign → List ℕ
compared_bytes s = sign_bytes s

abbrev pub same_sign : CallSign → CallSign → Bool
same_sign x y = pointwise nat_eq (compared_bytes x) (compared_bytes y)

-- byte by byte, the shorter first where one begins the other
abbrev pub sign_order : CallSign → CallSign → Ordering
sign_order x y = slice_cmp nat_cmp (compared_bytes x) (compared_bytes y)

-- the compared bytes as one number of eight bytes
abbrev pub sign_hash : CallSign → ℕ
sign_hash s = little_endian 8 (padded (compared_bytes s)) 0

-- the length, then the bytes and zeros
abbrev pub written_sign : CallSign → List ℕ
written_sign s = length (sign_bytes s) ∷ padded (sign_bytes s)

-- a sign with a letter more, unless it has eight
abbrev pub added : CallSign → Letter → Option CallSign
added (One a) l = Some (Two a l)
added (Two a b) l = Some (Three a b l)
added (Three a b c) l = Some (Four a b c l)
added (Four a b c d) l = Some (Five a b c d l)
added (Five a b c d e) l = Some (Six a b c d e l)
added (Six a b c d e f) l = Some (Seven a b c d e f l)
added (Seven a b c d e f g) l = Some (Eight a b c d e f g l)
added (Eight a b c d e f g h) l = None

-- a sign with a letter more for each byte
abbrev pub grown : CallSign → List ℕ → Option CallSign
grown s [] = Some s
grown s (b ∷ bs) = option_and_then (λ l. option_and_then (λ t. grown t bs) (added s l)) (letter_of b)

-- the sign with these bytes, if they are one to eight letters
abbrev pub sign_of : List ℕ → Option CallSign
sign_of [] = None
sign_of (b ∷ bs) = option_and_then (λ l. grown (One l) bs) (letter_of b)

-- nine bytes are read as a sign: a length of at most eight, so many letters, and zeros; and no others
abbrev pub sign_from : List ℕ → Option CallSign
sign_from [] = None
sign_from (n ∷ bs) = if length bs == 8 && (nat_le n 8 && zeros (drop n bs)) then sign_of (take n bs) else None

-- the sign's bytes with `_` for each blank
abbrev pub shown_sign : CallSign → List ℕ
shown_sign s = map underscored (sign_bytes s)
