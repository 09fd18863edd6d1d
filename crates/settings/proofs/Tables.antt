-- What a number names in the tables of letters, columns and modes.
use Rattle.std.proofs.Common.{◌≡◌, ℕ, cond, List, [], ◌∷◌, Some, None, Option, sym, refl, ap, ◌∙◌}
use Rattle.std.proofs.lemmas.Bool.{ne_eqb}
use Rattle.figures.specs.declared.cells.Column.{Column}
use Rattle.figures.specs.declared.cells.Column.TheVariants.{C0, C1, C2, C3}
use Rattle.figures.specs.declared.letters.Letter.{Letter}
use Rattle.figures.specs.declared.letters.Letter.TheVariants as letter
use Rattle.figures.specs.Named.{place, code, Names}
use Rattle.settings.specs.Given.{named, letters, columns}

-- a number that is none's names nothing
none_named : {X : Type 0} (number : X → ℕ) (xs : List X) (n : ℕ) → ((x : X) → number x ≡ n → ⊥) → named number xs n ≡ None
none_named number [] n none = refl
none_named number (x ∷ xs) n none = ap (λ b. cond b (Some x) (named number xs n)) (ne_eqb (number x) n (none x)) ∙ none_named number xs n none

-- where each is named by its own number, what a number names is what the table says
named_is : {X : Type 0} (number : X → ℕ) (xs : List X) → ((x : X) → named number xs (number x) ≡ Some x) → (n : ℕ) (r : Option X) → Names number n r → r ≡ named number xs n
named_is number xs own n None none = sym (none_named number xs n none)
named_is number xs own n (Some x) is = sym (own x) ∙ ap (named number xs) is

letter_named : (l : Letter) → named code letters (code l) ≡ Some l
letter_named letter.RowNumber = refl
letter_named letter.RunningSum = refl
letter_named letter.Rows = refl
letter_named letter.Present = refl
letter_named letter.Sum = refl
letter_named letter.Lowest = refl
letter_named letter.Highest = refl
letter_named letter.First = refl
letter_named letter.Last = refl
letter_named letter.Earlier = refl
letter_named letter.Later = refl
letter_named letter.Mean = refl

column_named : (c : Column) → named place columns (place c) ≡ Some c
column_named C0 = refl
column_named C1 = refl
column_named C2 = refl
column_named C3 = refl

pub letter_is : (n : ℕ) (r : Option Letter) → Names code n r → r ≡ named code letters n
letter_is = named_is code letters letter_named

pub column_is : (n : ℕ) (r : Option Column) → Names place n r → r ≡ named place columns n
column_is = named_is place columns column_named
