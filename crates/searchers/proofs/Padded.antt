-- Lists of 256 places, whose unused places hold 256, and one place more.
use Rattle.std.proofs.Common.{◌≡◌, ℕ, suc, ◌+◌, ◌-◌, ◌<◌, List, [], ◌∷◌, ◌++◌, length, take, set, replicate, sym, refl, ap, ◌∙◌, arith}
use Rattle.std.proofs.lemmas.List.{append_assoc, length_push, set_at, length-set, length-take-le, take_more_set}
use Rattle.searchers.specs.Groups.{padded, Laid}

padded_set : (xs : List ℕ) (n y : ℕ) → length xs ≡ n → n < 256 → set (padded xs) n y ≡ padded (xs ++ (y ∷ []))
padded_set xs n y long few =
    let rest = 256 - length (xs ++ (y ∷ [])) in
    let one_less : 256 - length xs ≡ suc rest = omega (arith, length_push xs y) in
    ap (λ k. set (xs ++ replicate k 256) n y) one_less ∙ set_at xs 256 (replicate rest 256) y n long ∙ sym (append_assoc xs (y ∷ []) (replicate rest 256))

pub padded_more : (xs : List ℕ) (n y : ℕ) → n < 256 → length xs ≡ 256 → xs ≡ padded (take n xs) → set xs n y ≡ padded (take (n + 1) (set xs n y))
padded_more xs n y few wide laid =
    ap (λ l. set l n y) laid
    ∙ padded_set (take n xs) n y (length-take-le n xs (omega (arith, wide))) few
    ∙ ap padded (sym (take_more_set xs n y (omega (arith, wide))))

pub laid_none : Laid (replicate 256 256) 0
laid_none = record { wide = refl; few = omega arith; rest = refl }

pub laid_more : {xs : List ℕ} {n : ℕ} → Laid xs n → (y : ℕ) → n < 256 → Laid (set xs n y) (n + 1)
laid_more {xs} {n} laid y few = record { wide = length-set xs n y ∙ laid.wide; few = omega arith; rest = padded_more xs n y few laid.wide laid.rest }

pub laid_used : {xs : List ℕ} {n : ℕ} → Laid xs n → length (take n xs) ≡ n
laid_used {xs} {n} laid = length-take-le n xs (omega (arith, laid.wide, laid.few))
