-- Loops that write f of each element, over it or elsewhere.
use Rattle.std.proofs.Common.{◌≡◌, ℕ, ◌+◌, ◌<◌, ◌≤◌, List, [], ◌∷◌, ◌++◌, map, length, get_or, take, drop, set, sym, ap, ◌∙◌, arith, length-set}
use lib.ListN.{length-map}
use Rattle.std.proofs.lemmas.List.{append_assoc, append-nil, drop_all, drop_more, set_at, map_more, length-take-le, take_all}
use Rattle.std.proofs.lemmas.List.Edits.{map_over_more}

-- xs have become ys, over which f is written: the first i elements are changed
pub record Over {X : Type 0} (f : X → X) (xs ys : List X) (i : ℕ) : Type 0 where
  pub is : ys ≡ map f (take i xs) ++ drop i xs
  pub long : length ys ≡ length xs

pub over_more : {X : Type 0} {f : X → X} {xs ys zs : List X} (i : ℕ) (x : X) → Over f xs ys i → i < length xs → x ≡ get_or ys i x → zs ≡ set ys i (f x) → Over f xs zs (i + 1)
over_more {X} {f} {xs} {ys} {zs} i x o h e z = record {
  is = z ∙ map_over_more f xs ys i x h o.is e;
  long = ap length z ∙ length-set ys i (f x) ∙ o.long;
}

pub over_all : {X : Type 0} {f : X → X} {xs ys : List X} (i : ℕ) → Over f xs ys i → length xs ≤ i → ys ≡ map f xs
over_all {X} {f} {xs} {ys} i o h =
    o.is ∙ ap (λ l. map f l ++ drop i xs) (take_all i xs h) ∙ ap (λ l. map f xs ++ l) (drop_all i xs h) ∙ append-nil (map f xs)

-- a loop that writes f of each element of xs to the front of ys
pub copy_more : {X Y : Type 0} (f : X → Y) (xs : List X) (ys : List Y) (i : ℕ) (x : X) → i < length xs → i < length ys → x ≡ get_or xs i x
    → set (map f (take i xs) ++ drop i ys) i (f x) ≡ map f (take (i + 1) xs) ++ drop (i + 1) ys
copy_more {X} {Y} f xs ys i x h k e =
    let front : List Y = map f (take i xs) in
    let long : length front ≡ i = length-map (take i xs) f ∙ length-take-le i xs (omega arith) in
    ap (λ l. set (front ++ l) i (f x)) (drop_more ys i (f x) k)
    ∙ set_at front (get_or ys i (f x)) (drop (i + 1) ys) (f x) i long
    ∙ sym (append_assoc front (f x ∷ []) (drop (i + 1) ys))
    ∙ ap (λ (y : X). (front ++ f y ∷ []) ++ drop (i + 1) ys) e
    ∙ ap (λ l. l ++ drop (i + 1) ys) (sym (map_more f xs i x h))

-- one turn of that loop
pub copy_turn : {X Y : Type 0} (f : X → Y) (xs : List X) (ys : List Y) {zs there : List Y} {i at j : ℕ} {x : X} → zs ≡ map f (take i xs) ++ drop i ys → at ≡ i → i < length xs → i < length ys → x ≡ get_or xs i x
    → there ≡ set zs at (f x) → j ≡ i + 1 → there ≡ map f (take j xs) ++ drop j ys
copy_turn {X} {Y} f xs ys {zs} {there} {i} {at} {j} {x} so_far here h k e made on =
    made
    ∙ ap (λ p. set zs p (f x)) here
    ∙ ap (λ (o : List Y). set o i (f x)) so_far
    ∙ copy_more f xs ys i x h k e
    ∙ ap (λ m. map f (take m xs) ++ drop m ys) (sym on)

-- and its end
pub copy_end : {X Y : Type 0} (f : X → Y) (xs : List X) (ys : List Y) {zs : List Y} {i n : ℕ} → zs ≡ map f (take i xs) ++ drop i ys → i ≡ n → zs ≡ map f (take n xs) ++ drop n ys
copy_end f xs ys so_far all = so_far ∙ ap (λ k. map f (take k xs) ++ drop k ys) all
