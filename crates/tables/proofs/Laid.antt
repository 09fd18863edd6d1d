-- A table's places as they are laid out from a list, and edits of them.
use Rattle.std.proofs.Common.{◌≡◌, ℕ, zero, suc, ◌+◌, ◌-◌, ◌<◌, ◌≤◌, List, [], ◌∷◌, ◌++◌, map, length, get_or, take, drop, set, replicate, Some, None, Option, sym, refl, ap, ◌∙◌, arith, length-append, length-set, length-take-le, length-drop}
use lib.ListN.{length-map, length-replicate}
use lib.Seq.{paste}
use Rattle.std.specs.List.{slice_get}
use Rattle.std.proofs.lemmas.List.{append-nil, append_assoc, map-append, map-set, set-append_left, get_or_append_left, length_push, take_at, take-append-le, take-map, drop_at, drop-append-le, drop-map, replicate-append-replicate}
use Rattle.tables.specs.Places.{somes, laid}

somes_front : {X : Type 0} (xs : List X) (places : List (Option X)) → somes (map Some xs ++ places) ≡ xs ++ somes places
somes_front [] places = refl
somes_front (x ∷ xs) places = ap (λ l. x ∷ l) (somes_front xs places)

somes_blank : {X : Type 0} (n : ℕ) → somes (replicate {A = Option X} n None) ≡ []
somes_blank zero = refl
somes_blank (suc n) = somes_blank n

somes_laid : {X : Type 0} (n : ℕ) (xs : List X) → somes (laid n xs) ≡ xs
somes_laid n xs = somes_front xs (replicate (n - length xs) None) ∙ ap (λ l. xs ++ l) (somes_blank (n - length xs)) ∙ append-nil xs

pub blank_laid : {X : Type 0} (n : ℕ) → replicate {A = Option X} n None ≡ laid n []
blank_laid n = let all : n ≡ n - 0 = omega arith in ap (λ k. replicate k None) all

-- places that are laid out from a list hold it, and so are laid out from what they hold
pub somes_of : {X : Type 0} (n : ℕ) (places : List (Option X)) (xs : List X) → places ≡ laid n xs → somes places ≡ xs
somes_of n places xs e = ap somes e ∙ somes_laid n xs

pub laid_own : {X : Type 0} (n : ℕ) (places : List (Option X)) (xs : List X) → places ≡ laid n xs → places ≡ laid n (somes places)
laid_own n places xs e = e ∙ ap (laid n) (sym (somes_of n places xs e))

pub laid_table : {X : Type 0} (n : ℕ) (places : List (Option X)) (xs : List X) {len : ℕ} → places ≡ laid n xs → len ≡ length xs → len ≤ n
    → record { packed : places ≡ laid n (somes places); count : len ≡ length (somes places); few : len ≤ n }
laid_table n places xs e long few = record { packed = laid_own n places xs e; count = long ∙ sym (ap length (somes_of n places xs e)); few = few }

pub laid_size : {X : Type 0} (n : ℕ) (xs : List X) → length xs ≤ n → length (laid n xs) ≡ n
laid_size {X} n xs h =
    let front : List (Option X) = map Some xs in
    let blank : List (Option X) = replicate (n - length xs) None in
    let a : length front ≡ length xs = length-map xs Some in
    let b : length blank ≡ n - length xs = length-replicate (n - length xs) None in
    let c = length-append front blank in
    omega arith

pub set_laid : {X : Type 0} (n : ℕ) (xs : List X) (i : ℕ) (x : X) → i < length xs → set (laid n xs) i (Some x) ≡ laid n (set xs i x)
set_laid {X} n xs i x h =
    let blank : List (Option X) = replicate (n - length xs) None in
    set-append_left (map Some xs) blank i (Some x) (simp length-map h)
    ∙ ap (λ l. l ++ blank) (sym (map-set Some xs i x))
    ∙ ap (λ k. map Some (set xs i x) ++ replicate (n - k) None) (sym (length-set xs i x))

push_front : {X : Type 0} (xs : List X) (k : ℕ) (x : X) → set (map Some xs ++ replicate (suc k) None) (length xs) (Some x) ≡ map Some (xs ++ x ∷ []) ++ replicate k None
push_front [] k x = refl
push_front (y ∷ ys) k x = ap (λ l. Some y ∷ l) (push_front ys k x)

pub push_laid : {X : Type 0} (n : ℕ) (xs : List X) (x : X) → length xs < n → set (laid n xs) (length xs) (Some x) ≡ laid n (xs ++ x ∷ [])
push_laid n xs x h =
    let blank : n - length xs ≡ suc (n - length (xs ++ x ∷ [])) = omega (arith, length_push xs x) in
    ap (λ k. set (map Some xs ++ replicate k None) (length xs) (Some x)) blank
    ∙ push_front xs (n - length (xs ++ x ∷ [])) x

pub front_get : {X : Type 0} (xs : List X) (i : ℕ) (o : Option X) → i < length xs → o ≡ get_or (map Some xs) i o → o ≡ slice_get xs i
front_get [] i o h e = absurd (omega arith)
front_get (x ∷ xs) zero o h e = e
front_get (x ∷ xs) (suc i) o h e = let k : i < length xs = omega arith in front_get xs i o k e

-- what is read below the length
pub laid_get : {X : Type 0} (n : ℕ) (xs : List X) (i : ℕ) (o : Option X) → i < length xs → o ≡ get_or (laid n xs) i o → o ≡ slice_get xs i
laid_get n xs i o h e =
    front_get xs i o h (e ∙ get_or_append_left (map Some xs) (replicate (n - length xs) None) o i (simp length-map h))

-- the front of what is laid out, and what is behind it
pub take_laid : {X : Type 0} (n : ℕ) (xs : List X) (k : ℕ) → k ≤ length xs → take k (laid n xs) ≡ map Some (take k xs)
take_laid n xs k h = take-append-le k (map Some xs) (replicate (n - length xs) None) (simp length-map h) ∙ take-map Some k xs

pub drop_laid : {X : Type 0} (n : ℕ) (xs : List X) (k : ℕ) → k ≤ length xs → drop k (laid n xs) ≡ map Some (drop k xs) ++ replicate (n - length xs) None
drop_laid n xs k h =
    drop-append-le k (map Some xs) (replicate (n - length xs) None) (simp length-map h)
    ∙ ap (λ l. l ++ replicate (n - length xs) None) (drop-map Some k xs)

-- the places from k on, up to the length, made blank
pub cut_laid : {X : Type 0} (n : ℕ) (xs : List X) (k : ℕ) → k ≤ length xs → length xs ≤ n
    → take k (laid n xs) ++ (replicate (length xs - k) None ++ drop (length xs - k) (drop k (laid n xs))) ≡ laid n (take k xs)
cut_laid {X} n xs k h few =
    let behind : List (Option X) = replicate (n - length xs) None in
    let back : List (Option X) = map Some (drop k xs) in
    let long : length back ≡ length xs - k = length-map (drop k xs) Some ∙ length-drop k xs in
    let all : (length xs - k) + (n - length xs) ≡ n - length (take k xs) = omega (arith, length-take-le k xs h) in
    ap (λ l. l ++ (replicate (length xs - k) None ++ drop (length xs - k) (drop k (laid n xs)))) (take_laid n xs k h)
    ∙ ap (λ l. map Some (take k xs) ++ (replicate (length xs - k) None ++ l)) (ap (drop (length xs - k)) (drop_laid n xs k h) ∙ drop_at back behind (length xs - k) long)
    ∙ ap (λ l. map Some (take k xs) ++ l) (replicate-append-replicate {A = Option X} (length xs - k) (n - length xs) None ∙ ap (λ m. replicate {A = Option X} m None) all)

-- the places from k on, up to the length, copied to the front
pub shift_laid : {X : Type 0} (n : ℕ) (xs : List X) (k m : ℕ) → k + m ≡ length xs → paste (laid n xs) 0 (drop k (laid n xs)) m ≡ laid n (drop k xs ++ drop m xs)
shift_laid {X} n xs k m both =
    let behind : List (Option X) = replicate (n - length xs) None in
    let low : k ≤ length xs = omega arith in
    let less : m ≤ length xs = omega arith in
    let long : length (map Some (drop k xs)) ≡ m = length-map (drop k xs) Some ∙ length-drop k xs ∙ omega arith in
    let none : 0 + m ≡ m = omega arith in
    let same : length xs ≡ length (drop k xs ++ drop m xs) = omega (arith, length-append (drop k xs) (drop m xs), length-drop k xs, length-drop m xs) in
    ap (λ j. take m (drop k (laid n xs)) ++ drop j (laid n xs)) none
    ∙ ap (λ l. take m l ++ drop m (laid n xs)) (drop_laid n xs k low)
    ∙ ap (λ l. l ++ drop m (laid n xs)) (take_at (map Some (drop k xs)) behind m long)
    ∙ ap (λ l. map Some (drop k xs) ++ l) (drop_laid n xs m less)
    ∙ sym (append_assoc (map Some (drop k xs)) (map Some (drop m xs)) behind)
    ∙ ap (λ l. l ++ behind) (sym (map-append Some (drop k xs) (drop m xs)))
    ∙ ap (λ j. map Some (drop k xs ++ drop m xs) ++ replicate (n - j) None) same
