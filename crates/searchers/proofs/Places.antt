-- What `place` finds. Assumes nothing.
use Rattle.std.proofs.Common.{◌≡◌, ℕ, zero, suc, ◌<◌, ◌≤◌, Bool, true, false, cond, List, [], ◌∷◌, ◌++◌, map, length, get_or, sym, refl, ap, ◌∙◌, inl, inr, suc-le-suc, arith}
use Rattle.searchers.specs.Groups.{place, noticed}
use Rattle.searchers.specs.Table.{picked, Inside}
use Rattle.searchers.specs.Order.{keys_of}
use Rattle.searchers.specs.declared.rows.Row.{Row}
use Rattle.std.proofs.lemmas.Bool.{cases_lt, lt-ltb, le-ltb}
use Rattle.std.proofs.lemmas.List.{length_push, get_or_push, get_or_append_left, length-map, get_or-map, map_push, get_or_default}

module _ {K : Type 0} (same : K → K → Bool) where
  pub noticed_new : (k : K) (seen : List K) → place same k seen ≡ length seen → noticed same k seen ≡ seen ++ k ∷ []
  noticed_new k seen e = ap (λ b. cond b seen (seen ++ k ∷ [])) (le-ltb (place same k seen) (length seen) (omega arith))

  pub noticed_old : (k : K) (seen : List K) → place same k seen < length seen → noticed same k seen ≡ seen
  noticed_old k seen e = ap (λ b. cond b seen (seen ++ k ∷ [])) (lt-ltb (place same k seen) (length seen) e)

  pub place_none : (k : K) (seen : List K) (d : K) → ((h : ℕ) → h < length seen → same (get_or seen h d) k ≡ false) → place same k seen ≡ length seen
  place_none k [] d none = refl
  place_none k (s ∷ ss) d none =
      let here : same s k ≡ false = none 0 (omega arith) in
      rw here (ap suc (place_none k ss d (λ h lt. none (suc h) (suc-le-suc lt))))

  pub place_is : (k : K) (seen : List K) (g : ℕ) (d : K) → g < length seen → same (get_or seen g d) k ≡ true → ((h : ℕ) → h < g → same (get_or seen h d) k ≡ false) → place same k seen ≡ g
  place_is k [] g d lt here before = omega arith
  place_is k (s ∷ ss) zero d lt here before = rw here refl
  place_is k (s ∷ ss) (suc g) d lt here before =
      let first : same s k ≡ false = before 0 (omega arith) in
      rw first (ap suc (place_is k ss g d (omega arith) here (λ h l. before (suc h) (suc-le-suc l))))

  pub before_place : (k : K) (seen : List K) (g : ℕ) (d : K) → g < place same k seen → same (get_or seen g d) k ≡ false
  before_place k [] g d lt = absurd (omega arith)
  before_place k (s ∷ ss) g d lt =
      (elim (same s k) as (λ b. same s k ≡ b → g < cond b 0 (suc (place same k ss)) → same (get_or (s ∷ ss) g d) k ≡ false) [
        | true ↦ λ e l. absurd (omega arith)
        | false ↦ λ e l. (elim g as (λ n. n < suc (place same k ss) → same (get_or (s ∷ ss) n d) k ≡ false) [ zero ↦ λ m. e | suc n ↦ λ m. before_place k ss n d (omega arith) ]) l
      ]) refl lt

-- the keys at some places
module _ {K : Type 0} where
  pub length_picked : (ks : List K) (ps : List ℕ) → 0 < length ks → length (picked ks ps) ≡ length ps
  length_picked [] ps h = absurd (omega arith)
  length_picked (k ∷ ks) ps h = length-map ps (λ p. get_or (k ∷ ks) p k)

  pub picked_none : (ks : List K) → picked ks [] ≡ []
  picked_none [] = refl
  picked_none (k ∷ ks) = refl

  pub picked_at : (ks : List K) (ps : List ℕ) (g : ℕ) (d e : K) → g < length ps → get_or ps g 0 < length ks → get_or (picked ks ps) g d ≡ get_or ks (get_or ps g 0) e
  picked_at [] ps g d e h l = absurd (omega arith)
  picked_at (k ∷ ks) ps g d e h l = get_or-map (λ p. get_or (k ∷ ks) p k) ps g 0 d h ∙ get_or_default (k ∷ ks) (get_or ps g 0) k e l

  pub picked_push : (ks : List K) (ps : List ℕ) (p : ℕ) (e : K) → p < length ks → picked ks (ps ++ p ∷ []) ≡ picked ks ps ++ get_or ks p e ∷ []
  picked_push [] ps p e l = absurd (omega arith)
  picked_push (k ∷ ks) ps p e l = map_push (λ p. get_or (k ∷ ks) p k) ps p ∙ ap (λ x. map (λ p. get_or (k ∷ ks) p k) ps ++ x ∷ []) (get_or_default (k ∷ ks) p k e l)

pub inside_push : (n p : ℕ) (ps : List ℕ) → Inside n ps → p < n → Inside n (ps ++ p ∷ [])
inside_push n p ps inside low g h =
    elim (cases_lt g (length ps)) [
      | inl old ↦ rw (get_or_append_left ps (p ∷ []) 0 g old) (inside g old)
      | inr last ↦ (let e : length ps ≡ g = omega (arith, length_push ps p) in rw (get_or_push ps p 0 g e) low)
    ]

pub key_at : {K : Type 0} (rows : List (Row K)) (i : ℕ) (d : K) (r : Row K) → i < length rows → get_or (keys_of rows) i d ≡ (get_or rows i r).key
key_at rows i d r h = get_or-map (λ r. r.key) rows i r d h

pub key_read : {K : Type 0} (rows : List (Row K)) (i : ℕ) (r : Row K) → i < length rows → r ≡ get_or rows i r → r.key ≡ get_or (keys_of rows) i r.key
key_read rows i r h read = ap (λ x. x.key) read ∙ sym (key_at rows i r.key r h)

pub key_within : {K : Type 0} (rows : List (Row K)) (i : ℕ) → i < length rows → i < length (keys_of rows)
key_within rows i h = omega (arith, length-map rows (λ r. r.key))

pub keys_past : {K : Type 0} (rows : List (Row K)) (i : ℕ) → length rows ≤ i → length (keys_of rows) ≤ i
keys_past rows i h = omega (arith, length-map rows (λ r. r.key))
