-- Places of keys among the keys held: what counting a row in, marks and pruning do to them.
use Rattle.std.proofs.Common.{◌≡◌, ℕ, zero, suc, ◌<◌, ◌≤◌, Bool, true, false, cond, not, eqb, ◌⊎◌, List, [], ◌∷◌, map, length, filter, sym, refl, ap, ◌∙◌, inl, inr, suc-le-suc, zero-le, arith}
use Rattle.std.specs.List.{AllByRecursion}
use Rattle.std.proofs.lemmas.Bool.{cases_Bool, cases_lt, eqb-true, eq-eqb}
use Rattle.std.proofs.ByRecursion.{all_kept_by}
use Rattle.std.specs.Cmp.{IsEquivalence}
use Rattle.searchers.specs.declared.rows.Row.{Row}
use Rattle.searchers.specs.declared.rows.Held.{Held}
use Rattle.searchers.specs.Ends.{marked}
use Rattle.tables.specs.Lists.{value_at, place_in, one_more, new_key, counted_in, renumbered}
use Rattle.book.specs.Book.{rows_of}
use Rattle.book.proofs.Basics.{same_truth, all_always, all_with, kept_cong}
use Rattle.book.proofs.Orders.{same_right, other}

-- the held keys that have not ended
abbrev pub going : {K P : Type 0} → List (Held K P) → List (Held K P)
going held = filter (λ e. not e.ended) held

module _ {K P : Type 0} (same : K → K → Bool) where
  -- a key is held, or it is not
  abbrev pub Found : K → List (Held K P) → Type 0
  Found key held = place_in same key held < length held

  abbrev pub Missing : K → List (Held K P) → Type 0
  Missing key held = length held ≤ place_in same key held

  -- no two held keys are the same
  abbrev pub Apart : List (Held K P) → Type 0
  Apart [] = Unit {0}
  Apart (e ∷ held) = AllByRecursion (λ x. same e.key x.key ≡ false) held × Apart held

  -- each of some held keys stands where it is found among all, from p on
  abbrev pub Placed : List (Held K P) → ℕ → List (Held K P) → Type 0
  Placed whole p [] = Unit {0}
  Placed whole p (e ∷ held) = (place_in same e.key whole ≡ p) × Placed whole (suc p) held

pub at_past : {X Y : Type 0} (f : X → Y) (d : Y) (xs : List X) (p : ℕ) → length xs ≤ p → value_at f d xs p ≡ d
at_past f d [] p h = refl
at_past f d (x ∷ xs) zero h = absurd (omega arith)
at_past f d (x ∷ xs) (suc p) h = at_past f d xs p (omega arith)

module _ {K P : Type 0} (same : K → K → Bool) where
  -- what holds of the entry that is found
  pub at_found : {Y : Type 0} (f : Held K P → Y) (d : Y) (Q : Held K P → Type 0) (S : Y → Type 0) (a : K)
      → ((e : Held K P) → Q e → same e.key a ≡ true → S (f e))
      → (held : List (Held K P)) → AllByRecursion Q held → Found same a held → S (value_at f d held (place_in same a held))
  at_found f d Q S a h [] q lt = absurd (omega arith)
  at_found f d Q S a h (e ∷ held) q lt =
      (elim (same e.key a) as (λ b. same e.key a ≡ b → cond b 0 (suc (place_in same a held)) < suc (length held) → S (value_at f d (e ∷ held) (cond b 0 (suc (place_in same a held))))) [
        | true ↦ λ s t. h e q.0 s
        | false ↦ λ s t. at_found f d Q S a h held q.1 (omega arith)
      ]) refl lt

  -- Counting a row in

  pub counted_place : (st : P) (a b : K) (held : List (Held K P)) → Found same a held → place_in same a (counted_in same st b held) ≡ place_in same a held
  counted_place st a b [] lt = absurd (omega arith)
  counted_place st a b (e ∷ held) lt =
      elim (same e.key b) as (λ t. place_in same a (cond t (one_more e ∷ held) (e ∷ counted_in same st b held)) ≡ place_in same a (e ∷ held)) [
        | true ↦ refl
        | false ↦
            (elim (same e.key a) as (λ t. cond t 0 (suc (place_in same a held)) < suc (length held) → cond t 0 (suc (place_in same a (counted_in same st b held))) ≡ cond t 0 (suc (place_in same a held))) [
              | true ↦ λ _. refl
              | false ↦ λ h. ap suc (counted_place st a b held (omega arith))
            ]) lt
      ]

  pub counted_long : (st : P) (b : K) (held : List (Held K P)) → length held ≤ length (counted_in same st b held)
  counted_long st b [] = zero-le
  counted_long st b (e ∷ held) =
      elim (same e.key b) as (λ t. suc (length held) ≤ length (cond t (one_more e ∷ held) (e ∷ counted_in same st b held))) [
        | true ↦ omega arith
        | false ↦ suc-le-suc (counted_long st b held)
      ]

  pub counted_within : (st : P) (b : K) (held : List (Held K P)) → place_in same b held < length (counted_in same st b held)
  counted_within st b [] = omega arith
  counted_within st b (e ∷ held) =
      elim (same e.key b) as (λ t. cond t 0 (suc (place_in same b held)) < length (cond t (one_more e ∷ held) (e ∷ counted_in same st b held))) [
        | true ↦ omega arith
        | false ↦ suc-le-suc (counted_within st b held)
      ]

  pub counted_keys : (Q : K → Type 0) (st : P) (b : K) (held : List (Held K P)) → AllByRecursion (λ e. Q e.key) held → Q b → AllByRecursion (λ e. Q e.key) (counted_in same st b held)
  counted_keys Q st b [] q h = (h, tt)
  counted_keys Q st b (e ∷ held) q h =
      elim (same e.key b) as (λ t. AllByRecursion (λ e. Q e.key) (cond t (one_more e ∷ held) (e ∷ counted_in same st b held))) [ true ↦ q | false ↦ (q.0, counted_keys Q st b held q.1 h) ]

  pub counted_apart : (st : P) (b : K) (held : List (Held K P)) → Apart same held → Apart same (counted_in same st b held)
  counted_apart st b [] q = (tt, tt)
  counted_apart st b (e ∷ held) q =
      (elim (same e.key b) as (λ t. same e.key b ≡ t → Apart same (cond t (one_more e ∷ held) (e ∷ counted_in same st b held))) [
        | true ↦ λ h. q
        | false ↦ λ h. (counted_keys (λ x. same e.key x ≡ false) st b held q.0 h, counted_apart st b held q.1)
      ]) refl

  pub missing_counted : (st : P) (a b : K) (held : List (Held K P)) → same b a ≡ false → Missing same a held → Missing same a (counted_in same st b held)
  missing_counted st a b [] n h = rw n (omega arith)
  missing_counted st a b (e ∷ held) n h =
      elim (cases_Bool (same e.key a)) [
        | inl y ↦ absurd (let h2 : suc (length held) ≤ 0 = rw y at h in omega arith)
        | inr m ↦
            (let h2 : suc (length held) ≤ suc (place_in same a held) = rw m at h in
            elim (cases_Bool (same e.key b)) [
              | inl hit ↦ rw (hit, m) h2
              | inr miss ↦ rw (miss, m) (suc-le-suc (missing_counted st a b held n (omega arith)))
            ])
      ]

  -- Marks

  pub marked_place : (ended : K → Bool) (a : K) (held : List (Held K P)) → place_in same a (map (marked ended) held) ≡ place_in same a held
  marked_place ended a [] = refl
  marked_place ended a (e ∷ held) = ap (λ n. cond (same e.key a) 0 (suc n)) (marked_place ended a held)

  placed_cons : (e : Held K P) (whole : List (Held K P)) (p : ℕ) (held : List (Held K P)) → AllByRecursion (λ x. same e.key x.key ≡ false) held → Placed same whole p held → Placed same (e ∷ whole) (suc p) held
  placed_cons e whole p [] n q = tt
  placed_cons e whole p (x ∷ held) n q = (ap (λ t. cond t 0 (suc (place_in same x.key whole))) n.0 ∙ ap suc q.0, placed_cons e whole (suc p) held n.1 q.1)

  -- The keys that have not ended

  abbrev pub ended_place : List (Held K P) → K → Bool
  ended_place held a = value_at (λ e. e.ended) true held (place_in same a held)

  pub renumbers : (a : K) (held : List (Held K P)) → Found same a held → ended_place held a ≡ false
      → (renumbered held (place_in same a held) ≡ place_in same a (going held)) × Found same a (going held)
  renumbers a [] lt v = absurd (omega arith)
  renumbers a (e ∷ held) lt v =
      elim (cases_Bool (same e.key a)) [
        | inl y ↦
            (let live : e.ended ≡ false = rw y at v in
            rw (y, live) (ap (λ t. cond t 0 (suc (place_in same a (going held)))) (sym y), rw y (omega arith)))
        | inr n ↦
            (let lt2 : suc (place_in same a held) < suc (length held) = rw n at lt in
            let v2 : ended_place held a ≡ false = rw n at v in
            let on = renumbers a held (omega arith) v2 in
            elim (cases_Bool e.ended) [
              | inl dead ↦ rw (n, dead) on
              | inr live ↦ rw (n, live) (rw n (ap suc on.0, suc-le-suc on.1))
            ])
      ]

  -- a key that is not among those that have not ended was not found, or has ended
  pub going_missing : (a : K) (held : List (Held K P)) → Missing same a (going held) → Missing same a held ⊎ (Found same a held × (ended_place held a ≡ true))
  going_missing a held h =
      elim (cases_lt (place_in same a held) (length held)) [
        | inr ge ↦ inl ge
        | inl lt ↦ elim (cases_Bool (ended_place held a)) [ inl t ↦ inr (lt, t) | inr f ↦ absurd (omega (arith, (renumbers a held lt f).1)) ]
      ]

  pub kept_apart : (p : Held K P → Bool) (held : List (Held K P)) → Apart same held → Apart same (filter p held)
  kept_apart p [] q = tt
  kept_apart p (e ∷ held) q =
      elim (p e) as (λ t. Apart same (cond t (e ∷ filter p held) (filter p held))) [
        | true ↦ (all_kept_by p (λ x. same e.key x.key ≡ false) held q.0, kept_apart p held q.1)
        | false ↦ kept_apart p held q.1
      ]

  pub kept_found : (p : Held K P → Bool) (a : K) (held : List (Held K P)) → Found same a (filter p held) → Found same a held
  kept_found p a [] lt = lt
  kept_found p a (e ∷ held) lt =
      elim (cases_Bool (same e.key a)) [
        | inl y ↦ rw y (omega arith)
        | inr n ↦ rw n (suc-le-suc (kept_found p a held
            (elim (cases_Bool (p e)) [
              | inl yp ↦ (let h : suc (place_in same a (filter p held)) < suc (length (filter p held)) = rw n at (rw yp at lt) in omega arith)
              | inr np ↦ rw np at lt
            ])))
      ]

-- by the laws of the equality
module _ {K : Type 0} (same : K → K → Bool) (equality : IsEquivalence same) where
  module _ {P : Type 0} where
    pub place_same : (a b : K) → same a b ≡ true → (held : List (Held K P)) → place_in same a held ≡ place_in same b held
    place_same a b h [] = refl
    place_same a b h (e ∷ held) =
        ap (λ t. cond t 0 (suc (place_in same a held))) (same_right same equality a b e.key h) ∙ ap (λ n. cond (same e.key b) 0 (suc n)) (place_same a b h held)

    -- keys with one place are the same
    place_one : (a b : K) (held : List (Held K P)) → Found same a held → place_in same a held ≡ place_in same b held → same a b ≡ true
    place_one a b [] lt e = absurd (omega arith)
    place_one a b (x ∷ held) lt e =
        elim (cases_Bool (same x.key a)) [
          | inl ya ↦ elim (cases_Bool (same x.key b)) [
            | inl yb ↦ equality.congr a x.key b (equality.symm _ _ ∙ ya) ∙ yb
            | inr nb ↦ absurd (let e2 : ◌≡◌ {A = ℕ} 0 (suc (place_in same b held)) = rw (ya, nb) at e in omega arith)
          ]
          | inr na ↦ elim (cases_Bool (same x.key b)) [
            | inl yb ↦ absurd (let e2 : ◌≡◌ {A = ℕ} (suc (place_in same a held)) 0 = rw (na, yb) at e in omega arith)
            | inr nb ↦
                (let e2 : suc (place_in same a held) ≡ suc (place_in same b held) = rw (na, nb) at e in
                let lt2 : suc (place_in same a held) < suc (length held) = rw na at lt in
                place_one a b held (omega arith) (omega arith))
          ]
        ]

    pub eqb_place : (a b : K) (held : List (Held K P)) → Found same b held → eqb (place_in same a held) (place_in same b held) ≡ same a b
    eqb_place a b held lt = same_truth _ _
        (λ h. equality.symm a b ∙ (place_one b a held lt (sym (eqb-true _ _ h))))
        (λ h. eq-eqb _ _ (place_same a b h held))

    pub counted_self : (st : P) (b : K) (held : List (Held K P)) → place_in same b (counted_in same st b held) ≡ place_in same b held
    counted_self st b [] = ap (λ t. cond t 0 1) (equality.refl b)
    counted_self st b (e ∷ held) =
        (elim (same e.key b) as (λ t. same e.key b ≡ t → place_in same b (cond t (one_more e ∷ held) (e ∷ counted_in same st b held)) ≡ cond t 0 (suc (place_in same b held))) [
          | true ↦ λ h. ap (λ t. cond t 0 (suc (place_in same b held))) h
          | false ↦ λ h. ap (λ t. cond t 0 (suc (place_in same b (counted_in same st b held)))) h ∙ ap suc (counted_self st b held)
        ]) refl

    -- what holds of every entry, from what holds of that which is counted up, of the others, and of a new one
    pub counted_all : (Q S : Held K P → Type 0) (st : P) (b : K)
        → ((e : Held K P) → same e.key b ≡ true → Q e → S (one_more e))
        → ((e : Held K P) → same e.key b ≡ false → Q e → S e)
        → (held : List (Held K P)) → (Missing same b held → S (new_key st b))
        → Apart same held → AllByRecursion Q held → AllByRecursion S (counted_in same st b held)
    counted_all Q S st b hit miss [] new apart q = (new zero-le, tt)
    counted_all Q S st b hit miss (e ∷ held) new apart q =
        elim (cases_Bool (same e.key b)) [
          | inl here ↦ rw here
              (hit e here q.0, all_with Q (λ x. same e.key x.key ≡ false) S (λ x p n. miss x (other same equality e.key b x.key here n) p) held q.1 apart.0)
          | inr there ↦ rw there (miss e there q.0, counted_all Q S st b hit miss held (λ h. new (rw there (suc-le-suc h))) apart.1 q.1)
        ]

    -- a key that is not found after another was counted in was not found before
    pub counted_missing : (st : P) (a b : K) (held : List (Held K P)) → Missing same a (counted_in same st b held) → Missing same a held × (same b a ≡ false)
    counted_missing st a b held h = (
      elim (cases_lt (place_in same a held) (length held)) [
        | inl lt ↦ absurd (omega (arith, counted_place same st a b held lt, counted_long same st b held))
        | inr ge ↦ ge
      ],
      elim (cases_Bool (same b a)) [
        | inl y ↦ absurd (omega (arith, place_same b a y (counted_in same st b held), counted_self st b held, counted_within same st b held))
        | inr n ↦ n
      ],
    )

    pub placed : (held : List (Held K P)) → Apart same held → Placed same held 0 held
    placed [] q = tt
    placed (e ∷ held) q = (ap (λ t. cond t 0 (suc (place_in same e.key held))) (equality.refl e.key), placed_cons same e held 0 held q.0 (placed held q.1))

  pub rows_same : (a b : K) → same a b ≡ true → (rows : List (Row K)) → rows_of same a rows ≡ rows_of same b rows
  rows_same a b h rows = kept_cong _ _ rows (all_always (λ r. same r.key a ≡ same r.key b) (λ r. same_right same equality a b r.key h) rows)
