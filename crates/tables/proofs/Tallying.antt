-- How many different keys there are, from the first rows of groups.
use Rattle.std.proofs.Common.{◌≡◌, ℕ, suc, ◌+◌, ◌-◌, ◌<◌, ◌≤◌, Bool, true, false, cond, ◌||◌, ltb, List, [], ◌∷◌, ◌++◌, length, get_or, take, drop, replicate, sym, refl, ap, ◌∙◌, inl, inr, arith}
use lib.ListN.{length-map}
use Rattle.std.specs.List.{AllByRecursion}
use Rattle.std.proofs.ByRecursion.{All-get_or}
use Rattle.std.proofs.lemmas.List.{append_assoc, length_push, take_at, at_drop_more, at_drop_all}
use Rattle.std.proofs.lemmas.Bool.{cases_Bool, cases_lt, lt-ltb, le-ltb, cond_both}
use Rattle.std.specs.Cmp.{IsEquivalence}
use Rattle.searchers.specs.Groups.{place, noticed, group_firsts, padded, grouped}
use Rattle.searchers.specs.declared.groups.Groups.{Groups}
use Rattle.searchers.specs.Order.{keys_of}
use Rattle.searchers.specs.declared.rows.Row.{Row}
use Rattle.searchers.proofs.Places.{noticed_new, noticed_old}
use Rattle.tables.specs.Lists.{value_at, distinct}
use Rattle.tables.proofs.Holding.{value_read}
use Rattle.tables.proofs.Keys.{place_by, place_le, same_alike}

or_false : (a : Bool) → a ≡ (a || false)
or_false true = refl
or_false false = refl

or_true : (a : Bool) → (a || true) ≡ true
or_true true = refl
or_true false = refl

or_assoc : (a b c : Bool) → ((a || b) || c) ≡ (a || (b || c))
or_assoc true b c = refl
or_assoc false b c = refl

cond_or : (a b : Bool) → ◌≡◌ {A = ℕ} (cond (a || b) 0 1) (cond b 0 (cond a 0 1))
cond_or true true = refl
cond_or true false = refl
cond_or false true = refl
cond_or false false = refl

value_behind : {X Y : Type 0} (f : X → Y) (d : Y) (front : List X) (x : X) (xs : List X) (i : ℕ) → length front ≡ i → value_at f d (front ++ x ∷ xs) i ≡ f x
value_behind f d [] x xs i e = ap (value_at f d (x ∷ xs)) (sym e)
value_behind f d (y ∷ ys) x xs i e = ap (value_at f d (y ∷ (ys ++ x ∷ xs))) (sym e) ∙ value_behind f d ys x xs (length ys) refl

padded_front : (xs : List ℕ) → take (length xs) (padded xs) ≡ xs
padded_front xs = take_at xs (replicate (256 - length xs) 256) (length xs) refl

module _ {K : Type 0} (same : K → K → Bool) where
  -- whether a key is among some
  abbrev pub among : K → List K → Bool
  among k [] = false
  among k (s ∷ ss) = same s k || among k ss

  pub among_low : (k : K) (ss : List K) → place same k ss < length ss → among k ss ≡ true
  among_low k [] h = absurd (omega arith)
  among_low k (s ∷ ss) h =
      elim (cases_Bool (same s k)) [
        | inl t ↦ ap (λ b. b || among k ss) t
        | inr f ↦
            let g : place same k ss < length ss = omega (arith, place_by same k s ss false f) in
            ap (λ b. b || among k ss) f ∙ among_low k ss g
      ]

  pub among_past : (k : K) (ss : List K) → length ss ≤ place same k ss → among k ss ≡ false
  among_past k [] h = refl
  among_past k (s ∷ ss) h =
      elim (cases_Bool (same s k)) [
        | inl t ↦ absurd (omega (arith, place_by same k s ss true t))
        | inr f ↦
            let g : length ss ≤ place same k ss = omega (arith, place_by same k s ss false f) in
            ap (λ b. b || among k ss) f ∙ among_past k ss g
      ]

  found : (k : K) (ss : List K) → ltb (place same k ss) (length ss) ≡ among k ss
  found k ss =
      elim (cases_lt (place same k ss) (length ss)) [
        | inl low ↦ lt-ltb (place same k ss) (length ss) low ∙ sym (among_low k ss low)
        | inr past ↦ le-ltb (place same k ss) (length ss) past ∙ sym (among_past k ss past)
      ]

  length_noticed : (k : K) (ss : List K) → length (noticed same k ss) ≡ length ss + cond (among k ss) 0 1
  length_noticed k ss =
      elim (cases_lt (place same k ss) (length ss)) [
        | inl low ↦ omega (arith, ap length (noticed_old same k ss low), ap {B = ℕ} (λ b. cond b 0 1) (among_low k ss low))
        | inr past ↦
            let last : place same k ss ≡ length ss = omega (arith, place_le same k ss) in
            omega (arith, ap length (noticed_new same k ss last), length_push ss k, ap {B = ℕ} (λ b. cond b 0 1) (among_past k ss past))
      ]

  among_push : (j : K) (ss : List K) (k : K) → among j (ss ++ k ∷ []) ≡ (among j ss || same k j)
  among_push j [] k = sym (or_false (same k j))
  among_push j (s ∷ ss) k = ap (λ b. same s j || b) (among_push j ss k) ∙ sym (or_assoc (same s j) (among j ss) (same k j))

  module _ (held : List K) (batch : List (Row K)) where
    -- whether the key of the row at a place is held
    abbrev pub held_at : ℕ → Bool
    held_at p = value_at (λ r. among r.key held) true batch p

    -- how many of some rows have a key that is not held
    abbrev pub tally : List ℕ → ℕ
    tally [] = 0
    tally (p ∷ ps) = cond (held_at p) 0 1 + tally ps

    tally_cond : (b : Bool) (i : ℕ) (rest : List ℕ) → tally (cond b rest (i ∷ rest)) ≡ cond b 0 (cond (held_at i) 0 1) + tally rest
    tally_cond true i rest = omega arith
    tally_cond false i rest = refl

    -- one first row on
    pub tally_step : (ps : List ℕ) (g : ℕ) (row : Row K) → g < length ps → get_or ps g 0 < length batch → row ≡ get_or batch (get_or ps g 0) row
        → tally (drop g ps) ≡ cond (among row.key held) 0 1 + tally (drop (g + 1) ps)
    tally_step ps g row h low is =
        at_drop_more tally ps g 0 h
        ∙ ap (λ b. cond b 0 1 + tally (drop (g + 1) ps)) (sym (value_read (λ r. among r.key held) true batch (get_or ps g 0) row low is))

    pub tally_end : (ps : List ℕ) (g : ℕ) → length ps ≤ g → tally (drop g ps) ≡ 0
    tally_end ps g h = at_drop_all tally ps g h

  module _ (equality : IsEquivalence same) where
    among_alike : (s k : K) → same s k ≡ true → (ss : List K) → among k ss ≡ among s ss
    among_alike s k t [] = refl
    among_alike s k t (e ∷ ss) = ap (λ b. b || among k ss) (same_alike same equality s k t e) ∙ ap (λ b. same e s || b) (among_alike s k t ss)

    among_noticed : (j k : K) (ss : List K) → among j (noticed same k ss) ≡ (among j ss || same k j)
    among_noticed j k ss =
        elim (cases_lt (place same k ss) (length ss)) [
          | inl low ↦
              ap (among j) (noticed_old same k ss low)
              ∙ elim (cases_Bool (same k j)) [
                | inl t ↦ among_alike k j t ss ∙ among_low k ss low ∙ sym (ap (λ b. among j ss || b) t ∙ or_true (among j ss))
                | inr f ↦ or_false (among j ss) ∙ ap (λ b. among j ss || b) (sym f)
              ]
          | inr past ↦
              let last : place same k ss ≡ length ss = omega (arith, place_le same k ss) in
              ap (among j) (noticed_new same k ss last) ∙ among_push j ss k
        ]

    module _ (held : List K) (batch : List (Row K)) where
      -- the different keys are those that were known, and those of the first rows that are not held
      tallied : (known seen : List K) (front rows : List (Row K)) (i : ℕ) → length front ≡ i → front ++ rows ≡ batch → ((k : K) → among k known ≡ (among k held || among k seen))
          → length (distinct same known rows) ≡ length known + tally held batch (group_firsts same seen i (keys_of rows))
      tallied known seen front [] i e whole both = omega arith
      tallied known seen front (row ∷ rows) i e whole both =
          let k = row.key in
          let here : held_at held batch i ≡ among k held = ap (λ l. value_at (λ r. among r.key held) true l i) (sym whole) ∙ value_behind (λ r. among r.key held) true front row rows i e in
          let rest = group_firsts same (noticed same k seen) (i + 1) (keys_of rows) in
          let step : tally held batch (cond (ltb (place same k seen) (length seen)) rest (i ∷ rest)) ≡ cond (among k seen) 0 (cond (among k held) 0 1) + tally held batch rest =
          ap (λ b. tally held batch (cond b rest (i ∷ rest))) (found k seen) ∙ tally_cond held batch (among k seen) i rest ∙ ap (λ b. cond (among k seen) 0 (cond b 0 1) + tally held batch rest) here in
          let new : cond (among k known) 0 1 ≡ cond (among k seen) 0 (cond (among k held) 0 1) = ap (λ b. cond b 0 1) (both k) ∙ cond_or (among k held) (among k seen) in
          let ih = tallied (noticed same k known) (noticed same k seen) (front ++ row ∷ []) rows (i + 1) (length_push front row ∙ ap (λ n. n + 1) e) (append_assoc front (row ∷ []) rows ∙ whole)
          (λ j. among_noticed j k known ∙ ap (λ b. b || same k j) (both j) ∙ or_assoc (among j held) (among j seen) (same k j) ∙ ap (λ b. among j held || b) (sym (among_noticed j k seen))) in
          omega (arith, ih, step, new, length_noticed k known)

      pub tally_all : length held + tally held batch (group_firsts same [] 0 (keys_of batch)) ≡ length (distinct same held batch)
      tally_all = sym (tallied held [] [] batch 0 refl refl (λ k. or_false (among k held)))

  firsts_low : (n : ℕ) (seen : List K) (i : ℕ) (keys : List K) → i + length keys ≤ n → AllByRecursion (λ p. p < n) (group_firsts same seen i keys)
  firsts_low n seen i [] h = tt
  firsts_low n seen i (k ∷ keys) h =
      let rest = firsts_low n (noticed same k seen) (i + 1) keys (omega arith) in
      cond_both (ltb (place same k seen) (length seen)) _ _ (AllByRecursion (λ p. p < n)) (λ _. rest) (λ _. (omega arith, rest))

  pub firsts_few : (seen : List K) (i : ℕ) (keys : List K) → length (group_firsts same seen i keys) ≤ length keys
  firsts_few seen i [] = omega arith
  firsts_few seen i (k ∷ keys) =
      let rest = firsts_few (noticed same k seen) (i + 1) keys in
      cond_both (ltb (place same k seen) (length seen)) _ _ (λ l. length l ≤ suc (length keys)) (λ _. omega arith) (λ _. omega arith)

  pub first_low : (batch : List (Row K)) (g : ℕ) → g < length (group_firsts same [] 0 (keys_of batch)) → get_or (group_firsts same [] 0 (keys_of batch)) g 0 < length batch
  first_low batch g h =
      let long : length (keys_of batch) ≡ length batch = length-map batch (λ r. r.key) in
      All-get_or (λ p. p < length batch) (group_firsts same [] 0 (keys_of batch)) g 0 h (firsts_low (length batch) [] 0 (keys_of batch) (omega arith))

  -- the first rows of the groups stand in front
  pub front_is : (batch : List (Row K)) (groups : Groups) → groups ≡ grouped same (keys_of batch) → take groups.count groups.firsts ≡ group_firsts same [] 0 (keys_of batch)
  front_is batch groups is = ap (λ groups. take groups.count groups.firsts) is ∙ padded_front (group_firsts same [] 0 (keys_of batch))

  -- there are no more groups than rows
  pub count_low : (batch : List (Row K)) (groups : Groups) → groups ≡ grouped same (keys_of batch) → groups.count ≤ length batch
  count_low batch groups is = omega (arith, ap (λ groups. groups.count) is, firsts_few [] 0 (keys_of batch), length-map batch (λ r. r.key))

  pub front_low : (batch : List (Row K)) (groups : Groups) → groups ≡ grouped same (keys_of batch) → length (take groups.count groups.firsts) ≤ length batch
  front_low batch groups is = omega (arith, ap length (front_is batch groups is), firsts_few [] 0 (keys_of batch), length-map batch (λ r. r.key))
