-- The kept rows of each place, counted, and the pass that lets some of them go.
use Rattle.std.proofs.Common.{◌≡◌, ℕ, ◌+◌, ◌-◌, ◌<◌, ◌≤◌, Bool, true, cond, not, ◌||◌, ltb, ◌≢◌, List, [], ◌∷◌, ◌++◌, length, get_or, drop, set, sym, refl, ap, ◌∙◌, inl, inr, arith, length-set}
use Rattle.std.specs.List.Retain.{RetainsInTurn}
use Rattle.std.proofs.lemmas.List.{at_drop_more, at_drop_all, length_push, get_or_push, get_or_append_left, get_or_past, get_or-set_same, get_or-set_other}
use Rattle.std.proofs.lemmas.Bool.{cases_eq, cases_lt, eq-eqb, ne_eqb}
use Rattle.searchers.specs.declared.rows.Held.{Held}
use Rattle.tables.specs.declared.rows.Kept.{Kept}
use Rattle.tables.specs.declared.numbers.NewPlaces.{NewPlaces}
use Rattle.tables.specs.Altered.{altered}
use Rattle.tables.specs.Leaving.{Numbered, placed_by, Counted}
use Rattle.tables.specs.Lists.{value_at, of_place, renumbered, pruned}
use Rattle.tables.proofs.Holding.{value_past, turned_round}
use Rattle.tables.proofs.Lent.{altered_set, length_altered}
use Rattle.tables.proofs.Numbering.{new_place_is}

here : {K : Type 0} (p : ℕ) (k : Kept K) (ks : List (Kept K)) → k.place ≡ p → of_place p (k ∷ ks) ≡ k ∷ of_place p ks
here p k ks e = ap (λ t. cond t (k ∷ of_place p ks) (of_place p ks)) (eq-eqb k.place p e)

away : {K : Type 0} (p : ℕ) (k : Kept K) (ks : List (Kept K)) → (k.place ≡ p → ⊥) → of_place p (k ∷ ks) ≡ of_place p ks
away p k ks e = ap (λ t. cond t (k ∷ of_place p ks) (of_place p ks)) (ne_eqb k.place p e)

-- what is written at a place, also past the end
written : (xs : List ℕ) (p v q : ℕ) → q < length xs → (p ≡ q → get_or (set xs p v) q 0 ≡ v) × ((p ≡ q → ⊥) → get_or (set xs p v) q 0 ≡ get_or xs q 0)
written xs p v q low = (
  (λ s. let in_p : p < length xs = omega arith in ap (λ z. get_or (set xs p v) z 0) (sym s) ∙ get_or-set_same xs p v 0 in_p),
  (λ ne. let sn : q ≢ p = λ z. ne (sym z) in get_or-set_other xs p q v 0 sn),
)

-- what stands at i, and the rows of a place from i on
module _ {K : Type 0} (xs : List (Kept K)) (i : ℕ) (x : Kept K) (h : i < length xs) (e : x ≡ get_or xs i x) where
  next : (q : ℕ) → of_place q (drop i xs) ≡ of_place q (x ∷ drop (i + 1) xs)
  next q = at_drop_more (of_place q) xs i x h ∙ ap (λ (y : Kept K). of_place q (y ∷ drop (i + 1) xs)) (sym e)

  one_here : (q : ℕ) → x.place ≡ q → length (of_place q (drop i xs)) ≡ length (of_place q (drop (i + 1) xs)) + 1
  one_here q s = omega (arith, ap length (next q), ap length (here q x (drop (i + 1) xs) s))

  none_here : (q : ℕ) → (x.place ≡ q → ⊥) → length (of_place q (drop i xs)) ≡ length (of_place q (drop (i + 1) xs))
  none_here q ne = ap length (next q) ∙ ap length (away q x (drop (i + 1) xs) ne)

-- a loop that counts the rows of n places
pub record Counting {K : Type 0} (n : ℕ) (xs : List (Kept K)) (counts : List ℕ) (i : ℕ) : Type 0 where
  pub long : length counts ≡ n
  pub few : (p : ℕ) → get_or counts p 0 ≤ i
  pub is : (p : ℕ) → p < n → get_or counts p 0 + length (of_place p (drop i xs)) ≡ length (of_place p xs)

pub counting_none : {K : Type 0} {n : ℕ} (xs : List (Kept K)) {counts : List ℕ} → length counts ≡ n → ((p : ℕ) → get_or counts p 0 ≡ 0) → Counting n xs counts 0
counting_none xs long zeros = record { long = long; few = λ p. omega (arith, zeros p); is = λ p l. omega (arith, zeros p) }

-- a place more, with no row yet
pub zeros_push : (counts : List ℕ) {i : ℕ} → length counts ≡ i → ((p : ℕ) → get_or counts p 0 ≡ 0) → {there : List ℕ} → there ≡ counts ++ 0 ∷ [] → {j : ℕ} → j ≡ i + 1
    → (length there ≡ j) × ((p : ℕ) → get_or there p 0 ≡ 0)
zeros_push counts long zeros made on = (
  ap length made ∙ length_push counts 0 ∙ ap (λ n. n + 1) long ∙ sym on,
  λ p.
      ap (λ (c : List ℕ). get_or c p 0) made
      ∙ elim (cases_lt p (length counts)) [
        | inl low ↦ get_or_append_left counts (0 ∷ []) 0 p low ∙ zeros p
        | inr past ↦ elim (cases_eq p (length counts)) [
          | inl last ↦ get_or_push counts 0 0 p (sym last)
          | inr ne ↦ get_or_past (counts ++ 0 ∷ []) p 0 (omega (arith, length_push counts 0))
        ]
      ],
)

-- a row more of its place
pub counting_more : {K : Type 0} {n : ℕ} {xs : List (Kept K)} {counts : List ℕ} {i : ℕ} {x : Kept K} → Counting n xs counts i → i < length xs → x ≡ get_or xs i x
    → {there : List ℕ} → there ≡ altered (λ k. k + 1) x.place counts → {j : ℕ} → j ≡ i + 1 → Counting n xs there j
counting_more {K} {n} {xs} {counts} {i} {x} c h e {there} more {j} on =
    let p : ℕ = x.place in
    let v : ℕ = get_or counts p 0 + 1 in
    let is_there : there ≡ set counts p v = more ∙ altered_set (λ k. k + 1) 0 counts p in
    let made : (q : ℕ) → get_or there q 0 ≡ get_or (set counts p v) q 0 = λ q. ap (λ l. get_or l q 0) is_there in
    let behind : (q : ℕ) → length (of_place q (drop j xs)) ≡ length (of_place q (drop (i + 1) xs)) = λ q. ap (λ k. length (of_place q (drop k xs))) on in
    record {
      long = ap length more ∙ length_altered (λ k. k + 1) p counts ∙ c.long;
      few = λ q. elim (cases_lt q n) [
        | inl low ↦
            let w = written counts p v q (omega (arith, c.long)) in
            elim (cases_eq p q) [ inl s ↦ omega (arith, made q, w.0 s, c.few p) | inr ne ↦ omega (arith, made q, w.1 ne, c.few q) ]
        | inr past ↦ omega (arith, made q, get_or_past (set counts p v) q 0 (omega (arith, length-set counts p v, c.long)))
      ];
      is = λ q l.
          let w = written counts p v q (omega (arith, c.long)) in
          elim (cases_eq p q) [
            | inl s ↦ let o : get_or counts q 0 ≡ get_or counts p 0 = ap (λ z. get_or counts z 0) (sym s) in omega (arith, made q, w.0 s, o, behind q, c.is q l, one_here xs i x h e q s)
            | inr ne ↦ omega (arith, made q, w.1 ne, behind q, c.is q l, none_here xs i x h e q ne)
          ];
    }

pub counting_all : {K : Type 0} {n : ℕ} {xs : List (Kept K)} {counts : List ℕ} {i : ℕ} → Counting n xs counts i → length xs ≤ i → Counted xs counts
counting_all {xs = xs} {i = i} c h p l = omega (arith, c.is p (omega (arith, c.long)), at_drop_all (λ z. length (of_place p z)) xs i h)

-- one turn of a pass that counts down: a row stays if fewer than `reach` rows of its place are left after it
pub record Turn {K P : Type 0} (reach : ℕ) (held : List (Held K P)) (new : NewPlaces) (counts : List ℕ) (x : Kept K) (b : Bool) (there : List ℕ) (y : Kept K) : Type 0 where
  pub left : there ≡ set counts x.place (get_or counts x.place 0 - 1)
  pub stays : b ≡ not (value_at (λ e. e.ended) true held x.place || not (ltb (get_or counts x.place 0 - 1) reach))
  pub is : y ≡ placed_by new x

-- what a call says of its turn, where it is shown the row, the held keys, their places and the reach
pub turn_is : {K P : Type 0} {reach r : ℕ} {held h : List (Held K P)} {new n : NewPlaces} (counts : List ℕ) {there : List ℕ} {x shown y left : Kept K} {b : Bool} → r ≡ reach → h ≡ held → n ≡ new → shown ≡ x
    → there ≡ set counts shown.place (get_or counts shown.place 0 - 1) → b ≡ not (value_at (λ e. e.ended) true h shown.place || not (ltb (get_or counts shown.place 0 - 1) r)) → left ≡ placed_by n shown → left ≡ y → Turn reach held new counts x b there y
turn_is counts same_reach same_held same_new shows taken stays placed leaves = record {
  left = taken ∙ (λ i. set counts (shows i).place (get_or counts (shows i).place 0 - 1));
  stays = stays ∙ (λ i. not (value_at (λ e. e.ended) true (same_held i) (shows i).place || not (ltb (get_or counts (shows i).place 0 - 1) (same_reach i))));
  is = sym leaves ∙ placed ∙ (λ i. placed_by (same_new i) (shows i));
}

module _ {K P : Type 0} (reach : ℕ) (held : List (Held K P)) (new : NewPlaces) (numbered : Numbered held new) where
  module _ (counts : List ℕ) (x : Kept K) (xs : List (Kept K)) (long : length counts ≡ length held) (counted : Counted (x ∷ xs) counts) where
    after : x.place < length held → get_or counts x.place 0 - 1 ≡ length (of_place x.place xs)
    after low = omega (arith, counted x.place (omega (arith, long)), ap length (here x.place x xs refl))

    -- the row's test, by the count
    test : (value_at (λ e. e.ended) true held x.place || not (ltb (get_or counts x.place 0 - 1) reach)) ≡ (value_at (λ e. e.ended) true held x.place || not (ltb (length (of_place x.place xs)) reach))
    test =
        elim (cases_lt x.place (length held)) [
          | inl low ↦ ap (λ n. value_at (λ e. e.ended) true held x.place || not (ltb n reach)) (after low)
          | inr past ↦
              let gone : value_at (λ e. e.ended) true held x.place ≡ true = value_past (λ e. e.ended) true held x.place past in
              ap (λ b. b || not (ltb (get_or counts x.place 0 - 1) reach)) gone ∙ sym (ap (λ b. b || not (ltb (length (of_place x.place xs)) reach)) gone)
        ]

    counted_more : (there : List ℕ) → there ≡ set counts x.place (get_or counts x.place 0 - 1) → Counted xs there
    counted_more there e o l =
        let same : length there ≡ length counts = ap length e ∙ length-set counts x.place (get_or counts x.place 0 - 1) in
        let low : o < length counts = omega arith in
        let w = written counts x.place (get_or counts x.place 0 - 1) o low in
        let made : get_or there o 0 ≡ get_or (set counts x.place (get_or counts x.place 0 - 1)) o 0 = ap (λ c. get_or c o 0) e in
        elim (cases_eq x.place o) [
          | inl z ↦ let in_held : x.place < length held = omega (arith, long) in made ∙ w.0 z ∙ after in_held ∙ ap (λ p. length (of_place p xs)) z
          | inr ne ↦ made ∙ w.1 ne ∙ counted o low ∙ ap length (away o x xs ne)
        ]

    -- what the pass makes of the row, before what it makes of the others
    one_pruned : (b : Bool) (there : List ℕ) (y : Kept K) (zs : List (Kept K)) → Turn reach held new counts x b there y → zs ≡ pruned reach held xs → cond b (y ∷ zs) zs ≡ pruned reach held (x ∷ xs)
    one_pruned b there y zs q rest =
        let z : Kept K = record { row = x.row; place = renumbered held x.place } in
        let placed : y ≡ z = q.is ∙ ap (λ p. record { row = x.row; place = p }) (new_place_is held new numbered x.place) in
        (λ i. cond (q.stays i) (placed i ∷ rest i) (rest i))
        ∙ turned_round (value_at (λ e. e.ended) true held x.place || not (ltb (get_or counts x.place 0 - 1) reach)) (pruned reach held xs) (z ∷ pruned reach held xs)
        ∙ ap (λ b. cond b (pruned reach held xs) (z ∷ pruned reach held xs)) test

  -- what a pass leaves that counts down: its state s has the counts `seen s`, and what else it looks at is the same throughout
  module _ {F : Type 0} (seen : F → List ℕ) (Fine : F → Type 0) (R : F → Kept K → Bool → F → Kept K → Type 0)
      (turns : (s : F) (x : Kept K) (b : Bool) (t : F) (y : Kept K) → Fine s → R s x b t y → Turn reach held new (seen s) x b (seen t) y × Fine t) where
    pub pruned_by : (xs ys : List (Kept K)) (s : F) → Fine s → length (seen s) ≡ length held → Counted xs (seen s) → RetainsInTurn R s xs ys → ys ≡ pruned reach held xs
    pruned_by [] ys s fine long counted r = r
    pruned_by (x ∷ xs) ys s fine long counted r =
        let q = turns s x r.0 r.1 r.2 fine r.3 in
        let more = ap length q.0.left ∙ length-set (seen s) x.place (get_or (seen s) x.place 0 - 1) ∙ long in
        let rest = pruned_by xs r.4 r.1 q.1 more (counted_more (seen s) x xs long counted (seen r.1) q.0.left) r.5 in
        r.6 ∙ one_pruned (seen s) x xs long counted r.0 (seen r.1) r.2 r.4 q.0 rest
