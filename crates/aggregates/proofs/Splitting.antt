-- A stretch of a figure's results, worked out and written in two parts.
use Rattle.std.proofs.Common.{◌≡◌, ℕ, zero, suc, ◌+◌, ◌-◌, ◌<◌, ◌≤◌, ltb, List, [], ◌∷◌, ◌++◌, length, get_or, set, sym, refl, ap, ◌∙◌, ⊎_elim, arith, None}
use Rattle.std.proofs.lemmas.List.{get_or_append_left, get_or-append_right, get_or_past, set-get_or}
use Rattle.std.proofs.lemmas.Bool.{cases_lt, lt-ltb, le-ltb, cond-true, cond-false}
use Rattle.figures.specs.declared.carry.Carry.{Carry}
use Rattle.figures.specs.declared.figure.Figure as figure
use Rattle.figures.specs.Catching.{worked, passed, stretch, carry_after}
use Rattle.figures.specs.Cells.{Cell, Outcome}
use Rattle.searchers.specs.declared.rows.Waiting.{Waiting}
use Rattle.aggregates.specs.Writing.{all_rewritten, result_among, figure_taken}
use Rattle.aggregates.proofs.Rewriting.{all_twice}

module _ {F : Type 0} (g : figure.Ghosts F) (f : F) (first : ℕ) (rows : List (List Cell)) where
  pub length_stretch : (k : Carry) (i n : ℕ) → length (stretch g f k first rows i n) ≡ n
  length_stretch k i zero = refl
  length_stretch k i (suc n) = ap suc (length_stretch (passed g f k first rows i) (i + 1) n)

  -- the first a of n ranks, and the others
  stretch_split : (k : Carry) (i a n : ℕ) → a ≤ n → stretch g f k first rows i a ++ stretch g f (carry_after g f k first rows i a) first rows (i + a) (n - a) ≡ stretch g f k first rows i n
  stretch_split k i zero n h =
      ap (λ j. stretch g f k first rows j (n - 0)) (let e : i + 0 ≡ i = omega arith in e)
      ∙ ap (stretch g f k first rows i) (let e : n - 0 ≡ n = omega arith in e)
  stretch_split k i (suc a) zero h = absurd (let z : ⊥ = omega arith in z)
  stretch_split k i (suc a) (suc n) h =
      let next : Carry = passed g f k first rows i in
      let last : Carry = carry_after g f k first rows i (suc a) in
      let os : List Outcome = stretch g f k first rows i (suc a) in
      ap (λ j. os ++ stretch g f last first rows j (suc n - suc a)) (let e : i + suc a ≡ i + 1 + a = omega arith in e)
      ∙ ap (λ m. os ++ stretch g f last first rows (i + 1 + a) m) (let e : suc n - suc a ≡ n - a = omega arith in e)
      ∙ ap (λ r. worked g f k first rows i ∷ r) (stretch_split next (i + 1) a n (omega arith))

  carry_split : (k : Carry) (i a n : ℕ) → a ≤ n → carry_after g f (carry_after g f k first rows i a) first rows (i + a) (n - a) ≡ carry_after g f k first rows i n
  carry_split k i zero n h =
      ap (λ j. carry_after g f k first rows j (n - 0)) (let e : i + 0 ≡ i = omega arith in e)
      ∙ ap (carry_after g f k first rows i) (let e : n - 0 ≡ n = omega arith in e)
  carry_split k i (suc a) zero h = absurd (let z : ⊥ = omega arith in z)
  carry_split k i (suc a) (suc n) h =
      let next : Carry = passed g f k first rows i in
      let last : Carry = carry_after g f k first rows i (suc a) in
      ap (λ j. carry_after g f last first rows j (suc n - suc a)) (let e : i + suc a ≡ i + 1 + a = omega arith in e)
      ∙ ap (carry_after g f last first rows (i + 1 + a)) (let e : suc n - suc a ≡ n - a = omega arith in e)
      ∙ carry_split next (i + 1) a n (omega arith)

pub among_none : (from i : ℕ) (o : Outcome) → result_among [] from i o ≡ o
among_none from i o =
    ⊎_elim
    (λ (h : i < from). cond-true (ltb i from) o o (lt-ltb i from h))
    (λ (h : from ≤ i). cond-false (ltb i from) o o (le-ltb i from h))
    (cases_lt i from)

-- out of two parts one after the other
among_both : (os ps : List Outcome) (from to i : ℕ) (o : Outcome) → from + length os ≡ to → result_among ps to i (result_among os from i o) ≡ result_among (os ++ ps) from i o
among_both os ps from to i o e =
    let one : Outcome = result_among os from i o in
    ⊎_elim
    (λ (h : i < from).
    cond-true (ltb i to) one _ (lt-ltb i to (omega arith))
    ∙ cond-true (ltb i from) o _ (lt-ltb i from h)
    ∙ sym (cond-true (ltb i from) o _ (lt-ltb i from h)))
    (λ (h : from ≤ i).
    let here : result_among os from i o ≡ get_or os (i - from) o = cond-false (ltb i from) o _ (le-ltb i from h) in
    let whole : result_among (os ++ ps) from i o ≡ get_or (os ++ ps) (i - from) o = cond-false (ltb i from) o _ (le-ltb i from h) in
    ⊎_elim
    (λ (l : i < to).
    cond-true (ltb i to) one _ (lt-ltb i to l)
    ∙ here
    ∙ sym (get_or_append_left os ps o (i - from) (omega arith))
    ∙ sym whole)
    (λ (l : to ≤ i).
    cond-false (ltb i to) one _ (le-ltb i to l)
    ∙ ap (get_or ps (i - to)) (here ∙ get_or_past os (i - from) o (omega arith))
    ∙ ap (λ j. get_or ps j o) (let q : i - to ≡ i - from - length os = omega arith in q)
    ∙ sym (get_or-append_right os ps (length os) (i - from) o refl (omega arith))
    ∙ sym whole)
    (cases_lt i to))
    (cases_lt i from)

set_over : (h : Outcome → Outcome) (os : List Outcome) (j : ℕ) (o d : Outcome) → set (set os j o) j (h (get_or (set os j o) j d)) ≡ set os j (h o)
set_over h [] j o d = refl
set_over h (x ∷ os) zero o d = refl
set_over h (x ∷ os) (suc j) o d = ap (λ r. x ∷ r) (set_over h os j o d)

module _ (figure from : ℕ) where
  pub taken_none : (i : ℕ) (results : List Outcome) → figure_taken figure [] from i results ≡ results
  taken_none i results = ap (set results figure) (among_none from i (get_or results figure None)) ∙ set-get_or results figure None

  taken_both : (os ps : List Outcome) (to : ℕ) → from + length os ≡ to → (i : ℕ) (results : List Outcome) → figure_taken figure ps to i (figure_taken figure os from i results) ≡ figure_taken figure (os ++ ps) from i results
  taken_both os ps to e i results =
      set_over (result_among ps to i) results figure (result_among os from i (get_or results figure None)) None
      ∙ ap (set results figure) (among_both os ps from to i (get_or results figure None) e)

-- one turn of the loop over the parts: what is done, and what the rest will give, make the whole
module _ {F : Type 0} (g : figure.Ghosts F) (f : F) (first : ℕ) (rows : List (List Cell)) (k k' : Carry) (i n end : ℕ) (part : n ≤ end - i) (carry : k' ≡ carry_after g f k first rows i n) where
  rest : end - i - n ≡ end - (i + n)
  rest = omega arith

  pub carry_part : carry_after g f k' first rows (i + n) (end - (i + n)) ≡ carry_after g f k first rows i (end - i)
  carry_part =
      ap (λ c. carry_after g f c first rows (i + n) (end - (i + n))) carry
      ∙ ap (carry_after g f (carry_after g f k first rows i n) first rows (i + n)) (sym rest)
      ∙ carry_split g f first rows k i n (end - i) part

  stretch_part : stretch g f k first rows i n ++ stretch g f k' first rows (i + n) (end - (i + n)) ≡ stretch g f k first rows i (end - i)
  stretch_part =
      ap (λ c. stretch g f k first rows i n ++ stretch g f c first rows (i + n) (end - (i + n))) carry
      ∙ ap (λ m. stretch g f k first rows i n ++ stretch g f (carry_after g f k first rows i n) first rows (i + n) m) (sym rest)
      ∙ stretch_split g f first rows k i n (end - i) part

  pub written_part : {K : Type 0} (p figure : ℕ) (os : List Outcome) (before after : List (Waiting K (List Outcome))) → os ≡ stretch g f k first rows i n → after ≡ all_rewritten p (figure_taken figure os i) before
      → all_rewritten p (figure_taken figure (stretch g f k' first rows (i + n) (end - (i + n))) (i + n)) after ≡ all_rewritten p (figure_taken figure (stretch g f k first rows i (end - i)) i) before
  written_part p figure os before after is e =
      let some : List Outcome = stretch g f k first rows i n in
      let others : List Outcome = stretch g f k' first rows (i + n) (end - (i + n)) in
      ap (all_rewritten p (figure_taken figure others (i + n))) (e ∙ ap (λ r. all_rewritten p (figure_taken figure r i) before) is)
      ∙ all_twice p (figure_taken figure others (i + n)) (figure_taken figure some i) (figure_taken figure (some ++ others) i)
      (taken_both figure i some others (i + n) (ap (λ m. i + m) (length_stretch g f first rows k i n))) before
      ∙ ap (λ r. all_rewritten p (figure_taken figure r i) before) stretch_part
