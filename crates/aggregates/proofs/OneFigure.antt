-- One figure of a key that is caught up.
use Rattle.std.proofs.Common.{◌≡◌, ℕ, ◌+◌, ◌-◌, ◌<◌, ◌≤◌, Bool, true, false, cond, ltb, List, ◌++◌, map, length, get_or, drop, sym, refl, ap, ◌∙◌, ⊎_elim, arith, None}
use Rattle.std.specs.List.{range_with_len}
use Rattle.std.proofs.lemmas.List.FromFn.{get_or-map-range_with_len, length-map-range_with_len}
use Rattle.std.proofs.lemmas.List.{length-append, length-drop, get_or_past}
use Rattle.std.proofs.lemmas.Bool.{cases_lt, lt-ltb, le-ltb, cond-true, cond-false}
use Rattle.figures.specs.declared.carry.Carry.{Carry}
use Rattle.figures.specs.declared.figure.Figure as figure
use Rattle.figures.specs.Catching.{due, is_due, stretch, Held, UpToDate, BroughtUp, KeepsUp, caught_up}
use Rattle.figures.specs.Results.{carried, outcome_of}
use Rattle.figures.specs.Cells.{Cell, Outcome}
use Rattle.aggregates.specs.Sets.{due_from, newly_due, next_carry, next_result, if_due}

-- the ranks with a due result are those below the number of the due results
due_below : (n : ℕ) (ended : Bool) (a i : ℕ) → i < n → is_due n ended a i ≡ ltb i (due n ended a)
due_below n true a i h = sym (lt-ltb i n h)
due_below n false a i h =
    ⊎_elim
    (λ (l : i < n - a). lt-ltb (i + a) n (omega arith) ∙ sym (lt-ltb i (n - a) l))
    (λ (l : n - a ≤ i). le-ltb (i + a) n (omega arith) ∙ sym (le-ltb i (n - a) l))
    (cases_lt i (n - a))

-- the carry of a key that is caught up, ended or not
abbrev pub carry_of : {F : Type 0} → figure.Ghosts F → Bool → List (List Cell) → F → Carry
carry_of g ended xs f = carried g f xs (due (length xs) ended (g.ahead f))

module _ {F : Type 0} (g : figure.Ghosts F) (theory : KeepsUp g) where
  -- the rows ys came for a key of which all but the first d rows are kept, and it ended or not
  module _ (f : F) (w : ℕ) (reach : g.back f + g.ahead f ≤ w) (xs ys : List (List Cell)) (ended : Bool) (d : ℕ) (kept : d ≤ length xs - w) where
    first_rank : length (xs ++ ys) - length (drop d (xs ++ ys)) ≡ d
    first_rank = simp (length-drop, length-append) (omega arith)

    up : UpToDate g f w xs (drop d xs) false (carry_of g false xs f)
    up =
        let long : length (drop d xs) ≡ length xs - d = length-drop d xs in
        record { suffix = ap (λ n. drop n xs) (let e : d ≡ length xs - length (drop d xs) = omega arith in e); enough = omega arith; carry = refl }

    brought : BroughtUp g f w xs (drop d xs) ys false ended (carry_of g false xs f) (caught_up g f xs (drop d xs) ys false ended (carry_of g false xs f))
    brought = theory.brings f w xs (drop d xs) ys false ended (carry_of g false xs f) reach (λ h. let z : ◌≡◌ {A = ℕ} 0 1 = cc in absurd (let y : ⊥ = omega arith in y)) up

    held : Held g f (xs ++ ys) (carry_of g false xs f) (length (xs ++ ys) - length (drop d (xs ++ ys))) (drop d (xs ++ ys)) (due (length xs) false (g.ahead f))
    held =
        let long : length (drop d xs) ≡ length xs - d = length-drop d xs in
        let e : length xs - length (drop d xs) ≡ length (xs ++ ys) - length (drop d (xs ++ ys)) = omega (arith, first_rank) in
        let reached = brought.held.reached in
        record { suffix = ap (λ n. drop n (xs ++ ys)) (sym first_rank); reached = omega arith; carry = brought.held.carry }

    given : (stretch g f (carry_of g false xs f) (length (xs ++ ys) - length (drop d (xs ++ ys))) (drop d (xs ++ ys)) (due_from g (length xs) (length (xs ++ ys)) ended (drop d (xs ++ ys)) f) (newly_due g (length xs) (length (xs ++ ys)) ended (drop d (xs ++ ys)) f)
        ≡ map (outcome_of g f (xs ++ ys)) (range_with_len (due (length xs) false (g.ahead f)) (due (length (xs ++ ys)) ended (g.ahead f) - due (length xs) false (g.ahead f))))
        × (next_carry g (length xs) (length (xs ++ ys)) ended (drop d (xs ++ ys)) f (carry_of g false xs f)
        ≡ carried g f (xs ++ ys) (due (length xs) false (g.ahead f) + (due (length (xs ++ ys)) ended (g.ahead f) - due (length xs) false (g.ahead f))))
    given =
        theory.gives f (carry_of g false xs f) (length (xs ++ ys) - length (drop d (xs ++ ys))) (drop d (xs ++ ys)) (due (length xs) false (g.ahead f)) (due (length (xs ++ ys)) ended (g.ahead f) - due (length xs) false (g.ahead f)) (xs ++ ys) held

    pub carry_on : next_carry g (length xs) (length (xs ++ ys)) ended (drop d (xs ++ ys)) f (carry_of g false xs f) ≡ carry_of g ended (xs ++ ys) f
    carry_on =
        let grows = brought.grows in
        given.1 ∙ ap (carried g f (xs ++ ys)) (let e : due (length xs) false (g.ahead f) + (due (length (xs ++ ys)) ended (g.ahead f) - due (length xs) false (g.ahead f)) ≡ due (length (xs ++ ys)) ended (g.ahead f) = omega arith in e)

    pub result_on : (i : ℕ) → i < length (xs ++ ys)
        → next_result g (length xs) (length (xs ++ ys)) ended (drop d (xs ++ ys)) f (carry_of g false xs f) i (if_due g false xs i f) ≡ if_due g ended (xs ++ ys) i f
    result_on i h =
        let grows = brought.grows in
        let from : ℕ = due (length xs) false (g.ahead f) in
        let to : ℕ = due (length (xs ++ ys)) ended (g.ahead f) in
        let old : Outcome = if_due g false xs i f in
        let all : List (List Cell) = xs ++ ys in
        let is : is_due (length (xs ++ ys)) ended (g.ahead f) i ≡ ltb i (due (length (xs ++ ys)) ended (g.ahead f)) = due_below (length (xs ++ ys)) ended (g.ahead f) i h in
        let new : if_due g ended (xs ++ ys) i f ≡ cond (ltb i (due (length (xs ++ ys)) ended (g.ahead f))) (outcome_of g f (xs ++ ys) i) None = ap (λ b. cond b (outcome_of g f all i) None) is in
        ⊎_elim
        (λ (below : i < due (length xs) false (g.ahead f)).
        cond-true (ltb i from) old _ (lt-ltb i from below)
        ∙ cond-true (is_due (length xs) false (g.ahead f) i) (outcome_of g f xs i) None (lt-ltb (i + g.ahead f) (length xs) (omega arith))
        ∙ sym (brought.stays i below)
        ∙ sym (cond-true (ltb i to) (outcome_of g f all i) None (lt-ltb i to (omega arith)))
        ∙ sym new)
        (λ (above : due (length xs) false (g.ahead f) ≤ i).
        cond-false (ltb i from) old _ (le-ltb i from above)
        ∙ ap (λ r. get_or r (i - from) old) given.0
        ∙ ⊎_elim
        (λ (below : i < due (length (xs ++ ys)) ended (g.ahead f)).
        get_or-map-range_with_len (outcome_of g f all) from (to - from) (i - from) i old (omega arith) (omega arith)
        ∙ sym (cond-true (ltb i to) (outcome_of g f all i) None (lt-ltb i to below))
        ∙ sym new)
        (λ (past : due (length (xs ++ ys)) ended (g.ahead f) ≤ i).
        get_or_past (map (outcome_of g f all) (range_with_len from (to - from))) (i - from) old (omega (arith, length-map-range_with_len (outcome_of g f all) from (to - from)))
        ∙ cond-false (is_due (length xs) false (g.ahead f) i) (outcome_of g f xs i) None (le-ltb (i + g.ahead f) (length xs) (omega arith))
        ∙ sym (cond-false (ltb i to) (outcome_of g f all i) None (le-ltb i to past))
        ∙ sym new)
        (cases_lt i to))
        (cases_lt i from)
