-- What a figure gives from the rows that are kept of a key, against all of its rows.
use Rattle.std.proofs.Common.{◌≡◌, ℕ, zero, suc, ◌+◌, ◌-◌, ◌<◌, ◌≤◌, min, Bool, true, false, leb, List, [], ◌∷◌, ◌++◌, length, take, drop, fold, sym, refl, ap, ◌∙◌, ⊎_elim, append-nil, arith}
use Rattle.std.specs.List.{slice_get}
use Rattle.std.proofs.lemmas.List.{drop-take, drop-drop, length-drop, length-append, take-append-le, drop-append-le, take_all}
use Rattle.std.proofs.lemmas.Option.{slice_get-get_or, slice_get_past}
use Rattle.std.proofs.lemmas.List.Sums.{fold_more}
use Rattle.std.proofs.lemmas.Bool.{cases_lt, le-leb, lt-leb, cond-true, cond-false}
use Rattle.figures.specs.declared.carry.Carry.{Carry}
use Rattle.figures.specs.declared.figure.Figure as figure
use Rattle.figures.specs.Cells.{Cell}
use Rattle.figures.specs.Catching.{due, last, worked, absorbed_row, passed, stretch, carry_after, caught_up, Held, Right, UpToDate, BroughtUp, Follows, KeepsUp}
use Rattle.figures.specs.Results.{carried, outcome_of}
use Rattle.figures.proofs.Framed.{nth_drop}

-- due rows

due_within : (n : ℕ) (e : Bool) (a : ℕ) → due n e a ≤ n
due_within n true a = omega arith
due_within n false a = omega arith

due_least : (n : ℕ) (e : Bool) (a : ℕ) → n - a ≤ due n e a
due_least n true a = omega arith
due_least n false a = omega arith

due_grows : (all new : List (List Cell)) (was is : Bool) (a : ℕ) → Follows was is new → due (length all) was a ≤ due (length (all ++ new)) is a
due_grows all new true true a f = simp length-append (omega arith)
due_grows all new true false a f = let z : ◌≡◌ {A = ℕ} 0 1 = cc (f refl).0 in omega arith
due_grows all new false true a f = simp length-append (omega arith)
due_grows all new false false a f = simp length-append (omega arith)

-- the last rows of a list

module _ {X : Type 0} (all : List X) (first : ℕ) where
  -- a part of the rows from the rank `first` on is the same part of all
  part_same : (lo hi : ℕ) → first ≤ lo → first ≤ hi → drop (lo - first) (take (hi - first) (drop first all)) ≡ drop lo (take hi all)
  part_same lo hi h g =
      let p : first + (hi - first) ≡ hi = omega arith in
      let q : first + (lo - first) ≡ lo = omega arith in
      ap (drop (lo - first)) (sym (drop-take first (hi - first) all))
      ∙ drop-drop (lo - first) first (take (first + (hi - first)) all)
      ∙ ap (λ n. drop n (take (first + (hi - first)) all)) q
      ∙ ap (λ n. drop lo (take n all)) p

module _ {X : Type 0} (all kept : List X) (suffix : kept ≡ last (length kept) all) where
  suffix_within : length kept ≤ length all
  suffix_within = omega (arith, ap length suffix ∙ length-drop (length all - length kept) all)

  suffix_first : (new : List X) → length (all ++ new) - length (kept ++ new) ≡ length all - length kept
  suffix_first new = let w : length kept ≤ length all = suffix_within in simp length-append (omega arith)

  suffix_on : (new : List X) → kept ++ new ≡ drop (length all - length kept) (all ++ new)
  suffix_on new = ap (λ r. r ++ new) suffix ∙ sym (drop-append-le (length all - length kept) all new (omega arith))

  suffix_more : (new : List X) → kept ++ new ≡ last (length (kept ++ new)) (all ++ new)
  suffix_more new = suffix_on new ∙ ap (λ n. drop n (all ++ new)) (sym (suffix_first new))

  suffix_last : (k : ℕ) → k ≤ length kept → last k kept ≡ last (length (last k kept)) all
  suffix_last k h =
      let w : length kept ≤ length all = suffix_within in
      let l : length (last k kept) ≡ k = length-drop (length kept - k) kept ∙ (let z : length kept - (length kept - k) ≡ k = omega arith in z) in
      let e : length all - length kept + (length kept - k) ≡ length all - length (last k kept) = omega (arith, l) in
      ap (drop (length kept - k)) suffix
      ∙ drop-drop (length kept - k) (length all - length kept) all
      ∙ ap (λ n. drop n all) e

module _ {F : Type 0} (g : figure.Ghosts F) (f : F) where
  -- one row more of all is absorbed, if there is one
  absorbed_more : (all : List (List Cell)) (m : ℕ) → absorbed_row g f (fold (g.absorbs f) (g.starts f) (take m all)) (slice_get all m) ≡ fold (g.absorbs f) (g.starts f) (take (m + 1) all)
  absorbed_more all m =
      let k : Carry = fold (g.absorbs f) (g.starts f) (take m all) in
      ⊎_elim
      (λ (h : m < length all). ap (absorbed_row g f k) (slice_get-get_or all m [] h) ∙ sym (fold_more (g.absorbs f) (g.starts f) all m [] h))
      (λ (h : length all ≤ m).
      ap (absorbed_row g f k) (slice_get_past all m h)
      ∙ ap (fold (g.absorbs f) (g.starts f)) (take_all m all h ∙ sym (take_all (m + 1) all (omega arith))))
      (cases_lt m (length all))

  module _ (all rows : List (List Cell)) (k : Carry) (first i : ℕ) (held : Held g f all k first rows i) where
    pub worked_is : worked g f k first rows i ≡ outcome_of g f all i
    worked_is =
        let b : ℕ = g.back f in
        let a : ℕ = g.ahead f in
        let lo : first ≤ i - g.back f = held.reached in
        ap (λ r. g.yields f k (drop (i - b - first) (take (i + a + 1 - first) r)) (i - (i - b))) held.suffix
        ∙ ap (λ r. g.yields f k r (i - (i - b))) (part_same all first (i - b) (i + a + 1) lo (omega arith))
        ∙ ap (λ c. g.yields f c (drop (i - b) (take (i + a + 1) all)) (i - (i - b))) held.carry

    passed_is : passed g f k first rows i ≡ carried g f all (i + 1)
    passed_is =
        let b : ℕ = g.back f in
        ⊎_elim
        (λ (h : i < g.back f).
        cond-false (leb b i) _ _ (lt-leb b i h)
        ∙ held.carry
        ∙ ap (λ n. fold (g.absorbs f) (g.starts f) (take n all)) (let e : i - g.back f ≡ i + 1 - g.back f = omega arith in e))
        (λ (h : g.back f ≤ i).
        let lo : first ≤ i - g.back f = held.reached in
        cond-true (leb b i) _ _ (le-leb b i h)
        ∙ ap (λ r. absorbed_row g f k (slice_get r (i - b - first))) held.suffix
        ∙ ap (absorbed_row g f k) (nth_drop first all (i - b - first) ∙ ap (slice_get all) (let e : first + (i - g.back f - first) ≡ i - g.back f = omega arith in e))
        ∙ ap (λ c. absorbed_row g f c (slice_get all (i - b))) held.carry
        ∙ absorbed_more all (i - b)
        ∙ ap (λ n. fold (g.absorbs f) (g.starts f) (take n all)) (let e : i - g.back f + 1 ≡ i + 1 - g.back f = omega arith in e))
        (cases_lt i (g.back f))

    held_next : Held g f all (passed g f k first rows i) first rows (i + 1)
    held_next = let lo : first ≤ i - g.back f = held.reached in record { suffix = held.suffix; reached = omega arith; carry = passed_is }

  gives : (k : Carry) (first : ℕ) (rows : List (List Cell)) (i n : ℕ) → Right g f k first rows i n (stretch g f k first rows i n) (carry_after g f k first rows i n)
  gives k first rows i zero all held = (refl, held.carry ∙ ap (carried g f all) (let e : i ≡ i + 0 = omega arith in e))
  gives k first rows i (suc n) all held =
      let rest = gives (passed g f k first rows i) first rows (i + 1) n all (held_next all rows k first i held) in (
        ap (λ o. o ∷ stretch g f (passed g f k first rows i) first rows (i + 1) n) (worked_is all rows k first i held) ∙ ap (λ os. outcome_of g f all i ∷ os) rest.0,
        rest.1 ∙ ap (carried g f all) (let e : i + 1 + n ≡ i + suc n = omega arith in e),
      )

  stable : (all more : List (List Cell)) (i : ℕ) → i + g.ahead f < length all → outcome_of g f (all ++ more) i ≡ outcome_of g f all i
  stable all more i h =
      let b : ℕ = g.back f in
      let a : ℕ = g.ahead f in
      ap (λ r. g.yields f (fold (g.absorbs f) (g.starts f) r) (drop (i - b) (take (i + a + 1) (all ++ more))) (i - (i - b))) (take-append-le (i - b) all more (omega arith))
      ∙ ap (λ r. g.yields f (carried g f all i) (drop (i - b) r) (i - (i - b))) (take-append-le (i + a + 1) all more (omega arith))

  -- a result that was due keeps its value
  due_stable : (all new : List (List Cell)) (was is : Bool) (i : ℕ) → Follows was is new → i < due (length all) was (g.ahead f) → outcome_of g f (all ++ new) i ≡ outcome_of g f all i
  due_stable all new true is i follows h = ap (λ r. outcome_of g f r i) (ap (λ r. all ++ r) (follows refl).1 ∙ append-nil all)
  due_stable all new false is i follows h = stable all new i (omega arith)

  -- the carry of a rank within the rows does not change with rows after them
  carried_more : (all new : List (List Cell)) (i : ℕ) → i ≤ length all → carried g f all i ≡ carried g f (all ++ new) i
  carried_more all new i h = ap (fold (g.absorbs f) (g.starts f)) (sym (take-append-le (i - g.back f) all new (omega arith)))

  begins : (w : ℕ) → UpToDate g f w [] [] false (g.starts f)
  begins w = record { suffix = refl; enough = omega arith; carry = ap (λ n. fold (g.absorbs f) (g.starts f) (take n [])) (let e : 0 ≡ 0 - g.ahead f - g.back f = omega arith in e) }

  brings : (w : ℕ) (all kept new : List (List Cell)) (was is : Bool) (k : Carry) → g.back f + g.ahead f ≤ w → Follows was is new
      → UpToDate g f w all kept was k → BroughtUp g f w all kept new was is k (caught_up g f all kept new was is k)
  brings w all kept new was is k reach follows up =
      let from : ℕ = due (length all) was (g.ahead f) in
      let to : ℕ = due (length (all ++ new)) is (g.ahead f) in
      let first : ℕ = length all - length kept in
      let s = up.suffix in
      let enough = up.enough in
      let within : length kept ≤ length all = suffix_within all kept s in
      let low : length all - g.ahead f ≤ due (length all) was (g.ahead f) = due_least (length all) was (g.ahead f) in
      let grows : due (length all) was (g.ahead f) ≤ due (length (all ++ new)) is (g.ahead f) = due_grows all new was is (g.ahead f) follows in
      let held : Held g f (all ++ new) k (length all - length kept) (kept ++ new) (due (length all) was (g.ahead f)) = record {
        suffix = suffix_on all kept s new;
        reached = omega arith;
        carry = up.carry ∙ carried_more all new from (due_within (length all) was (g.ahead f));
      } in
      let carry : caught_up g f all kept new was is k ≡ carried g f (all ++ new) to =
      (gives k first (kept ++ new) from (to - from) (all ++ new) held).1 ∙ ap (carried g f (all ++ new)) (let e : due (length all) was (g.ahead f) + (due (length (all ++ new)) is (g.ahead f) - due (length all) was (g.ahead f)) ≡ due (length (all ++ new)) is (g.ahead f) = omega arith in e) in
      let more : min (length (all ++ new)) w ≤ length (kept ++ new) = simp length-append (omega arith) in
      let whole : kept ++ new ≡ last (length (kept ++ new)) (all ++ new) = suffix_more all kept s new in
      record {
        held = held;
        grows = grows;
        stays = λ i h. due_stable all new was is i follows h;
        next = record { suffix = whole; enough = more; carry = carry };
        cut = record {
          suffix = suffix_last (all ++ new) (kept ++ new) whole (min (length (all ++ new)) w) more;
          enough = omega (arith, more, length-drop (length (kept ++ new) - min (length (all ++ new)) w) (kept ++ new));
          carry = carry;
        };
      }

pub keeps_up : {F : Type 0} (g : figure.Ghosts F) → KeepsUp g
keeps_up g = record { starts = begins g; gives = gives g; stable = stable g; brings = brings g }
