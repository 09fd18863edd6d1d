-- What a letter's carry holds after a list of rows: the sum and the number of the present cells, and the number of rows.
use Rattle.std.proofs.Common.{◌≡◌, ℕ, suc, ◌*◌, ◌^◌, ◌<◌, ◌≤◌, ltb, List, [], ◌∷◌, length, ℤ, pos, negsuc, ◌+ℤ◌, neg_ℤ, ◌≤ℤ◌, fold, sym, refl, ap, ◌∙◌, subst, ⊎_elim, arith, w32, w64, SFits}
use lib.IntN.{+ℤ_assoc, +ℤ_idl, +ℤ_idr}
use lib.Signed.{quot_z}
use Rattle.std.specs.List.{All, cons_option}
use Rattle.std.specs.Prelude.{Some, None}
use Rattle.std.specs.Int.{int_wrap}
use Rattle.std.proofs.lemmas.List.Elements.{All-cons, All-head, All-tail, All-get_or}
use Rattle.std.proofs.lemmas.List.{get_or_past}
use Rattle.std.proofs.lemmas.Int.{int_wrap-add_left, int_wrap_fits, ints}
use Rattle.std.proofs.lemmas.Bool.{cases_lt, cond-true, lt-ltb}
use Rattle.figures.specs.declared.carry.Carry.{Carry}
use Rattle.figures.specs.declared.cells.Column.{Column}
use Rattle.figures.specs.Carries.{added, absorbed, fresh}
use Rattle.figures.specs.Cells.{Cell, cell, numbers, CellFits, RowsFit}
use Rattle.figures.specs.Lines.{total, per, null_of_none, sum_of, mean_of}
use Rattle.figures.specs.Named.{place}
use Rattle.figures.specs.Rules.{if_any, sum_shown, mean_shown}

-- first at 64 bits, for any cells

abbrev at_64 : ℤ → ℤ → ℤ → Carry
at_64 s p n = record { sum = int_wrap w64 s; present = int_wrap w64 p; rows = int_wrap w64 n }

same : (s t p q m n : ℤ) → s ≡ t → p ≡ q → m ≡ n → at_64 s p m ≡ at_64 t q n
same s t p q m n e f g = cc

added_none : (s p n : ℤ) → added (at_64 s p n) None ≡ at_64 s p (n +ℤ pos 1)
added_none s p n = simp int_wrap-add_left

added_some : (s p n x : ℤ) → added (at_64 s p n) (Some x) ≡ at_64 (s +ℤ x) (p +ℤ pos 1) (n +ℤ pos 1)
added_some s p n x = simp int_wrap-add_left

later : {X : Type 0} (n : ℤ) (xs : List X) → n +ℤ pos 1 +ℤ pos (length xs) ≡ n +ℤ pos (suc (length xs))
later n xs = +ℤ_assoc n (pos 1) (pos (length xs)) ∙ ap (λ m. n +ℤ pos m) (omega arith)

tally_from : (c : Column) (s p n : ℤ) (rows : List (List Cell)) → fold (absorbed c) (at_64 s p n) rows ≡ at_64 (s +ℤ total (numbers c rows)) (p +ℤ pos (length (numbers c rows))) (n +ℤ pos (length rows))
tally_from c s p n [] = simp +ℤ_idr
tally_from c s p n (row ∷ rows) =
    let ns = numbers c rows in
    elim (cell c row) as (λ x. fold (absorbed c) (added (at_64 s p n) x) rows ≡ at_64 (s +ℤ total (cons_option x ns)) (p +ℤ pos (length (cons_option x ns))) (n +ℤ pos (suc (length rows)))) [
      | None ↦
          ap (λ k. fold (absorbed c) k rows) (added_none s p n)
          ∙ tally_from c s p (n +ℤ pos 1) rows
          ∙ same _ _ _ _ _ _ refl refl (later n rows)
      | Some x ↦
          ap (λ k. fold (absorbed c) k rows) (added_some s p n x)
          ∙ tally_from c (s +ℤ x) (p +ℤ pos 1) (n +ℤ pos 1) rows
          ∙ same _ _ _ _ _ _ (+ℤ_assoc s x (total ns)) (later p ns) (later n rows)
    ]

fresh_is : fresh ≡ at_64 (pos 0) (pos 0) (pos 0)
unfolding int_wrap
fresh_is = refl

fresh_tally : (c : Column) (rows : List (List Cell)) → fold (absorbed c) fresh rows ≡ at_64 (total (numbers c rows)) (pos (length (numbers c rows))) (pos (length rows))
fresh_tally c rows =
    ap (λ k. fold (absorbed c) k rows) fresh_is
    ∙ tally_from c (pos 0) (pos 0) (pos 0) rows
    ∙ same _ _ _ _ _ _ (+ℤ_idl _) (+ℤ_idl _) (+ℤ_idl _)

-- then exactly: the sum of fewer than 2 ^ 32 numbers of 32 bits has 64 bits, so that nothing wraps

cell_fits : (c : Column) (cells : List Cell) → All CellFits cells → CellFits (cell c cells)
cell_fits c cells h =
    ⊎_elim (λ (in' : place c < length cells). All-get_or CellFits cells (place c) None in' h)
    (λ (past : length cells ≤ place c). subst CellFits (sym (get_or_past cells (place c) None past)) tt)
    (cases_lt (place c) (length cells))

numbers_fit : (c : Column) (rows : List (List Cell)) → RowsFit rows → All (SFits w32) (numbers c rows)
numbers_fit c [] h = λ k d l. absurd (omega arith)
numbers_fit c (row ∷ rows) h =
    let rest = numbers_fit c rows (All-tail (All CellFits) row rows h) in
    (elim (cell c row) as (λ x. CellFits x → All (SFits w32) (cons_option x (numbers c rows))) [ None ↦ λ f. rest | Some x ↦ λ f. All-cons (SFits w32) x (numbers c rows) f rest ]) (cell_fits c row (All-head (All CellFits) row rows h))

numbers_le : (c : Column) (rows : List (List Cell)) → length (numbers c rows) ≤ length rows
numbers_le c [] = omega arith
numbers_le c (row ∷ rows) =
    let h = numbers_le c rows in
    elim (cell c row) as (λ x. length (cons_option x (numbers c rows)) ≤ suc (length rows)) [ None ↦ omega arith | Some x ↦ omega arith ]

-- at most 2 ^ 31 for each number, up or down
total_within : (ns : List ℤ) → All (SFits w32) ns → (neg_ℤ (pos (length ns * 2147483648)) ≤ℤ total ns) × (total ns ≤ℤ pos (length ns * 2147483648))
total_within [] h = (omega (arith, ints), omega (arith, ints))
total_within (x ∷ xs) h =
    let f = All-head (SFits w32) x xs h in
    let rest = total_within xs (All-tail (SFits w32) x xs h) in
    let low = rest.0 in
    let high = rest.1 in
    (omega (arith, ints), omega (arith, ints))

total_fits : (ns : List ℤ) → length ns < 2 ^ 32 → All (SFits w32) ns → SFits w64 (total ns)
total_fits ns few h =
    let low = (total_within ns h).0 in
    let high = (total_within ns h).1 in
    omega (arith, ints)

pub count_fits : (n : ℕ) → n < 2 ^ 32 → int_wrap w64 (pos n) ≡ pos n
count_fits n h = int_wrap_fits w64 (pos n) (record { sfits = omega arith })

abbrev pub tallied : Column → List (List Cell) → Carry
tallied c rows = record { sum = total (numbers c rows); present = pos (length (numbers c rows)); rows = pos (length rows) }

pub tally_is : (c : Column) (rows : List (List Cell)) → length rows < 2 ^ 32 → RowsFit rows → fold (absorbed c) fresh rows ≡ tallied c rows
tally_is c rows few fit =
    let some : length (numbers c rows) < 2 ^ 32 = omega (arith, numbers_le c rows) in
    let s : int_wrap w64 (total (numbers c rows)) ≡ total (numbers c rows) = int_wrap_fits w64 (total (numbers c rows)) (total_fits (numbers c rows) some (numbers_fit c rows fit)) in
    let p : int_wrap w64 (pos (length (numbers c rows))) ≡ pos (length (numbers c rows)) = count_fits (length (numbers c rows)) some in
    let n : int_wrap w64 (pos (length rows)) ≡ pos (length rows) = count_fits (length rows) few in
    let t = fresh_tally c rows in
    cc

-- what is shown of such a carry

shows_any : (ns : List ℤ) (s n v : ℤ) → if_any (record { sum = s; present = pos (length ns); rows = n }) v ≡ null_of_none ns v
shows_any [] s n v = refl
shows_any (x ∷ xs) s n v = cond-true (ltb 0 (suc (length xs))) _ _ (lt-ltb 0 (suc (length xs)) (omega arith))

pub sum_is : (c : Column) (rows : List (List Cell)) → sum_shown (tallied c rows) ≡ sum_of (numbers c rows)
sum_is c rows = shows_any (numbers c rows) (total (numbers c rows)) (pos (length rows)) (total (numbers c rows))

quot_is : (z : ℤ) (n : ℕ) → quot_z z (pos n) ≡ per z n
quot_is (pos a) n = refl
quot_is (negsuc a) n = refl

pub mean_is : (c : Column) (rows : List (List Cell)) → mean_shown (tallied c rows) ≡ mean_of (numbers c rows)
mean_is c rows =
    let ns = numbers c rows in
    shows_any ns (total ns) (pos (length rows)) (quot_z (total ns) (pos (length ns))) ∙ ap (null_of_none ns) (quot_is (total ns) (length ns))
