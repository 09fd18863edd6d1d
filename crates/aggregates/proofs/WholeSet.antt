-- The figures of a set, in their four places.
use Rattle.std.proofs.Common.{◌≡◌, ℕ, zero, suc, ◌+◌, ◌-◌, ◌<◌, ◌≤◌, Bool, true, false, List, [], ◌∷◌, ◌++◌, map, length, take, drop, set, replicate, Some, sym, refl, ap, ◌∙◌, add-one, arith, None}
use Rattle.std.specs.List.{slice_get, AllByRecursion}
use Rattle.std.proofs.ByRecursion.{All-weaker, all_from_every}
use mathlib.Core.Path.{fun_ext}
use Rattle.std.proofs.lemmas.List.{replicate-append-replicate}
use Rattle.std.proofs.lemmas.Simd.{splat_is_map}
use Rattle.std.proofs.lemmas.Bool.{le-ltb, lt-ltb, cond-true, cond-false}
use Rattle.figures.specs.declared.carry.Carry.{Carry}
use Rattle.figures.specs.declared.set.FigureSet.{FigureSet}
use Rattle.figures.specs.declared.set.FigureSet.TheVariants.{One, Two, Three, Four}
use Rattle.figures.specs.declared.figure.Figure as figure
use Rattle.figures.specs.Carries.{fresh}
use Rattle.figures.specs.Catching.{is_due, KeepsUp}
use Rattle.figures.specs.Results.{outcome_of}
use Rattle.figures.specs.Sets.{figures, largest}
use Rattle.figures.specs.Cells.{Cell, Outcome}
use Rattle.figures.proofs.Largest.{set_largest}
use Rattle.aggregates.specs.Figures.{Theory}
use Rattle.aggregates.specs.Sets.{four, next_carries, next_results, if_due, set_figures}
use Rattle.aggregates.proofs.FigureByFigure.{at_front}
use Rattle.aggregates.proofs.OneFigure.{carry_of, carry_on, result_on}

pub set_few : {F : Type 0} (set : FigureSet F) → length (figures set) ≤ 4
set_few (One f) = omega arith
set_few (Two f g) = omega arith
set_few (Three f g h) = omega arith
set_few (Four f g h j) = omega arith

-- a figure that an iterator gives stands in one of the four places
pub turn_low : {F : Type 0} (set : FigureSet F) (j : ℕ) (f : F) (left rest : List F) → left ≡ drop j (figures set) → left ≡ f ∷ rest → j < 4
turn_low set j f left rest at gives = omega (arith, (at_front j (figures set) f rest (sym at ∙ gives)).2, set_few set)

module _ {F X : Type 0} where
  map_same : (v w : F → X) (fs : List F) → AllByRecursion (λ f. v f ≡ w f) fs → map v fs ≡ map w fs
  map_same v w [] h = refl
  map_same v w (f ∷ fs) h = ap (λ x. x ∷ map v fs) h.0 ∙ ap (λ xs. w f ∷ xs) (map_same v w fs h.1)

  four_same : (d : X) (v w : F → X) (fs : List F) → AllByRecursion (λ f. v f ≡ w f) fs → four d v fs ≡ four d w fs
  four_same d v w fs h = ap (λ xs. xs ++ replicate (4 - length fs) d) (map_same v w fs h)

  four_constant : (d : X) (fs : List F) → length fs ≤ 4 → four d (λ f. d) fs ≡ replicate 4 d
  four_constant d fs few =
      ap (λ xs. xs ++ replicate (4 - length fs) d) (sym (splat_is_map fs (length fs) d refl))
      ∙ replicate-append-replicate (length fs) (4 - length fs) d
      ∙ ap (λ n. replicate n d) (let e : length fs + (4 - length fs) ≡ 4 = omega arith in e)

  -- the value of one figure more
  four_suc : (d : X) (v : F → X) (fs : List F) (j n : ℕ) (f : F) → length fs ≤ n → slice_get fs j ≡ Some f
      → set (map v (take j fs) ++ replicate (n - length (take j fs)) d) j (v f) ≡ map v (take (suc j) fs) ++ replicate (n - length (take (suc j) fs)) d
  four_suc d v [] j n f few e = let z : ◌≡◌ {A = ℕ} 0 1 = cc in absurd (let y : ⊥ = omega arith in y)
  four_suc d v (h ∷ fs) j zero f few e = absurd (let y : ⊥ = omega arith in y)
  four_suc d v (h ∷ fs) zero (suc n) f few e =
      ap (λ m. set (replicate m d) 0 (v f)) (let q : suc n - 0 ≡ suc n = omega arith in q)
      ∙ ap (λ x. v x ∷ replicate n d) (let q : f ≡ h = cc in q)
      ∙ ap (λ m. v h ∷ replicate m d) (let q : n ≡ suc n - 1 = omega arith in q)
  four_suc d v (h ∷ fs) (suc j) (suc n) f few e =
      ap (λ m. set (v h ∷ (map v (take j fs) ++ replicate m d)) (suc j) (v f)) (let q : suc n - suc (length (take j fs)) ≡ n - length (take j fs) = omega arith in q)
      ∙ ap (λ xs. v h ∷ xs) (four_suc d v fs j n f (omega arith) e)
      ∙ ap (λ m. v h ∷ (map v (take (suc j) fs) ++ replicate m d)) (let q : n - length (take (suc j) fs) ≡ suc n - suc (length (take (suc j) fs)) = omega arith in q)

  pub four_more : (d : X) (v : F → X) (fs : List F) (j : ℕ) (f : F) → length fs ≤ 4 → slice_get fs j ≡ Some f → set (four d v (take j fs)) j (v f) ≡ four d v (take (j + 1) fs)
  four_more d v fs j f few e = rw add-one (four_suc d v fs j 4 f few e)

module _ {F : Type 0} (g : figure.Ghosts F) (theory : KeepsUp g) where
  module _ (w : ℕ) (xs ys : List (List Cell)) (ended : Bool) (d : ℕ) (kept : d ≤ length xs - w) where
    carries_on : (fs : List F) (rest : List Carry) → AllByRecursion (λ f. g.back f + g.ahead f ≤ w) fs
        → next_carries g (length xs) (length (xs ++ ys)) ended (drop d (xs ++ ys)) fs (map (carry_of g false xs) fs ++ rest) ≡ map (carry_of g ended (xs ++ ys)) fs ++ rest
    carries_on [] rest h = refl
    carries_on (f ∷ fs) rest h =
        ap (λ k. k ∷ next_carries g (length xs) (length (xs ++ ys)) ended (drop d (xs ++ ys)) fs (map (carry_of g false xs) fs ++ rest)) (carry_on g theory f w h.0 xs ys ended d kept)
        ∙ ap (λ ks. carry_of g ended (xs ++ ys) f ∷ ks) (carries_on fs rest h.1)

    results_on : (i : ℕ) → i < length (xs ++ ys) → (fs : List F) (ks : List Carry) (os : List Outcome) → AllByRecursion (λ f. g.back f + g.ahead f ≤ w) fs
        → next_results g (length xs) (length (xs ++ ys)) ended (drop d (xs ++ ys)) fs (map (carry_of g false xs) fs ++ ks) i (map (if_due g false xs i) fs ++ os) ≡ map (if_due g ended (xs ++ ys) i) fs ++ os
    results_on i l [] ks os h = refl
    results_on i l (f ∷ fs) ks os h =
        ap (λ o. o ∷ next_results g (length xs) (length (xs ++ ys)) ended (drop d (xs ++ ys)) fs (map (carry_of g false xs) fs ++ ks) i (map (if_due g false xs i) fs ++ os)) (result_on g theory f w h.0 xs ys ended d kept i l)
        ∙ ap (λ o. if_due g ended (xs ++ ys) i f ∷ o) (results_on i l fs ks os h.1)

  pub supplied : (set : FigureSet F) → Theory (set_figures g set)
  supplied set =
      let fs : List F = figures set in
      let reaches : AllByRecursion (λ f. g.back f + g.ahead f ≤ largest (λ f. g.back f + g.ahead f) (figures set)) (figures set) = all_from_every _ (figures set) (λ k d l h. (set_largest (λ f. g.back f + g.ahead f) set).covers k d h) in
      let aheads : AllByRecursion (λ f. g.ahead f ≤ largest g.ahead (figures set)) (figures set) = all_from_every _ (figures set) (λ k d l h. (set_largest g.ahead set).covers k d h) in
      let w : ℕ = largest (λ f. g.back f + g.ahead f) fs in
      let a : ℕ = largest g.ahead fs in
      record {
        state = λ xs. record { rows = length xs; carries = four fresh (carry_of g false xs) fs };
        starts = ap (λ (ks : List Carry). record { rows = 0; carries = ks }) (ap (λ (v : F → Carry). four fresh v fs) (fun_ext (λ f. (theory.starts f 0).carry)));
        blanks = λ xs i h.
            sym (four_constant None fs (set_few set))
            ∙ ap (λ (v : F → Outcome). four None v fs) (fun_ext (λ f. sym (cond-false (is_due (length xs) false (g.ahead f) i) (outcome_of g f xs i) None (le-ltb (i + g.ahead f) (length xs) (omega arith)))));
        ready = λ xs i h. four_same None (if_due g false xs i) (λ f. outcome_of g f xs i) fs (All-weaker _ _ (λ f l. cond-true (is_due (length xs) false (g.ahead f) i) (outcome_of g f xs i) None (lt-ltb (i + g.ahead f) (length xs) (omega arith))) fs aheads);
        lasts = λ xs ys i h. four_same None (λ f. outcome_of g f (xs ++ ys) i) (λ f. outcome_of g f xs i) fs (All-weaker _ _ (λ f l. theory.stable f xs ys i (omega arith)) fs aheads);
        forwards = λ xs ys d h. ap (λ (ks : List Carry). record { rows = length (xs ++ ys); carries = ks }) (carries_on w xs ys false d h fs (replicate (4 - length fs) fresh) reaches);
        writes = λ xs ys d h i l. results_on w xs ys false d h i l fs (replicate (4 - length fs) fresh) (replicate (4 - length fs) None) reaches;
        ends = λ xs ys d h i l. results_on w xs ys true d h i l fs (replicate (4 - length fs) fresh) (replicate (4 - length fs) None) reaches;
      }
