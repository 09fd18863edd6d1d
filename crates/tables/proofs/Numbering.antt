-- The new places of held keys.
use Rattle.std.proofs.Common.{◌≡◌, ℕ, zero, suc, ◌+◌, ◌<◌, ◌≤◌, Bool, true, false, cond, List, [], ◌∷◌, ◌++◌, map, length, get_or, sym, refl, ap, ◌∙◌, inl, inr, add-one, arith}
use Rattle.std.specs.Option.{unwrap_or}
use Rattle.std.proofs.lemmas.List.{length_push, get_or_push, get_or_append_left}
use Rattle.std.proofs.lemmas.Option.{slice_get-get_or, slice_get_past}
use Rattle.std.proofs.lemmas.Bool.{cases_eq, cases_lt}
use Rattle.searchers.specs.declared.rows.Held.{Held}
use Rattle.searchers.specs.declared.rows.Waiting.{Waiting}
use Rattle.tables.specs.declared.numbers.NewPlaces.{NewPlaces}
use Rattle.tables.specs.Leaving.{Numbered, new_place, moved_by}
use Rattle.tables.specs.Lists.{value_at, renumbered, moved}
use Rattle.tables.specs.Rows.{rows}
use Rattle.tables.proofs.Holding.{value_read}

cond_suc : (b : Bool) (n m : ℕ) → cond b (n + m) (suc (n + m)) ≡ cond b n (suc n) + m
cond_suc true n m = refl
cond_suc false n m = omega arith

renumbered_first : {K P : Type 0} (held : List (Held K P)) → renumbered held 0 ≡ 0
renumbered_first [] = refl
renumbered_first (e ∷ held) = refl

renumbered_more : {K P : Type 0} (held : List (Held K P)) (p : ℕ) → renumbered held (suc p) ≡ renumbered held p + cond (value_at (λ e. e.ended) true held p) 0 1
renumbered_more [] p = omega arith
renumbered_more (e ∷ held) zero = ap (λ n. cond e.ended n (suc n)) (renumbered_first held) ∙ omega arith
renumbered_more (e ∷ held) (suc p) =
    ap (λ n. cond e.ended n (suc n)) (renumbered_more held p) ∙ cond_suc e.ended (renumbered held p) (cond (value_at (λ e. e.ended) true held p) 0 1)

renumbered_past : {K P : Type 0} (held : List (Held K P)) (p q : ℕ) → length held ≤ p → length held ≤ q → renumbered held p ≡ renumbered held q
renumbered_past [] p q a b = refl
renumbered_past (e ∷ held) zero q a b = absurd (omega arith)
renumbered_past (e ∷ held) (suc p) zero a b = absurd (omega arith)
renumbered_past (e ∷ held) (suc p) (suc q) a b =
    ap (λ n. cond e.ended n (suc n)) (renumbered_past held p q (omega arith) (omega arith))

-- the numbers of the held keys before i are there
pub record Numbering {K P : Type 0} (held : List (Held K P)) (new : List ℕ) (live i : ℕ) : Type 0 where
  pub long : length new ≡ i
  pub few : live ≤ i
  pub last : live ≡ renumbered held i
  pub each : (p : ℕ) → p < i → get_or new p 0 ≡ renumbered held p

pub numbering_none : {K P : Type 0} (held : List (Held K P)) {new : List ℕ} → new ≡ [] → Numbering held new 0 0
numbering_none held e = record { long = ap length e; few = omega arith; last = sym (renumbered_first held); each = λ p l. absurd (omega arith) }

module _ {K P : Type 0} {held : List (Held K P)} {new : List ℕ} {live i : ℕ} (q : Numbering held new live i) {e : Held K P} (h : i < length held) (is : e ≡ get_or held i e) where
  by_mark : (b : Bool) → e.ended ≡ b → renumbered held (i + 1) ≡ live + cond b 0 1
  by_mark b f =
      let next : renumbered held (i + 1) ≡ renumbered held i + cond (value_at (λ e. e.ended) true held i) 0 1 = ap (renumbered held) (add-one i) ∙ renumbered_more held i in
      let mark : b ≡ value_at (λ e. e.ended) true held i = sym f ∙ value_read (λ e. e.ended) true held i e h is in
      next ∙ ap (λ n. n + cond (value_at (λ e. e.ended) true held i) 0 1) (sym q.last) ∙ ap (λ b. live + cond b 0 1) (sym mark)

  pub numbering_more : (b : Bool) → e.ended ≡ b → (next : ℕ) → next ≡ live + cond b 0 1 → next ≤ live + 1 → {there : List ℕ} → there ≡ new ++ live ∷ [] → {j : ℕ} → j ≡ i + 1 → Numbering held there next j
  numbering_more b f next n le {there} made {j} on = record {
    long = ap length made ∙ length_push new live ∙ ap (λ n. n + 1) q.long ∙ sym on;
    few = omega (arith, q.few);
    last = n ∙ sym (by_mark b f) ∙ ap (renumbered held) (sym on);
    each = λ p l.
        ap (λ (c : List ℕ). get_or c p 0) made
        ∙ elim (cases_eq p i) [
          | inl s ↦ get_or_push new live 0 p (omega (arith, q.long)) ∙ q.last ∙ ap (renumbered held) (sym s)
          | inr ne ↦ get_or_append_left new (live ∷ []) 0 p (omega (arith, q.long)) ∙ q.each p (omega arith)
        ];
  }

  pub numbering_live : e.ended ≡ false → {there : List ℕ} → there ≡ new ++ live ∷ [] → {j : ℕ} → j ≡ i + 1 → Numbering held there (live + 1) j
  numbering_live f made on = numbering_more false f (live + 1) refl (omega arith) made on

  pub numbering_ended : e.ended ≡ true → {there : List ℕ} → there ≡ new ++ live ∷ [] → {j : ℕ} → j ≡ i + 1 → Numbering held there live j
  numbering_ended t made on = numbering_more true t live (omega arith) (omega arith) made on

pub numbering_all : {K P : Type 0} {held : List (Held K P)} (new : NewPlaces) {i : ℕ} → Numbering held (rows new.places) new.live i → i ≡ length held → Numbered held new
numbering_all {held = held} new q all = record { long = q.long ∙ all; each = λ p l. q.each p (omega arith); past = q.last ∙ ap (renumbered held) all }

pub new_place_is : {K P : Type 0} (held : List (Held K P)) (new : NewPlaces) → Numbered held new → (p : ℕ) → new_place new p ≡ renumbered held p
new_place_is held new q p =
    let places : List ℕ = rows new.places in
    elim (cases_lt p (length places)) [
      | inl low ↦ ap (λ o. unwrap_or o new.live) (slice_get-get_or places p 0 low) ∙ q.each p (omega (arith, q.long))
      | inr past ↦ ap (λ o. unwrap_or o new.live) (slice_get_past places p past) ∙ q.past ∙ renumbered_past held (length held) p (omega arith) (omega (arith, q.long))
    ]

pub moved_is : {K R P : Type 0} (held : List (Held K P)) (new : NewPlaces) → Numbered held new → (ws : List (Waiting K R)) → map (moved_by new) ws ≡ map (moved held) ws
moved_is held new q [] = refl
moved_is held new q (w ∷ ws) =
    ap (λ p. record { row = w.row; place = p; rank = w.rank; results = w.results } ∷ map (moved_by new) ws) (new_place_is held new q w.place)
    ∙ ap (λ l. moved held w ∷ l) (moved_is held new q ws)

-- waiting rows that were moved by numbers of the held keys
pub moved_by_numbers : {K R P : Type 0} {held : List (Held K P)} {new : NewPlaces} → Numbered held new → {ws left there : List (Waiting K R)} → left ≡ ws → there ≡ map (moved_by new) left → there ≡ map (moved held) ws
moved_by_numbers {held = held} {new = new} q {ws} {left} {there} are made = made ∙ ap (map (moved_by new)) are ∙ moved_is held new q ws
