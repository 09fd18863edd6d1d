-- One turn of the loop over the held keys: those before a place are caught up.
use Rattle.std.proofs.Common.{◌≡◌, ℕ, zero, suc, ◌+◌, ◌<◌, ◌≤◌, List, [], ◌∷◌, ◌++◌, map, length, get_or, take, drop, set, sym, refl, ap, ◌∙◌, ⊎_elim, append-nil, add-one, arith}
use mathlib.Core.List.{map-map}
use mathlib.Core.Path.{fun_ext}
use Rattle.std.proofs.lemmas.List.{take_all, drop_all, set-get_or}
use Rattle.std.proofs.lemmas.Bool.{cases_eq, eq-eqb, ne_eqb}
use Rattle.searchers.specs.declared.rows.Waiting.{Waiting}
use Rattle.searchers.specs.declared.rows.Held.{Held}
use Rattle.tables.specs.declared.rows.Kept.{Kept}
use Rattle.tables.specs.Lists.{Lists, value_at}
use Rattle.aggregates.specs.Figures.{Figures}
use Rattle.aggregates.specs.CatchingUp.{cells_at, forwarded_key, forwarded, written, caught_up}
use Rattle.aggregates.specs.Writing.{rewritten, all_rewritten}
use Rattle.aggregates.proofs.Rewriting.{at_place, elsewhere, all_unchanged}

module _ {X Y : Type 0} (f : X → Y) (d : Y) where
  value_past : (xs : List X) (p i : ℕ) → p ≤ i → value_at f d (take p xs) i ≡ d
  value_past [] zero i h = refl
  value_past [] (suc p) i h = refl
  value_past (x ∷ xs) zero i h = refl
  value_past (x ∷ xs) (suc p) zero h = absurd (let z : ⊥ = omega arith in z)
  value_past (x ∷ xs) (suc p) (suc i) h = value_past xs p i (omega arith)

  value_last : (xs : List X) (p : ℕ) (x : X) → p < length xs → x ≡ get_or xs p x → value_at f d (take (suc p) xs) p ≡ f x
  value_last [] p x h e = absurd (let z : ⊥ = omega arith in z)
  value_last (y ∷ xs) zero x h e = ap f (sym e)
  value_last (y ∷ xs) (suc p) x h e = value_last xs p x (omega arith) e

  value_other : (xs : List X) (p i : ℕ) → (i ≡ p → ⊥) → value_at f d (take p xs) i ≡ value_at f d (take (suc p) xs) i
  value_other [] zero i h = refl
  value_other [] (suc p) i h = refl
  value_other (x ∷ xs) zero zero h = absurd (h refl)
  value_other (x ∷ xs) zero (suc i) h = refl
  value_other (x ∷ xs) (suc p) zero h = refl
  value_other (x ∷ xs) (suc p) (suc i) h = value_other xs p i (λ e. h (ap suc e))

module _ {K R P : Type 0} (f : Figures P R) (kept : List (Kept K)) where
  -- the first p of the held keys are forwarded, the first of which has the place q
  abbrev front : ℕ → ℕ → List (Held K P) → List (Held K P)
  front q p held = forwarded f kept q (take p held) ++ drop p held

  length_front : (q p : ℕ) (held : List (Held K P)) → length (front q p held) ≡ length held
  length_front q zero held = refl
  length_front q (suc p) [] = refl
  length_front q (suc p) (e ∷ held) = ap suc (length_front (suc q) p held)

  front_next : (q p : ℕ) (held : List (Held K P)) (d : Held K P) → get_or (front q p held) p d ≡ get_or held p d
  front_next q zero held d = refl
  front_next q (suc p) [] d = refl
  front_next q (suc p) (e ∷ held) d = front_next (suc q) p held d

  front_suc : (q p at : ℕ) (held : List (Held K P)) (e : Held K P) → p < length held → e ≡ get_or held p e → q + p ≡ at → set (front q p held) p (forwarded_key f kept at e) ≡ front q (suc p) held
  front_suc q p at [] e h is there = absurd (let z : ⊥ = omega arith in z)
  front_suc q zero at (x ∷ held) e h is there = ap (λ y. forwarded_key f kept at y ∷ held) is ∙ ap (λ n. forwarded_key f kept n x ∷ held) (let z : at ≡ q = omega arith in z)
  front_suc q (suc p) at (x ∷ held) e h is there = ap (λ r. forwarded_key f kept q x ∷ r) (front_suc (suc q) p at held e (omega arith) is (omega arith))

  written_suc : (p : ℕ) (held : List (Held K P)) (e : Held K P) → p < length held → e ≡ get_or held p e → (w : Waiting K R)
      → rewritten p (f.write e.progress e.rows e.ended (cells_at p kept)) (written f kept (take p held) w) ≡ written f kept (take (suc p) held) w
  written_suc p held e h is w =
      let put : R → Waiting K R = λ r. record { row = w.row; place = w.place; rank = w.rank; results = r } in
      let new : ℕ → R → R = f.write e.progress e.rows e.ended (cells_at p kept) in
      let by : ℕ → Held K P → R = λ q x. f.write x.progress x.rows x.ended (cells_at q kept) w.rank w.results in
      ⊎_elim
      (λ (here : w.place ≡ p).
      at_place p new (written f kept (take p held) w) (eq-eqb w.place p here)
      ∙ ap (λ r. put (f.write e.progress e.rows e.ended (cells_at p kept) w.rank r)) (value_past (by w.place) w.results held p w.place (omega arith))
      ∙ ap (λ q. put (by q e)) (sym here)
      ∙ ap put (sym (value_last (by w.place) w.results held p e h is))
      ∙ ap (λ q. put (value_at (by w.place) w.results (take (suc p) held) q)) (sym here))
      (λ (away : w.place ≡ p → ⊥).
      elsewhere p new (written f kept (take p held) w) (ne_eqb w.place p away)
      ∙ ap put (value_other (by w.place) w.results held p w.place away))
      (cases_eq w.place p)

  front_more : (p : ℕ) (held : List (Held K P)) (e : Held K P) → p < length held → e ≡ get_or held p e → set (front 0 p held) p (forwarded_key f kept p e) ≡ front 0 (p + 1) held
  front_more p held e h is = rw add-one (front_suc 0 p p held e h is (omega arith))

  written_more : (p : ℕ) (held : List (Held K P)) (e : Held K P) → p < length held → e ≡ get_or held p e → (waiting : List (Waiting K R))
      → all_rewritten p (f.write e.progress e.rows e.ended (cells_at p kept)) (map (written f kept (take p held)) waiting) ≡ map (written f kept (take (p + 1) held)) waiting
  written_more p held e h is waiting =
      map-map (rewritten p (f.write e.progress e.rows e.ended (cells_at p kept))) (written f kept (take p held)) waiting
      ∙ rw add-one (ap (λ (change : Waiting K R → Waiting K R). map change waiting) (fun_ext (written_suc p held e h is)))

  written_none : (waiting : List (Waiting K R)) → map (written f kept []) waiting ≡ waiting
  written_none [] = refl
  written_none (w ∷ waiting) = ap (λ r. w ∷ r) (written_none waiting)

-- the lists, with the keys before the place p caught up
abbrev pub caught_up_to : {K R P : Type 0} → Figures P R → ℕ → Lists K R P → Lists K R P
caught_up_to f p t = record {
  held = front f t.kept 0 p t.held;
  waiting = map (written f t.kept (take p t.held)) t.waiting;
  kept = t.kept;
}

module _ {K R P : Type 0} (f : Figures P R) (t : Lists K R P) where
  pub as_many_held : (p : ℕ) (now : Lists K R P) → now ≡ caught_up_to f p t → length now.held ≡ length t.held
  as_many_held p now e = ap (λ n. length n.held) e ∙ length_front f t.kept 0 p t.held

  pub caught_up_none : t ≡ caught_up_to f 0 t
  caught_up_none = ap (λ (ws : List (Waiting K R)). record { held = t.held; waiting = ws; kept = t.kept }) (sym (written_none f t.kept t.waiting))

  pub caught_up_all : (p : ℕ) → length t.held ≤ p → caught_up_to f p t ≡ caught_up f t
  caught_up_all p h =
      let all : take p t.held ≡ t.held = take_all p t.held h in
      ap (λ (hs : List (Held K P)). record { held = hs; waiting = map (written f t.kept (take p t.held)) t.waiting; kept = t.kept })
      (ap (λ hs. forwarded f t.kept 0 hs ++ drop p t.held) all ∙ ap (λ hs. forwarded f t.kept 0 t.held ++ hs) (drop_all p t.held h) ∙ append-nil (forwarded f t.kept 0 t.held))
      ∙ ap (λ hs. record { held = forwarded f t.kept 0 t.held; waiting = map (written f t.kept hs) t.waiting; kept = t.kept }) all

  -- one key more: e is its entry
  module _ (p : ℕ) (e : Held K P) (now after : Lists K R P) (h : p < length t.held) (so_far : now ≡ caught_up_to f p t) (is : e ≡ get_or now.held p e) where
    read : e ≡ get_or t.held p e
    read = is ∙ ap (λ n. get_or n.held p e) so_far ∙ front_next f t.kept 0 p t.held e

    pub caught_up_more : after.held ≡ set now.held p (forwarded_key f now.kept p e)
        → after.waiting ≡ all_rewritten p (f.write e.progress e.rows e.ended (cells_at p now.kept)) now.waiting → after.kept ≡ now.kept → after ≡ caught_up_to f (p + 1) t
    caught_up_more held waiting kept =
        let next : Lists K R P = caught_up_to f (p + 1) t in
        ap (λ (hs : List (Held K P)). record { held = hs; waiting = after.waiting; kept = after.kept })
        (held ∙ ap (λ n. set n.held p (forwarded_key f n.kept p e)) so_far ∙ front_more f t.kept p t.held e h read)
        ∙ ap (λ (ws : List (Waiting K R)). record { held = next.held; waiting = ws; kept = after.kept })
        (waiting
        ∙ ap (λ n. all_rewritten p (f.write e.progress e.rows e.ended (cells_at p n.kept)) n.waiting) so_far
        ∙ written_more f t.kept p t.held e h read t.waiting)
        ∙ ap (λ (ks : List (Kept K)). record { held = next.held; waiting = next.waiting; kept = ks }) (kept ∙ ap (λ n. n.kept) so_far)

    -- where nothing came for the key
    pub caught_up_idle : after ≡ now → f.forward e.progress e.rows e.ended (cells_at p now.kept) ≡ e.progress
        → ((i : ℕ) (r : R) → f.write e.progress e.rows e.ended (cells_at p now.kept) i r ≡ r) → after ≡ caught_up_to f (p + 1) t
    caught_up_idle same progress results =
        caught_up_more
        (ap (λ n. n.held) same
        ∙ sym
        (ap (λ (q : P). set now.held p (record { key = e.key; rows = e.rows; ended = e.ended; progress = q })) progress
        ∙ ap (set now.held p) is
        ∙ set-get_or now.held p e))
        (ap (λ n. n.waiting) same ∙ sym (all_unchanged p _ results now.waiting))
        (ap (λ n. n.kept) same)
