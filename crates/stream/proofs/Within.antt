-- No key has more rows than were accepted: each step of a call keeps that.
use Rattle.std.proofs.Common.{◌≡◌, ℕ, zero, suc, ◌+◌, ◌≤◌, Bool, true, false, cond, ◌&&◌, leb, List, [], ◌∷◌, map, length, filter, refl, ap, ◌∙◌, arith}
use Rattle.std.proofs.lemmas.Bool.Decides.{nat_tests}
use Rattle.searchers.specs.declared.rows.Row.{Row}
use Rattle.searchers.specs.declared.rows.Held.{Held}
use Rattle.searchers.specs.Ends.{marked}
use Rattle.tables.specs.declared.rows.Kept.{Kept}
use Rattle.tables.specs.Lists.{Lists, within, one_more, counted_in, admit, admitted, let_go}
use Rattle.aggregates.specs.Figures.{Figures}
use Rattle.aggregates.specs.CatchingUp.{forwarded}
use Rattle.stream.specs.Steps.{readied_with}

both : (a b : Bool) → a ≡ true → b ≡ true → (a && b) ≡ true
both a b p q = ap (λ x. x && b) p ∙ q

first_of_both : (a b : Bool) → (a && b) ≡ true → a ≡ true
first_of_both true b e = refl
first_of_both false b e = e

second_of_both : (a b : Bool) → (a && b) ≡ true → b ≡ true
second_of_both true b e = e
second_of_both false b e = let z : ◌≡◌ {A = ℕ} 0 1 = cc in absurd (omega arith)

at_most_more : (r m n : ℕ) → m ≤ n → leb r m ≡ true → leb r n ≡ true
at_most_more r m n more h = grind (arith, nat_tests)

one_at_most_more : (r m : ℕ) → leb r m ≡ true → leb (r + 1) (m + 1) ≡ true
one_at_most_more r m h = grind (arith, nat_tests)

module _ {K P : Type 0} where
  within_more : (m n : ℕ) (held : List (Held K P)) → m ≤ n → within m held ≡ true → within n held ≡ true
  within_more m n [] more h = refl
  within_more m n (e ∷ held) more h = both _ _ (at_most_more e.rows m n more (first_of_both _ _ h)) (within_more m n held more (second_of_both _ _ h))

  within_counted : (same : K → K → Bool) (start : P) (key : K) (m : ℕ) (held : List (Held K P)) → within m held ≡ true → within (m + 1) (counted_in same start key held) ≡ true
  within_counted same start key m [] h = both _ _ (one_at_most_more 0 m (let e : leb 0 m ≡ true = grind (arith, nat_tests) in e)) refl
  within_counted same start key m (e ∷ held) h =
      elim (same e.key key) as (λ b. within (m + 1) (cond b (one_more e ∷ held) (e ∷ counted_in same start key held)) ≡ true) [
        | true ↦ both _ _ (one_at_most_more e.rows m (first_of_both _ _ h)) (within_more m (m + 1) held (omega arith) (second_of_both _ _ h))
        | false ↦ both _ _ (at_most_more e.rows m (m + 1) (omega arith) (first_of_both _ _ h)) (within_counted same start key m held (second_of_both _ _ h))
      ]

  within_kept : (p : Held K P → Bool) (m : ℕ) (held : List (Held K P)) → within m held ≡ true → within m (filter p held) ≡ true
  within_kept p m [] h = refl
  within_kept p m (e ∷ held) h =
      elim (p e) as (λ b. within m (cond b (e ∷ filter p held) (filter p held)) ≡ true)
      [ true ↦ both _ _ (first_of_both _ _ h) (within_kept p m held (second_of_both _ _ h)) | false ↦ within_kept p m held (second_of_both _ _ h) ]

  within_marked : (ended : K → Bool) (m : ℕ) (held : List (Held K P)) → within m (map (marked ended) held) ≡ within m held
  within_marked ended m [] = refl
  within_marked ended m (e ∷ held) = ap (λ b. leb e.rows m && b) (within_marked ended m held)

  within_forwarded : {R : Type 0} (f : Figures P R) (kept : List (Kept K)) (p m : ℕ) (held : List (Held K P)) → within m (forwarded f kept p held) ≡ within m held
  within_forwarded f kept p m [] = refl
  within_forwarded f kept p m (e ∷ held) = ap (λ b. leb e.rows m && b) (within_forwarded f kept (suc p) m held)

module _ {K R P : Type 0} where
  within_admitted : (same : K → K → Bool) (start : P) (blank : R) (m : ℕ) (t : Lists K R P) (batch : List (Row K)) → within m t.held ≡ true → within (m + length batch) (admit same start blank t batch).held ≡ true
  within_admitted same start blank m t [] h = within_more m (m + 0) t.held (omega arith) h
  within_admitted same start blank m t (row ∷ batch) h =
      within_more (m + 1 + length batch) (m + suc (length batch)) _ (omega arith)
      (within_admitted same start blank (m + 1) (admitted same start blank t row) batch (within_counted same start row.key m t.held h))

  -- the batch admitted, ended keys marked, results worked out
  within_readied : (same : K → K → Bool) (f : Figures P R) (ended : K → Bool) (m : ℕ) (t : Lists K R P) (batch : List (Row K)) → within m t.held ≡ true → within (m + length batch) (readied_with same f ended t batch).held ≡ true
  within_readied same f ended m t batch h =
      let a = admit same f.start f.blank t batch in
      within_forwarded f a.kept 0 (m + length batch) (map (marked ended) a.held) ∙ within_marked ended (m + length batch) a.held ∙ within_admitted same f.start f.blank m t batch h

  -- rows that left
  within_left : (reach n m : ℕ) (t : Lists K R P) → within m t.held ≡ true → within m (let_go reach n t).held ≡ true
  within_left reach zero m t h = h
  within_left reach (suc n) m t h = within_kept _ m t.held h

  pub within_pushed : (same : K → K → Bool) (f : Figures P R) (ended : K → Bool) (reach n m : ℕ) (t : Lists K R P) (batch : List (Row K))
      → within m t.held ≡ true → within (m + length batch) (let_go reach n (readied_with same f ended t batch)).held ≡ true
  within_pushed same f ended reach n m t batch h = within_left reach n (m + length batch) (readied_with same f ended t batch) (within_readied same f ended m t batch h)
