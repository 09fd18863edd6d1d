-- How many rows wait after each step of a push.
use Rattle.std.proofs.Common.{◌≡◌, ℕ, zero, suc, ◌+◌, ◌-◌, ◌≤◌, Bool, List, [], ◌∷◌, map, length, take, drop, ◌∙◌, arith}
use Rattle.std.proofs.lemmas.List.{length-append, length-map, length-drop, length-take-le}
use Rattle.searchers.specs.declared.rows.Row.{Row}
use Rattle.tables.specs.Lists.{Lists, out_row, admit, admitted, mark, moved, let_go}
use Rattle.aggregates.specs.Figures.{Figures}
use Rattle.aggregates.specs.CatchingUp.{written}
use Rattle.stream.specs.Steps.{readied_with}

module _ {K R P : Type 0} where
  waiting_admitted : (same : K → K → Bool) (start : P) (blank : R) (t : Lists K R P) (batch : List (Row K)) → length (admit same start blank t batch).waiting ≡ length t.waiting + length batch
  waiting_admitted same start blank t [] = omega arith
  waiting_admitted same start blank t (row ∷ batch) =
      let one = admitted same start blank t row in
      let more : length one.waiting ≡ length t.waiting + 1 = length-append t.waiting _ in
      omega (arith, more, waiting_admitted same start blank one batch)

  pub waiting_readied : (same : K → K → Bool) (f : Figures P R) (ended : K → Bool) (t : Lists K R P) (batch : List (Row K)) → length (readied_with same f ended t batch).waiting ≡ length t.waiting + length batch
  waiting_readied same f ended t batch =
      let a = admit same f.start f.blank t batch in
      length-map a.waiting (written f a.kept (mark ended a).held) ∙ waiting_admitted same f.start f.blank t batch

  pub waiting_left : (reach n : ℕ) (t : Lists K R P) → length (let_go reach n t).waiting ≡ length t.waiting - n
  waiting_left reach zero t = omega arith
  waiting_left reach (suc n) t = length-map (drop (suc n) t.waiting) (moved t.held) ∙ length-drop (suc n) t.waiting

  pub put_long : (n : ℕ) (t : Lists K R P) → n ≤ length t.waiting → length (map out_row (take n t.waiting)) ≡ n
  put_long n t few = length-map (take n t.waiting) out_row ∙ length-take-le n t.waiting few
