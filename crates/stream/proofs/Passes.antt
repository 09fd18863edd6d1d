-- What a push that is not refused knows.
use Rattle.std.proofs.Common.{◌≡◌, ℕ, ◌+◌, ◌^◌, ◌<◌, ◌≤◌, false, List, length, None, arith}
use Rattle.searchers.specs.declared.rows.Row.{Row}
use Rattle.faults.specs.Numbers.{of_run}
use Rattle.tables.specs.Lists.{distinct}
use Rattle.book.specs.Calls.{Settings, Facts, push_causes, push_refusal}
use Rattle.faults.proofs.Causes.{no_cause, when_none, not_above}

pub record Passed {K R P : Type 0} (s : Settings K R P) (facts : Facts K) (batch : List (Row K)) (places : ℕ) : Type 0 where
  pub going : facts.finished ≡ false
  pub short : length batch ≤ 256
  pub countable : facts.accepted + length batch < 2 ^ 32
  pub waiting : facts.waiting + length batch ≤ 512
  pub kept : facts.kept + length batch ≤ 1024
  pub keys : length (distinct s.kind.same facts.held batch) ≤ 64
  pub output : facts.waiting + length batch ≤ places

pub passed : {K R P : Type 0} (s : Settings K R P) (facts : Facts K) (batch : List (Row K)) (places : ℕ) → push_refusal s facts batch places ≡ None → Passed s facts batch places
passed s facts batch places e =
    let none = no_cause (push_causes s facts batch places) e in
    let few = not_above 4294967295 (facts.accepted + length batch) (of_run 10 0) none.1.1.1.0 in
    record {
      going = when_none facts.finished (of_run 7 0) none.0;
      short = not_above 256 (length batch) (of_run 8 0) none.1.0;
      countable = omega arith;
      waiting = not_above 512 (facts.waiting + length batch) (of_run 11 0) none.1.1.1.1.0;
      kept = not_above 1024 (facts.kept + length batch) (of_run 12 0) none.1.1.1.1.1.0;
      keys = not_above 64 (length (distinct s.kind.same facts.held batch)) (of_run 13 0) none.1.1.1.1.1.1.0;
      output = not_above places (facts.waiting + length batch) (of_run 14 0) none.1.1.1.1.1.1.1.0;
    }
