-- What push and finish do, on the lists that a run holds.
use Rattle.std.specs.Prelude.{ℕ, ◌+◌, Bool, true, false, ◌||◌, List, [], ◌∷◌, map, length, take, Some, None, Option, nat_lt}
use Rattle.std.specs.declared.cmp.Ordering.{Ordering}
use Rattle.std.specs.List.{prefix_len}
use Rattle.searchers.specs.declared.modes.Mode.{Mode}
use Rattle.searchers.specs.declared.rows.Row.{Row}
use Rattle.searchers.specs.declared.rows.Waiting.{Waiting}
use Rattle.searchers.specs.declared.rows.Held.{Held}
use Rattle.searchers.specs.Order.{keys_of, lower, first_fall}
use Rattle.searchers.specs.Ends.{ended_at}
use Rattle.faults.specs.declared.told.Told.{Told}
use Rattle.std.specs.Bool.{then_some}
use Rattle.faults.specs.Causes.{first_of}
use Rattle.faults.specs.Numbers.{of_run}
use Rattle.tables.specs.declared.rows.OutRow.{OutRow}
use Rattle.tables.specs.Lists.{Lists, none, value_at, held_keys, distinct, admit, mark, out_row, let_go}
use Rattle.aggregates.specs.Figures.{Figures}
use Rattle.aggregates.specs.CatchingUp.{caught_up}

-- a key kind: its equality, the order of keys, the order of their sorted parts
pub record Kind (K : Type 0) : Type 0 where
  pub same : K → K → Bool
  pub order : K → K → Ordering
  pub parts : K → K → Ordering

abbrev pub kind_by : {K : Type 0} → (same : K → K → Bool) (order parts : K → K → Ordering) → Kind K
kind_by same order parts = record { same = same; order = order; parts = parts }

pub record Settings (K R P : Type 0) : Type 0 where
  pub kind : Kind K
  pub mode : Mode
  pub figures : Figures P R

-- what a run holds
pub record View (K R P : Type 0) : Type 0 where
  pub tables : Lists K R P
  pub last : Option K
  pub accepted : ℕ
  pub out : ℕ
  pub finished : Bool

-- a new run
abbrev pub fresh : {K R P : Type 0} → View K R P
fresh = record { tables = none; last = None; accepted = 0; out = 0; finished = false }

-- the key of the last of some rows, or the one before them
abbrev pub last_key : {K : Type 0} → Option K → List (Row K) → Option K
last_key last [] = last
last_key last (row ∷ rows) = last_key (Some row.key) rows

-- The refusals of a call

-- what the checks look at: whether the run is finished, the last accepted key, how many rows were accepted, wait and are kept, and the keys held
pub record Facts (K : Type 0) : Type 0 where
  pub finished : Bool
  pub last : Option K
  pub accepted : ℕ
  pub waiting : ℕ
  pub kept : ℕ
  pub held : List K

abbrev pub out_of_order : Option ℕ → Option Told
out_of_order None = None
out_of_order (Some row) = Some (of_run 9 row)

-- that there is no room: for the rows that wait, for the rows that are kept, for the keys, and in the output, where it has so many places
abbrev pub room_causes : {K : Type 0} → (K → K → Bool) → ℕ → ℕ → List K → List (Row K) → ℕ → List (Option Told)
room_causes same waiting kept held batch places =
    then_some (nat_lt 512 (waiting + length batch)) (of_run 11 0)
    ∷ then_some (nat_lt 1024 (kept + length batch)) (of_run 12 0)
    ∷ then_some (nat_lt 64 (length (distinct same held batch))) (of_run 13 0)
    ∷ then_some (nat_lt places (waiting + length batch)) (of_run 14 0)
    ∷ []

module _ {K R P : Type 0} (s : Settings K R P) where
  -- the causes against a push in the order in which they are looked for
  abbrev pub push_causes : Facts K → List (Row K) → ℕ → List (Option Told)
  push_causes facts batch places =
      then_some facts.finished (of_run 7 0)
      ∷ then_some (nat_lt 256 (length batch)) (of_run 8 0)
      ∷ out_of_order (first_fall (lower s.mode s.kind.order s.kind.parts) facts.last 0 (keys_of batch))
      ∷ then_some (nat_lt 4294967295 (facts.accepted + length batch)) (of_run 10 0)
      ∷ room_causes s.kind.same facts.waiting facts.kept facts.held batch places

  abbrev pub push_refusal : Facts K → List (Row K) → ℕ → Option Told
  push_refusal facts batch places = first_of (push_causes facts batch places)

  -- and against a finish
  abbrev pub finish_refusal : Facts K → ℕ → Option Told
  finish_refusal facts places = first_of (then_some facts.finished (of_run 7 0) ∷ then_some (nat_lt places facts.waiting) (of_run 14 0) ∷ [])

abbrev pub view_facts : {K R P : Type 0} → View K R P → Facts K
view_facts v = record {
  finished = v.finished;
  last = v.last;
  accepted = v.accepted;
  waiting = length v.tables.waiting;
  kept = length v.tables.kept;
  held = held_keys v.tables.held;
}

-- The calls

-- a waiting row is settled: so many later rows of its key have come, or its key has ended
abbrev pub settled : {K R P : Type 0} → ℕ → List (Held K P) → Waiting K R → Bool
settled ahead held w = value_at (λ e. nat_lt (w.rank + ahead) e.rows || e.ended) false held w.place

-- how many rows leave: the longest front that is settled throughout
abbrev pub leaving : {K R P : Type 0} → ℕ → Lists K R P → ℕ
leaving ahead t = prefix_len (settled ahead t.held) t.waiting

-- what a call gives: the cause against it, if there is one, what the run holds after it, and the rows that it put out
pub record After (K R P : Type 0) : Type 0 where
  pub fault : Option Told
  pub view : View K R P
  pub put : List (OutRow K R)

-- a refused call changes nothing and puts nothing out
abbrev pub unless : {K R P : Type 0} → Option Told → View K R P → After K R P → After K R P
unless None v after = after
unless (Some told) v after = record { fault = Some told; view = v; put = [] }

module _ {K R P : Type 0} (s : Settings K R P) where
  -- the tables of a push before rows leave: the batch is admitted, ended keys are marked, results that are due are worked out
  abbrev pub readied : View K R P → List (Row K) → Lists K R P
  readied v batch =
      caught_up s.figures
      (mark (ended_at s.mode s.kind.same s.kind.parts (last_key v.last batch))
      (admit s.kind.same s.figures.start s.figures.blank v.tables batch))

  abbrev pub accepted_push : View K R P → List (Row K) → After K R P
  accepted_push v batch = record {
    fault = None;
    view = record {
      tables = let_go s.figures.reach (leaving s.figures.ahead (readied v batch)) (readied v batch);
      last = last_key v.last batch;
      accepted = v.accepted + length batch;
      out = v.out + leaving s.figures.ahead (readied v batch);
      finished = false;
    };
    put = map out_row (take (leaving s.figures.ahead (readied v batch)) (readied v batch).waiting);
  }

  -- every key has ended, every waiting row leaves, and the tables are emptied
  abbrev pub accepted_finish : View K R P → After K R P
  accepted_finish v = record {
    fault = None;
    view = record { tables = none; last = v.last; accepted = v.accepted; out = v.out + length v.tables.waiting; finished = true };
    put = map out_row (caught_up s.figures (mark (λ _. true) v.tables)).waiting;
  }

  abbrev pub pushed : View K R P → List (Row K) → ℕ → After K R P
  pushed v batch places = unless (push_refusal s (view_facts v) batch places) v (accepted_push v batch)

  abbrev pub finished_by : View K R P → ℕ → After K R P
  finished_by v places = unless (finish_refusal s (view_facts v) places) v (accepted_finish v)
