-- The steps of a push against which there is no cause make up an accepted push.
use Rattle.std.proofs.Common.{◌≡◌, ℕ, ◌+◌, ◌-◌, ◌≤◌, true, false, List, ◌++◌, map, length, take, drop, Option, sym, ap, ◌∙◌, arith}
use Rattle.searchers.specs.declared.rows.Row.{Row}
use Rattle.searchers.specs.Ends.{ended_at}
use Rattle.tables.specs.declared.rows.OutRow.{OutRow}
use Rattle.tables.specs.Lists.{Lists, within, out_row, let_go}
use Rattle.book.specs.Calls.{Settings, View, last_key, leaving, readied, accepted_push}
use Rattle.stream.specs.Steps.{readied_with}
use Rattle.stream.proofs.Lengths.{waiting_readied, waiting_left, put_long}
use Rattle.stream.proofs.Within.{within_pushed}

-- what the steps of a push promise: the last key, the tables before and after n rows leave, and the output
pub record Stepped {K R P : Type 0} (s : Settings K R P) (v : View K R P) (batch : List (Row K)) (last : Option K) (ready left : Lists K R P) (n : ℕ) (out out' : List (OutRow K R)) : Type 0 where
  pub last_is : last ≡ last_key v.last batch
  pub ready_is : ready ≡ readied_with s.kind.same s.figures (ended_at s.mode s.kind.same s.kind.parts last) v.tables batch
  pub count : n ≡ leaving s.figures.ahead ready
  pub few : n ≤ length ready.waiting
  pub left_is : left ≡ let_go s.figures.reach n ready
  pub writes : out' ≡ map out_row (take n ready.waiting) ++ drop n out

-- as many rows wait after a batch joined as before and in it
pub all_wait : {K R P : Type 0} (s : Settings K R P) (v : View K R P) (batch : List (Row K)) (last : Option K) (ready : Lists K R P)
    → ready ≡ readied_with s.kind.same s.figures (ended_at s.mode s.kind.same s.kind.parts last) v.tables batch → length ready.waiting ≡ length v.tables.waiting + length batch
all_wait s v batch last ready is = ap (λ t. length t.waiting) is ∙ waiting_readied s.kind.same s.figures (ended_at s.mode s.kind.same s.kind.parts last) v.tables batch

module _ {K R P : Type 0} {s : Settings K R P} {v : View K R P} {batch : List (Row K)} {last : Option K} {ready left : Lists K R P} {n : ℕ} {out out' : List (OutRow K R)} (h : Stepped s v batch last ready left n out out') where
  ready_on : ready ≡ readied s v batch
  ready_on = h.ready_is ∙ ap (λ l. readied_with s.kind.same s.figures (ended_at s.mode s.kind.same s.kind.parts l) v.tables batch) h.last_is

  count_on : n ≡ leaving s.figures.ahead (readied s v batch)
  count_on = h.count ∙ ap (leaving s.figures.ahead) ready_on

  left_on : left ≡ let_go s.figures.reach (leaving s.figures.ahead (readied s v batch)) (readied s v batch)
  left_on = h.left_is ∙ (λ i. let_go s.figures.reach (count_on i) (ready_on i))

  put_on : map out_row (take n ready.waiting) ≡ (accepted_push s v batch).put
  put_on = λ i. map out_row (take (count_on i) (ready_on i).waiting)

  pub counts_put : n ≡ length (accepted_push s v batch).put
  counts_put = sym (put_long n ready h.few) ∙ ap length put_on

  pub holds_accepted : v.finished ≡ false → ◌≡◌ {A = View K R P} (record { tables = left; last = last; accepted = v.accepted + length batch; out = v.out + n; finished = v.finished }) (accepted_push s v batch).view
  holds_accepted going = λ i. record { tables = left_on i; last = h.last_is i; accepted = v.accepted + length batch; out = v.out + count_on i; finished = going i }

  pub writes_put : out' ≡ (accepted_push s v batch).put ++ drop n out
  writes_put = h.writes ∙ ap (λ put. put ++ drop n out) put_on

  -- accepted is still out plus waiting
  pub still_counted : v.accepted ≡ v.out + length v.tables.waiting → v.accepted + length batch ≡ v.out + n + length left.waiting
  still_counted counted =
      let gone : length left.waiting ≡ length ready.waiting - n = ap (λ t. length t.waiting) h.left_is ∙ waiting_left s.figures.reach n ready in
      omega (arith, gone, h.few, all_wait s v batch last ready h.ready_is)

  -- no key has more rows than were accepted
  pub still_few : within v.accepted v.tables.held ≡ true → within (v.accepted + length batch) left.held ≡ true
  still_few few =
      ap (λ t. within (v.accepted + length batch) t.held) (h.left_is ∙ ap (let_go s.figures.reach n) h.ready_is)
      ∙ within_pushed s.kind.same s.figures (ended_at s.mode s.kind.same s.kind.parts last) s.figures.reach n v.accepted v.tables batch few
