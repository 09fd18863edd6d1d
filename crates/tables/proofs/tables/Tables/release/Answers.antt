use Rattle.std.proofs.Common.{◌≡◌, ℕ, List, zero, suc, ◌<◌, not, map, drop, filter, arith, rules, of_calls}
use Rattle.std.proofs.lemmas.Fn.{always_returns_same}
use Rattle.searchers.specs.declared.rows.Held.{Held}
use Rattle.searchers.specs.declared.rows.Waiting.{Waiting}
use Rattle.tables.specs.declared.rows.Kept.{Kept}
use Rattle.tables.specs.Leaving.{moved_by}
use Rattle.tables.specs.Lists.{Lists, moved, pruned, let_go}
use Rattle.tables.specs.Rows.{rows}
use Rattle.tables.specs.Whole.{lists}
use Rattle.tables.proofs.Admitting.{lists_are}
use Rattle.tables.proofs.Lent.{kept_by}
use Rattle.tables.proofs.Numbering.{moved_by_numbers}
use Rattle.tables.proofs.tables.Tables.release.Goals as goal

-- what is let go where some rows leave
some_leave : {K R P : Type 0} (reach n : ℕ) (t : Lists K R P) → 0 < n → {held : List (Held K P)} {waiting : List (Waiting K R)} {kept : List (Kept K)}
    → held ≡ filter (λ e. not e.ended) t.held → waiting ≡ map (moved t.held) (drop n t.waiting) → kept ≡ pruned reach t.held t.kept
    → ◌≡◌ {A = Lists K R P} (record { held = held; waiting = waiting; kept = kept }) (let_go reach n t)
some_leave reach zero t h a b c = absurd (omega arith)
some_leave reach (suc n) t h a b c = lists_are a b c

pub for_each_mut-requires : goal.for_each_mut-requires
for_each_mut-requires g c = (search rules, search (rules, of_calls))

pub retain-requires : goal.retain-requires
retain-requires g c = (search rules, search (rules, of_calls))

pub returns : goal.returns
returns g c =
    let s = c.args.self.now in
    some_leave c.args.reach c.args.n (lists s) (omega (arith, c.if-n-eq0.false))
    (kept_by _ (λ e. not e.ended) (λ f x b f' y k. search rules) _ (rows s.held) _ c.retain.ensures)
    (moved_by_numbers c.after-new.ensures c.drop_front.ensures (c.for_each_mut.ensures.function (moved_by c.after-new.result) (always_returns_same _ _ _ (λ a r q k. search rules))))
    c.prune.ensures
