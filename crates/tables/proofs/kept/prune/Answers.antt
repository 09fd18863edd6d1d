use Rattle.std.proofs.Common.{◌≡◌, ℕ, Bor, refl, ap, ◌∙◌}
use Rattle.searchers.specs.declared.rows.Held.{Held}
use Rattle.tables.specs.declared.kept.Counts.{Counts}
use Rattle.tables.specs.declared.numbers.NewPlaces.{NewPlaces}
use Rattle.tables.specs.declared.table.Table.{Table}
use Rattle.tables.specs.Rows.{rows}
use Rattle.tables.proofs.Pruning.{turn_is, pruned_by}
use Rattle.tables.proofs.kept.prune.Goals as goal

-- what the closure holds: the counts, the held keys, their new places and the reach
abbrev State : Type 0 → Type 0 → Type 0
State K P = Counts × Bor (Table (Held K P) 64) × Bor NewPlaces × ℕ

pub returns : goal.returns
returns g c =
    pruned_by c.args.reach (rows c.args.held.now) c.args.new.now c.requires {F = State g.row.K.Denot g.row.P.Denot}
    (λ s. rows s.0.rows) (λ s. (s.1.now ≡ c.args.held.now) × (s.2.now ≡ c.args.new.now) × (s.3 ≡ c.args.reach))
    _ (λ s x b t y fine k.
    let m = k.called.met in
    (turn_is (rows s.0.rows) fine.2 (ap rows fine.0) fine.1 k.shows m.1.1.0 m.1.0 m.1.1.1 k.leaves, (ap (λ b. b.now) m.0.0 ∙ fine.0, ap (λ b. b.now) m.0.1 ∙ fine.1, m.0.2 ∙ fine.2))) (rows c.args.store.now) (rows c.retain.new.self) _ (refl, refl, refl) c.of-counts.ensures.long c.of-counts.ensures.each c.retain.ensures
