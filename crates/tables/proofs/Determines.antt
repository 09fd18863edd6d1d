-- A table's data follow from what it holds, and its other fields are propositions.
use Rattle.std.proofs.Common.{◌≡◌, ℕ, ◌≤◌, List, length, Option, sym, ap, ◌∙◌}
use mathlib.Core.HLevel.{Σ_prop_path}
use mathlib.Core.List.{is_set}
use native.Mathlib.Bridge.{le_prop}
use native.Mathlib.Nat.{ℕ_set}
use Rattle.tables.specs.declared.table.Table.{Table}
use Rattle.tables.specs.Places.{somes, laid}
use Rattle.tables.specs.Rows.{rows}

module _ {T : Type 0} (N : ℕ) (set : IsSet (Option T)) where
  abbrev Data : Type 0
  Data = List (Option T) × ℕ

  abbrev Facts : Data → Type 0
  Facts d = (d.0 ≡ laid N (somes d.0)) × (d.1 ≡ length (somes d.0)) × (d.1 ≤ N)

  facts_prop : (d : Data) → IsProp (Facts d)
  facts_prop d = hlevel (is_set set, ℕ_set, le_prop)

  abbrev made : (d : Data) × Facts d → Table T N
  made w = record { places = w.0.0; len = w.0.1; packed = w.1.0; count = w.1.1; few = w.1.2 }

  pub determined : (a b : Table T N) → rows a ≡ rows b → a ≡ b
  unfolding rows
  determined a b e =
      let places : a.places ≡ b.places = a.packed ∙ ap (laid N) e ∙ sym b.packed in
      let len : a.len ≡ b.len = a.count ∙ ap length e ∙ sym b.count in
      ap made (Σ_prop_path facts_prop {u = ((a.places, a.len), (a.packed, a.count, a.few))} {v = ((b.places, b.len), (b.packed, b.count, b.few))} (λ i. (places i, len i)))
