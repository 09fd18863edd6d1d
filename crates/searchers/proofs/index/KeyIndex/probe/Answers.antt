use Rattle.std.proofs.Common.{◌≡◌, ℕ, ◌+◌, ◌%◌, ◌<◌, true, false, List, length, get_or, Some, None, sym, ap, ◌∙◌, subst, arith, rules, below_more}
use Rattle.std.specs.Option.{is_some}
use Rattle.std.proofs.lemmas.List.{length-map}
use Rattle.searchers.specs.declared.rows.Row.{Row}
use Rattle.searchers.specs.Order.{keys_of}
use Rattle.searchers.specs.Groups.{place}
use Rattle.searchers.specs.Table.{held_at, Vacant, picked, Indexed}
use Rattle.searchers.proofs.Tables.{group_low, first_key, land_free, land_found, no_room}
use Rattle.searchers.proofs.index.KeyIndex.probe.Goals as goal

some_row : {K : Type 0} (rows : List (Row K)) {index : Indexed K} {firsts slots : _} → record { keys = keys_of rows; firsts = firsts; slots = slots } ≡ index → 0 < length index.keys → 0 < length rows
some_row {K} rows is some = omega (arith, ap (λ (index : Indexed K). length index.keys) is, length-map rows (λ r. r.key))

pub returns-in_default : goal.returns-in_default
returns-in_default g c =
    let k = g.K.Key in
    let m = g.met.K.Key in
    let e = c.hash.ensures in
    let at = (c.hash.result % 512 + c.loop-step.step) % 512 in
    let free : held_at c.self.inside.slots at ≡ None = c.in_default.is in
    subst (λ (v : Indexed g.row.K.Denot). Vacant g.K.PartialEq.eq k.hashed (picked v.keys v.firsts) v.slots c.args.key.now at) c.self.view_is
    (rw e (land_free g.K.PartialEq.eq k.hashed g.met.K.Eq.laws m.agree c.self.invariant.sound _ c.loop-step.step c.loop-step.invariant c.loop-step-test.true (rw e at free)))

pub returns-then-has_key : goal.returns-then-has_key
returns-then-has_key g c =
    let k = g.K.Key in
    let index = c.self.inside in
    let at = (c.hash.result % 512 + c.loop-step.step) % 512 in
    let group = c.from-group.result in
    let some : 0 < length index.rows.now = some_row index.rows.now c.self.view_is c.requires in
    let held : held_at index.slots at ≡ Some group = c.in-Some.is ∙ ap Some (sym c.from-group.ensures) in
    let known = group_low c.self.invariant some at group (omega arith) held in
    let m = g.met.K.Key in
    let key = c.args.key.now in
    let equal : g.K.PartialEq.eq (get_or (picked (keys_of index.rows.now) index.firsts) group key) key ≡ true =
    ap (λ x. g.K.PartialEq.eq x key) (first_key c.self.invariant some group known key c.index-rows-first.result) ∙ ap (λ n. g.K.PartialEq.eq (get_or index.rows.now n c.index-rows-first.result).key key) (sym c.get-first.ensures) ∙ ap (λ (r : Row g.row.K.Denot). g.K.PartialEq.eq r.key key) (sym c.index-rows-first.is) ∙ sym c.if-has_key.ensures
    in
    subst (λ (v : Indexed g.row.K.Denot). (place g.K.PartialEq.eq key (picked v.keys v.firsts) ≡ group) × (group < length (picked v.keys v.firsts))) c.self.view_is
    (land_found g.K.PartialEq.eq k.hashed g.met.K.Eq.laws m.agree c.self.invariant.sound key at group (omega arith) held equal)

pub loop-step-preserved : goal.loop-step-preserved
loop-step-preserved g c =
    let k = g.K.Key in
    let index = c.self.inside in
    let at = (c.hash.result % 512 + c.loop-step.step) % 512 in
    let group = c.from-group.result in
    let some : 0 < length index.rows.now = some_row index.rows.now c.self.view_is c.requires in
    let held : held_at index.slots at ≡ Some group = c.in-Some.is ∙ ap Some (sym c.from-group.ensures) in
    let known = group_low c.self.invariant some at group (omega arith) held in
    let key = c.args.key.now in
    let e = c.hash.ensures in
    let seen = picked (keys_of index.rows.now) index.firsts in
    let differs : (d : g.row.K.Denot) → g.K.PartialEq.eq (get_or seen group d) key ≡ false =
    λ d. ap (λ x. g.K.PartialEq.eq x key) (first_key c.self.invariant some group known d c.index-rows-first.result) ∙ ap (λ n. g.K.PartialEq.eq (get_or index.rows.now n c.index-rows-first.result).key key) (sym c.get-first.ensures) ∙ ap (λ (r : Row g.row.K.Denot). g.K.PartialEq.eq r.key key) (sym c.index-rows-first.is) ∙ sym c.if-has_key.ensures
    in
    let passed : (is_some (held_at index.slots at) ≡ true) × ((n : ℕ) (d : g.row.K.Denot) → held_at index.slots at ≡ Some n → g.K.PartialEq.eq (get_or seen n d) key ≡ false) =
    (ap is_some held, λ n d is. (let number : group ≡ n = (let both = sym held ∙ is in cc) in subst (λ n. g.K.PartialEq.eq (get_or seen n d) key ≡ false) number (differs d)))
    in
    below_more _ c.loop-step.step c.loop-step.invariant (rw e at passed)

pub unreachable-requires : goal.unreachable-requires
unreachable-requires g c =
    let k = g.K.Key in
    let all : c.loop-step.step ≡ 512 = search rules in
    no_room g.K.PartialEq.eq k.hashed _ c.self.inside.slots c.args.key.now c.self.invariant.sound (λ j l. c.loop-step.invariant j (omega arith))
