use Rattle.std.proofs.Common.{◌≡◌, ◌++◌, map, take, drop}
use Rattle.std.specs.Option.{option_map}
use Rattle.searchers.specs.Ends.{ended_at, marked}
use Rattle.searchers.proofs.ends.mark_all.Given as goal

-- the places so far are marked
abbrev pub invariant-loop-place : goal.invariant-loop-place
invariant-loop-place g l =
    let mark = option_map (marked (ended_at l.mode g.K.PartialEq.eq g.K.OrderedKey.parts l.last)) in
    let places = l.initial.place-items in
    l.place-items ≡ map mark (take l.place-index places) ++ drop l.place-index places
