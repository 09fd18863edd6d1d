use Rattle.std.proofs.Common.{◌<◌, length, ap, ◌∙◌, arith}
use Rattle.std.proofs.lemmas.List.{length-map}
use Rattle.searchers.proofs.Gathers.{some_key, picked_noticed, gathered_on}
use Rattle.searchers.proofs.groups.group_by_hash.Goals as goal

pub loop-i-preserved : goal.loop-i-preserved
loop-i-preserved g c =
    let same = g.K.PartialEq.eq in
    let index = c.loop-i.index in
    let ks = index.keys in
    let i = c.loop-i.i in
    let r = c.group_of-group.result in
    let inv = c.loop-i.invariant in
    let e = c.group_of-group.ensures in
    let within : i < length ks = omega (arith, ap length inv.keys, length-map c.args.rows.now (λ r. r.key)) in
    let d = some_key ks (omega arith) in
    let seen = picked_noticed same ks index.firsts i r d within (e.value d) e.picked in
    record {
      keys = e.keys ∙ inv.keys;
      gathers = rw (e.keys, e.firsts, seen, c.push.ensures) (gathered_on same inv.gathers r d within (e.value d) e.picked);
    }
