use Rattle.std.proofs.Common.{◌<◌, length, arith, of_calls}
use Rattle.std.specs.Fn.{CalledAtMut}
use Rattle.std.proofs.RetainMut.{Called-Mut}
use Rattle.tables.specs.Rows.{rows}
use Rattle.tables.proofs.Lent.{got_some, got_none, retaining_keep, retaining_drop, retaining_all}
use Rattle.tables.proofs.table.Table.retain.Goals as goal
use Rattle.tables.proofs.table.Table.retain.Goals.{in-Some+then-f, in-Some+else-f, in_default}

pub loop-i-preserved : goal.loop-i-preserved
loop-i-preserved g c =
    let R = CalledAtMut g.F.FnMut in
    let xs = rows c.args.self.now in
    let ys = rows c.loop-i.self in
    let i = c.loop-i.i in
    let k = c.loop-i.kept in
    let q = c.loop-i.invariant.1 in
    let low : i < length xs = omega (arith, c.len-i-end.ensures.count, c.loop-i-test.true) in
    elim c.match-get.branch [
      | in-Some+then-f w ↦
          let r = got_some ys i c.get.result c.get.ensures w.in-Some.x w.in-Some.is in (
            search of_calls,
            rw (w.self-is, w.kept-is, w.f-is, w.put.ensures) (retaining_keep R c.args.f xs c.loop-i.f ys k i q w.f.new.self _ _ low r.1 (rw w.if-f.true at (Called-Mut g.F.FnMut w.f.ensures))),
          )
      | in-Some+else-f w ↦
          let r = got_some ys i c.get.result c.get.ensures w.in-Some.x w.in-Some.is in (
            search of_calls,
            rw (w.self-is, w.kept-is, w.f-is) (retaining_drop R c.args.f xs c.loop-i.f ys k i q w.f.new.self _ _ low r.1 (rw w.if-f.false at (Called-Mut g.F.FnMut w.f.ensures))),
          )
      | in_default w ↦ absurd (omega (arith, low, q.long, got_none ys i c.get.result c.get.ensures w.in_default.is))
    ]

pub returns : goal.returns
returns g c =
    let xs = rows c.args.self.now in
    rw c.truncate.ensures (retaining_all (CalledAtMut g.F.FnMut) c.args.f xs c.loop-i.f (rows c.loop-i.self) c.loop-i.kept c.loop-i.i c.loop-i.invariant.1 (omega (arith, c.len-i-end.ensures.count, c.loop-i-test.false)))
