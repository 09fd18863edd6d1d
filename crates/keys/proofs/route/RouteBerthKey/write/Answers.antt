use Rattle.std.proofs.Common.{arith}
use Rattle.raw_bytes.specs.Numbers.{two_bytes}
use Rattle.raw_bytes.proofs.Writing.{written_both}
use Rattle.keys.proofs.route.RouteBerthKey.write.Goals as goal

pub returns : goal.returns
returns c = written_both (two_bytes c.args.self.now.route) (two_bytes c.args.self.now.berth) (omega arith) c.put_u16.ensures c.put_u16-2.ensures
