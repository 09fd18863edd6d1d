use Rattle.std.proofs.Common.{[], ◌∷◌, ◌++◌, decimal, append_assoc, arith}
use Rattle.raw_bytes.proofs.Writing.{written_both}
use Rattle.keys.proofs.route.RouteBerthJournalKey.show.Goals as goal

pub returns : goal.returns
returns c =
    rw (← append_assoc (decimal c.args.self.now.route) (47 ∷ []) (decimal c.args.self.now.berth))
    (written_both (decimal c.args.self.now.route ++ (47 ∷ [])) (decimal c.args.self.now.berth) (omega arith)
    (written_both (decimal c.args.self.now.route) (47 ∷ []) (omega arith) c.put_number.ensures c.put.ensures) c.put_number-2.ensures)
