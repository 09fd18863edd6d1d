use Rattle.searchers.proofs.Tables.{empty_index}
use Rattle.searchers.proofs.index.KeyIndex.new.Goals as goal

pub invariant_of-result : goal.invariant_of-result
invariant_of-result g c = rw c.new.ensures (empty_index g.K.PartialEq.eq g.K.Key.hashed c.args.rows.now c.requires)
