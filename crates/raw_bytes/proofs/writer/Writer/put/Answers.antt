use Rattle.std.proofs.Common.{rules}
use Rattle.std.proofs.lemmas.List.{set_past}
use Rattle.raw_bytes.proofs.Writing.{wrote_one}
use Rattle.raw_bytes.proofs.writer.Writer.put.Goals as goal

pub returns : goal.returns
returns c = record {
  same_bytes = search rules;
  wrote = wrote_one c.args.self.now.out.now _ c.args.self.now.at c.args.byte _ (search (rules, set_past)) (search rules);
}
