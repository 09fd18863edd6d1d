use Rattle.std.proofs.Common.{rules, ◌≡◌, ◌+◌, get_or, arith}
use Rattle.raw_bytes.proofs.Reading.{made_by_calls, get_or_stopped}
use Rattle.raw_bytes.proofs.numbers.bytes_at.Goals as goal

pub returns : goal.returns
returns g c = λ i h.
    made_by_calls _ (λ i r. r ≡ get_or c.args.bytes.now (c.args.at + i) 0) _
    (λ i r q called. let s = get_or_stopped c.args.bytes.now (c.args.at + i) (omega arith) in search rules)
    g.row.N 0 c.from_fn.result c.from_fn.ensures.items.each i i 0 h (omega arith)
