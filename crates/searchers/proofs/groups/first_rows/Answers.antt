use Rattle.std.proofs.Common.{◌≡◌, min, length, take, ap, ◌∙◌, arith}
use Rattle.std.proofs.lemmas.List.{take_min}
use Rattle.searchers.proofs.groups.first_rows.Goals as goal

pub returns-clause-first : goal.returns-clause-first
returns-clause-first g c =
    let rows = c.args.rows.now in
    let least : c.min.result ≡ min 256 (length rows) = omega arith in
    ap (λ n. take n rows) least ∙ take_min 256 rows
