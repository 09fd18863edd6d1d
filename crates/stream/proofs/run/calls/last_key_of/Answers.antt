use Rattle.std.proofs.Common.{◌≡◌, ap, ◌∙◌, rules}
use Rattle.std.specs.Option.{option_map, option_or, option_copied}
use Rattle.stream.proofs.LastKeys.{key_of, last_key_is}
use Rattle.stream.proofs.run.calls.last_key_of.Goals as goal

pub returns : goal.returns
returns g c =
    let last = c.args.last in
    let key : c.map.result ≡ option_map key_of (option_copied c.last.result) = search rules in
    c.or.ensures ∙ ap (λ key. option_or key last) (key ∙ ap (option_map key_of) c.last.ensures.value) ∙ last_key_is last c.args.batch.now
