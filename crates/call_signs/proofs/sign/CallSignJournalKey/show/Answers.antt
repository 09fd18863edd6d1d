use Rattle.std.proofs.Common.{◌≡◌, ◌<◌, take, map, get_or, ◌∙◌, sym, arith, rules}
use Rattle.std.proofs.lemmas.List.{take-map, length-map, same_lists, get_or-map}
use Rattle.call_signs.specs.Spelling.{underscored}
use Rattle.call_signs.specs.Signs.{sign_bytes}
use Rattle.call_signs.specs.Same.{front}
use Rattle.call_signs.proofs.sign.CallSignJournalKey.show.Goals as goal

pub returns : goal.returns
returns c =
    let bytes = c.spelled-sign.result.bytes in
    let own : take c.spelled-sign.result.len bytes ≡ sign_bytes c.args.self.now = (λ i. take (c.spelled-sign.ensures.len i) (c.spelled-sign.ensures.bytes i)) ∙ front (sign_bytes c.args.self.now) in
    let shown : c.map-shown.result ≡ map underscored bytes =
    same_lists _ _ (simp length-map (omega (arith, c.map-shown.ensures.items.long)))
    (λ k d h.
    let within : k < 8 = omega (arith, c.map-shown.ensures.items.long) in
    let call = c.map-shown.ensures.items.at k 0 d within in
    let here : get_or c.map-shown.result k d ≡ underscored (get_or bytes k 0) = search (rules, call) in
    here ∙ sym (get_or-map underscored bytes k 0 d (omega arith))) in
    rw (← own, ← take-map underscored c.spelled-sign.result.len bytes, ← shown) c.put_text.ensures
