-- What is read as a key is that key's written form.
use Rattle.std.specs.Prelude.{◌≡◌, ℕ, ◌<◌, Bool, true, false, cond, List, ◌++◌, length, drop, Some, None, Option, ◌==◌, refl}
use Rattle.std.proofs.Common.{sym, ◌∙◌, arith}
use Rattle.std.specs.List.{AllByRecursion}
use Rattle.std.proofs.lemmas.List.{drop_all}
use Rattle.std.proofs.lemmas.Bool.{eqb-true}
use Rattle.std.proofs.lemmas.Option.{none-some}
use Rattle.raw_bytes.specs.Numbers.{little_endian, two_bytes}
use Rattle.raw_bytes.proofs.Reading.{written_back}
use Rattle.keys.specs.Berths.{berth_from}
use Rattle.keys.specs.Routes.{route_berth_bytes, route_berth_from}
use Rattle.keys.specs.declared.berth.Berth.{Berth}
use Rattle.keys.specs.declared.route.RouteBerth.{RouteBerth}

pub cond_some : {X : Type 0} (t : Bool) (o : Option X) (x : X) → cond t o None ≡ Some x → (t ≡ true) × (o ≡ Some x)
cond_some true o x h = (refl, h)
cond_some false o x h = absurd (none-some x h)

pub berth_only_written : (bytes : List ℕ) (x : Berth) → AllByRecursion (λ b. b < 256) bytes → berth_from bytes ≡ Some x → two_bytes x.0 ≡ bytes
berth_only_written bytes x fit h =
    let p = cond_some (length bytes == 2) _ x h in
    let long : length bytes ≡ 2 = eqb-true (length bytes) 2 p.0 in
    let number : little_endian 2 bytes 0 ≡ x.0 = cc p.1 in
    sym (written_back bytes 0 fit (omega arith) ∙ (λ i. two_bytes (number i) ++ drop_all 2 bytes (omega arith) i))

pub route_berth_only_written : (bytes : List ℕ) (x : RouteBerth) → AllByRecursion (λ b. b < 256) bytes → route_berth_from bytes ≡ Some x → route_berth_bytes x ≡ bytes
route_berth_only_written bytes x fit h =
    let p = cond_some (length bytes == 4) _ x h in
    let long : length bytes ≡ 4 = eqb-true (length bytes) 4 p.0 in
    let route : little_endian 2 bytes 0 ≡ x.route = cc p.1 in
    let berth : little_endian 2 bytes 2 ≡ x.berth = cc p.1 in
    let rest : drop 2 bytes ≡ two_bytes x.berth = written_back bytes 2 fit (omega arith) ∙ (λ i. two_bytes (berth i) ++ drop_all 4 bytes (omega arith) i) in
    sym (written_back bytes 0 fit (omega arith) ∙ (λ i. two_bytes (route i) ++ rest i))
