-- Berths that are equal where their piers are.
use Rattle.std.specs.Prelude.{ℕ, Bool, if◌then◌else◌, List, ◌++◌, length, Some, None, Option, ◌==◌}
use Rattle.std.specs.declared.cmp.Ordering.{Ordering}
use Rattle.raw_bytes.specs.Numbers.{little_endian, two_bytes}
use Rattle.key_cases.specs.declared.pier.Pier.{Pier}
use Rattle.std.specs.Ordering.{nat_cmp}

abbrev pub same_pier : Pier → Pier → Bool
same_pier x y = x.pier == y.pier

abbrev pub pier_order : Pier → Pier → Ordering
pier_order x y = nat_cmp x.pier y.pier

abbrev pub pier_bytes : Pier → List ℕ
pier_bytes x = two_bytes x.pier ++ two_bytes x.berth

abbrev pub pier_from : List ℕ → Option Pier
pier_from bytes = if length bytes == 4 then Some (record { pier = little_endian 2 bytes 0; berth = little_endian 2 bytes 2 }) else None
