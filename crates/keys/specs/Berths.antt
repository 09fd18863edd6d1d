-- A berth as a key: equal and ordered by its number, written as two bytes.
use Rattle.std.specs.Prelude.{ℕ, Bool, if◌then◌else◌, List, length, Some, None, Option, ◌==◌}
use Rattle.std.specs.declared.cmp.Ordering.{Ordering}
use Rattle.raw_bytes.specs.Numbers.{little_endian}
use Rattle.keys.specs.declared.berth.Berth.{Berth}
use Rattle.std.specs.Ordering.{nat_cmp}

abbrev pub same_berth : Berth → Berth → Bool
same_berth x y = x.0 == y.0

abbrev pub berth_order : Berth → Berth → Ordering
berth_order x y = nat_cmp x.0 y.0

-- two bytes are read as a berth, and no others
abbrev pub berth_from : List ℕ → Option Berth
berth_from bytes = if length bytes == 2 then Some (record { 0 = little_endian 2 bytes 0 }) else None
