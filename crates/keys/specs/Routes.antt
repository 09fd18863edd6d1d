-- A berth on a route as a key: ordered by the route, then by the berth; the sorted part is the route.
use Rattle.std.specs.Prelude.{ℕ, Bool, if◌then◌else◌, ◌&&◌, List, ◌∷◌, ◌++◌, length, Some, None, decimal, Option, ◌==◌}
use Rattle.std.specs.declared.cmp.Ordering.{Ordering}
use Rattle.std.specs.Ordering.{ordering_then, nat_cmp}
use Rattle.raw_bytes.specs.Numbers.{little_endian, two_bytes}
use Rattle.keys.specs.declared.route.RouteBerth.{RouteBerth}

abbrev pub same_route_berth : RouteBerth → RouteBerth → Bool
same_route_berth x y = x.route == y.route && x.berth == y.berth

abbrev pub route_order : RouteBerth → RouteBerth → Ordering
route_order x y = nat_cmp x.route y.route

abbrev pub route_berth_order : RouteBerth → RouteBerth → Ordering
route_berth_order x y = ordering_then (route_order x y) (nat_cmp x.berth y.berth)

abbrev pub route_berth_bytes : RouteBerth → List ℕ
route_berth_bytes x = two_bytes x.route ++ two_bytes x.berth

-- four bytes are read as a route and a berth, and no others
abbrev pub route_berth_from : List ℕ → Option RouteBerth
route_berth_from bytes = if length bytes == 4 then Some (record { route = little_endian 2 bytes 0; berth = little_endian 2 bytes 2 }) else None

-- `1/4`
abbrev pub shown_route_berth : RouteBerth → List ℕ
shown_route_berth x = decimal x.route ++ (47 ∷ decimal x.berth)
