-- A router with one route more.
use Rattle.std.specs.Prelude.{ℕ, Bool, false, List, Result, Ok, Err, is_none}
use Rattle.matchit.specs.declared.error.InsertError.{InsertError}
use Rattle.matchit.specs.Order.{placed}
use Rattle.matchit.specs.Route.{Scan, parse_route}
use Rattle.matchit.specs.Router.{RouteOf, nearest, route_from}
use Rattle.matchit.specs.Rows.{RowsOf}
use Rattle.am_http.specs.declared.paths.Path.{Path}

-- the route was read, and none of the router conflicts with it
abbrev pub room_for : Result Scan InsertError → RowsOf (RouteOf Path) → Bool
room_for (Ok route) router = is_none (nearest route.pattern router)
room_for (Err e) router = false

-- a router has room for the route of this text
unfoldable pub has_room : List ℕ → RowsOf (RouteOf Path) → Bool
has_room text router = room_for (parse_route text) router

-- the router with the route that was read
abbrev pub with_read : Result Scan InsertError → Path → RowsOf (RouteOf Path) → RowsOf (RouteOf Path)
with_read (Ok route) path router = placed (route.pattern, route_from route path) router
with_read (Err e) path router = router

-- the router with the route of this text
unfoldable pub with_route : List ℕ → Path → RowsOf (RouteOf Path) → RowsOf (RouteOf Path)
with_route text path router = with_read (parse_route text) path router
