-- A route that has room in a router goes into it, unless memory is refused.
use Rattle.std.proofs.Common.{◌≡◌, List, ℕ, true, refl, Result, Ok, Err, Option, Some, None, is_none}
use Rattle.matchit.specs.declared.error.InsertError.{InsertError}
use Rattle.matchit.specs.declared.error.InsertError.TheVariants.{Conflict, InvalidParam, InvalidParamSegment, InvalidCatchAll, OutOfMemory}
use Rattle.matchit.specs.Route.{Scan, parse_route}
use Rattle.matchit.specs.Router.{InsertsRead, Refused, RouteOf, nearest}
use Rattle.matchit.specs.Rows.{RowsOf}
use Rattle.am_http.specs.declared.paths.Path.{Path}
use Rattle.am_http.specs.Routes.{room_for, has_room, with_read, with_route}

no_nearest : (n : RouteOf Path) (o : Option (RouteOf Path)) → o ≡ Some n → is_none o ≡ true → ⊥
no_nearest n None e h = cc
no_nearest n (Some m) e h = cc

why : (pattern : List ℕ) (rows : RowsOf (RouteOf Path)) (e : InsertError) → is_none (nearest pattern rows) ≡ true → Refused pattern rows e → e ≡ OutOfMemory
why pattern rows (Conflict with) room h = absurd (no_nearest h.0 (nearest pattern rows) h.1 room)
why pattern rows OutOfMemory room h = refl
why pattern rows InvalidParamSegment room h = absurd h
why pattern rows InvalidParam room h = absurd h
why pattern rows InvalidCatchAll room h = absurd h

only_read : (read : Result Scan InsertError) (path : Path) (old new : RowsOf (RouteOf Path)) (e : InsertError)
    → room_for read old ≡ true → InsertsRead read path old new (Err e) → e ≡ OutOfMemory
only_read (Ok route) path old new e room h = why route.pattern old e room h.1
only_read (Err f) path old new e room h = cc

pub only_memory : (text : List ℕ) (path : Path) (old new : RowsOf (RouteOf Path)) (e : InsertError)
    → has_room text old ≡ true → InsertsRead (parse_route text) path old new (Err e) → e ≡ OutOfMemory
unfolding has_room
only_memory text path old new e room h = only_read (parse_route text) path old new e room h

read_in : (read : Result Scan InsertError) (path : Path) (old new : RowsOf (RouteOf Path)) (u : Unit {0})
    → room_for read old ≡ true → InsertsRead read path old new (Ok u) → new ≡ with_read read path old
read_in (Ok route) path old new u room h = h.1
read_in (Err f) path old new u room h = cc

pub goes_in : (text : List ℕ) (path : Path) (old new : RowsOf (RouteOf Path)) (u : Unit {0})
    → has_room text old ≡ true → InsertsRead (parse_route text) path old new (Ok u) → new ≡ with_route text path old
unfolding has_room with_route
goes_in text path old new u room h = read_in (parse_route text) path old new u room h
