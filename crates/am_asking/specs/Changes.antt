-- Which change of the ring stands at which path.
use Rattle.std.specs.Prelude.{ℕ, ◌-◌, ◌&&◌, nat_le, List, [], ◌∷◌, Option, None, Some, codes, if◌then◌else◌}
use Rattle.std.specs.Prelude.{option_and_then}
use Rattle.std.specs.Str.{bytes_eq}
use Rattle.am_event.specs.declared.event.Event.{Event}
use Rattle.am_event.specs.declared.event.Event.TheVariants as event
use Rattle.am_tenant.specs.Names.{is_tenant_name}

-- the number that one digit says
abbrev pub instance_named : List ℕ → Option ℕ
instance_named [] = None
instance_named (digit ∷ []) = if nat_le 48 digit && nat_le digit 57 then Some (digit - 48) else None
instance_named (digit ∷ other ∷ more) = None

-- a tenant is settled by force
abbrev pub forced : List ℕ → Option Event
forced name = if is_tenant_name name then Some (event.Force name) else None

-- what happens to an instance
abbrev pub happens : (verb : List ℕ) → ℕ → Option Event
happens verb i =
    if bytes_eq verb (codes "join") then Some (event.Join i)
    else if bytes_eq verb (codes "leave") then Some (event.Leave i)
    else if bytes_eq verb (codes "crash") then Some (event.Crash i)
    else if bytes_eq verb (codes "restart") then Some (event.Restart i)
    else None

-- the event of a verb, of the instance or the tenant of this name
abbrev pub change_named : (verb name : List ℕ) → Option Event
change_named verb name =
    if bytes_eq verb (codes "force") then forced name
    else option_and_then (happens verb) (instance_named name)
