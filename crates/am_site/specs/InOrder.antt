-- What is so of each tenant at an instance between calls.
use Rattle.std.specs.Prelude.{◌≡◌, ℕ, ◌<◌, ◌≤◌, true, false, All, List, [], length, map, None, is_some}
use Rattle.std.specs.List.Sorted.{IsStrictlySortedBy}
use Rattle.std.specs.Map.{keys_of}
use Rattle.std.specs.Ordering.{nat_cmp}
use Rattle.am_cluster.specs.Here.{Here, others}
use Rattle.am_cluster.specs.Local.{Local, is_settled}
use Rattle.am_cluster.specs.Operations.{Operation}
use Rattle.am_cluster.specs.Plans.{position_of}
use Rattle.am_item.specs.declared.fault.Fault.{Fault}
use Rattle.am_item.specs.declared.fault.Fault.TheVariants.{OutOfMemory, CountsExhausted, PatternNotBuilt, StoreRefused}
use Rattle.am_node.specs.Accepting.{StopsPositioning}
use Rattle.am_node.specs.Held.{local_of as local_in_node}
use Rattle.am_site.specs.Here.{here_of}
use Rattle.am_site.specs.Locals.{local_of}
use Rattle.am_site.specs.declared.here.Here.{Here as Given}
use Rattle.am_site.specs.Reacting.{asked_in, position_in}
use Rattle.am_site.specs.declared.site.Site.{Site}

-- the numbers of operations
abbrev pub numbers_of : List Operation → List ℕ
numbers_of operations = map (λ (o : Operation). o.number) operations

-- What is so of what an instance has of a tenant: its open operations stand in order of number, and none has a number
-- that wasn't used; the States that it pushes stand in order of their receivers; an instance that isn't settled pushes
-- to nobody, and one that is asks nobody.
pub record IsSound (here : Here) (local : Local) : Type 0 where
  pub numbered : IsStrictlySortedBy nat_cmp (numbers_of local.operations)
  pub used : All (λ number. number ≤ local.ledger.operations) (numbers_of local.operations)
  pub pushes : IsStrictlySortedBy nat_cmp (keys_of local.settling.pushes)
  pub apart : is_settled here local ≡ false → local.settling.pushes ≡ []
  pub quiet : is_settled here local ≡ true → local.settling.asked_at ≡ None

-- the tenant's groups wait by the position of the instance
abbrev pub IsAtPosition : Here → Site → Type 0
IsAtPosition here site = position_in here.tenant site ≡ position_of here (local_of here.tenant site)

-- they do so where an alert is held; whom it asked, where it asked, are the other two; and what it has is sound
pub record IsInOrder (here : Here) (site : Site) : Type 0 where
  pub position : 0 < length (local_of here.tenant site).sinces → IsAtPosition here site
  pub asked : is_some (local_of here.tenant site).settling.asked_at ≡ true → asked_in here.tenant site ≡ others here
  pub sound : IsSound here (local_of here.tenant site)

-- why it stops where it is to have a tenant's groups wait by its position: they don't, and there are alerts, and a
-- pattern of the routes in use gave no answer; or memory ran out
abbrev pub StopsMoving : (refused : List (List ℕ)) → Given → Site → Fault → Type 0
StopsMoving refused here site OutOfMemory = Unit {0}
StopsMoving refused here site CountsExhausted = ⊥
StopsMoving refused here site PatternNotBuilt =
    (IsAtPosition (here_of here) site → ⊥)
    × StopsPositioning refused (local_in_node here.tenant.now site.node) PatternNotBuilt
StopsMoving refused here site StoreRefused = ⊥
