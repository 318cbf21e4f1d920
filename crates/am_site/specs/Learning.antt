-- What an instance does where it is settled by force, and where it goes by another ring from then on.
use Rattle.std.specs.Prelude.{◌≡◌, Bool, true, false, ◌&&◌, not, ℕ, List, [], None, if◌then◌else◌}
use Rattle.am_cluster.specs.Here.{Here, is_replica_here}
use Rattle.am_cluster.specs.Local.{Local, is_settled}
use Rattle.am_cluster.specs.RingChanges.{go_on, ring_learned}
use Rattle.am_item.specs.declared.fault.Fault.{Fault}
use Rattle.am_item.specs.declared.fault.Fault.TheVariants.{OutOfMemory, CountsExhausted, PatternNotBuilt, StoreRefused}
use Rattle.am_node.specs.Accepting.{StopsPositioning}
use Rattle.am_node.specs.Held.{local_of as local_in_node}
use Rattle.am_node.specs.Local.{Local as NodeLocal, dropped}
use Rattle.am_ring.specs.Instances.{is_among}
use Rattle.am_tenant.specs.Names.{same}
use Rattle.am_site.specs.Here.{here_of}
use Rattle.am_site.specs.InOrder.{IsInOrder, StopsMoving}
use Rattle.am_site.specs.Locals.{local_of}
use Rattle.am_site.specs.declared.here.Here.{Here as Given}
use Rattle.am_site.specs.declared.site.Site.{Site}

-- ---- by force

-- why it stops where it is settled by force: it is one of the three and wasn't settled, so that its groups are to wait
-- by its position; there are alerts, and a pattern of the routes in use gave no answer; or memory ran out
abbrev pub StopsForcing : (refused : List (List ℕ)) → Given → Site → Fault → Type 0
StopsForcing refused here site OutOfMemory = Unit {0}
StopsForcing refused here site CountsExhausted = ⊥
StopsForcing refused here site PatternNotBuilt =
    (is_replica_here (here_of here) ≡ true) × (is_settled (here_of here) (local_of here.tenant.now site) ≡ false)
    × StopsPositioning refused (local_in_node here.tenant.now site.node) PatternNotBuilt
StopsForcing refused here site StoreRefused = ⊥

-- ---- another ring

-- An instance that is none of the tenant's three replicas is idle: it holds no alert, pushes no State, and has asked
-- nobody for one.
pub record IsIdle (local : Local) : Type 0 where
  pub sinces : local.sinces ≡ []
  pub pushes : local.settling.pushes ≡ []
  pub asked : local.settling.asked_at ≡ None

-- What is so of the tenant as an instance that went by one ring goes by another, where the three were these before: all
-- was in order; and where it neither was one of the three nor is one, it is idle.
pub record MayLearn (was here : Here) (before : List ℕ) (site : Site) : Type 0 where
  pub tenant : was.tenant ≡ here.tenant
  pub order : IsInOrder was site
  pub idle : is_replica_here here ≡ false → is_among here.instance before ≡ false
      → IsIdle (local_of here.tenant site)

-- the instance stops being one of the three
abbrev pub stops_being_replica : Here → (before : List ℕ) → Bool
stops_being_replica here before = not (is_replica_here here) && is_among here.instance before

-- what a node has of each tenant, where it drops what it has of this one if the instance stops being a replica
abbrev pub left_of : Given → (before : List ℕ) → (t : List ℕ) → NodeLocal → NodeLocal
left_of here before t local =
    if same t here.tenant.now && stops_being_replica (here_of here) before then dropped local else local

-- why it stops as a replica goes on: a count would have passed the greatest, or a message the greatest length; its
-- groups are to wait by another position, there are alerts, and a pattern of the routes in use gave no answer; or
-- memory ran out
abbrev pub StopsGoingOn : (refused : List (List ℕ)) → Given → (before : List ℕ) → Site → Fault → Type 0
StopsGoingOn refused here before site OutOfMemory = Unit {0}
StopsGoingOn refused here before site CountsExhausted =
    (go_on (here_of here) before (local_of here.tenant.now site)).fits ≡ false
StopsGoingOn refused here before site PatternNotBuilt = StopsMoving refused here site PatternNotBuilt
StopsGoingOn refused here before site StoreRefused = ⊥

-- why it stops: a count would have passed the greatest, or a message the greatest length; or it is one of the three,
-- its groups are to wait by another position, there are alerts, and a pattern of the routes in use gave no answer; or
-- it stops being one of the three, and the store refused to drop the rows; or memory ran out
abbrev pub StopsLearning : (refused : List (List ℕ)) → Given → (before : List ℕ) → Site → Fault → Type 0
StopsLearning refused here before site OutOfMemory = Unit {0}
StopsLearning refused here before site CountsExhausted =
    (ring_learned (here_of here) before (local_of here.tenant.now site)).fits ≡ false
StopsLearning refused here before site PatternNotBuilt =
    (is_replica_here (here_of here) ≡ true) × StopsMoving refused here site PatternNotBuilt
StopsLearning refused here before site StoreRefused = stops_being_replica (here_of here) before ≡ true
