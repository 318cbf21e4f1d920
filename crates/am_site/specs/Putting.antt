-- Why an instance stops at items that another one puts to it, or sends as a piece of a State.
use Rattle.std.specs.Prelude.{◌≡◌, ◌⊎◌, ℕ, ◌<◌, Bool, true, false, List, length}
use Rattle.am_cluster.specs.Accepting.{accepted}
use Rattle.am_cluster.specs.Arriving.{take_put}
use Rattle.am_cluster.specs.Local.{is_settled}
use Rattle.am_cluster.specs.Transfers.{take_state}
use Rattle.am_current.specs.Current.{configuration_in}
use Rattle.am_item.specs.Best.{all_joined}
use Rattle.am_item.specs.declared.fault.Fault.{Fault}
use Rattle.am_item.specs.declared.fault.Fault.TheVariants.{OutOfMemory, CountsExhausted, PatternNotBuilt, StoreRefused}
use Rattle.am_item.specs.declared.item.Item.{Item}
use Rattle.am_match.specs.Matchers.{patterns_of}
use Rattle.am_muting.specs.Failing.{HasUnanswered}
use Rattle.am_node.specs.Accepting.{StopsCommitting}
use Rattle.am_node.specs.Held.{local_of as local_in_node}
use Rattle.am_route.specs.Asked.{route_matchers}
use Rattle.am_transfer.specs.Peers.{Peer}
use Rattle.am_site.specs.Here.{here_of}
use Rattle.am_site.specs.Locals.{local_of}
use Rattle.am_site.specs.declared.here.Here.{Here as Given}
use Rattle.am_site.specs.declared.site.Site.{Site}

-- a message would have one count too many, or be too long; a pattern of the routes in use then gave no answer; the
-- store refused what is stored; or memory ran out
abbrev pub StopsPutting : (refused : List (List ℕ)) → Given → (sender : Peer) → (operation : ℕ) → List Item → Site
    → Fault → Type 0
StopsPutting refused here sender operation items site OutOfMemory = Unit {0}
StopsPutting refused here sender operation items site CountsExhausted =
    (take_put (here_of here) sender operation items (local_of here.tenant.now site)).fits ≡ false
StopsPutting refused here sender operation items site PatternNotBuilt =
    StopsCommitting refused items (local_in_node here.tenant.now site.node) PatternNotBuilt
StopsPutting refused here sender operation items site StoreRefused =
    StopsCommitting refused items (local_in_node here.tenant.now site.node) StoreRefused

-- .. the same of a piece of a State
abbrev pub StopsTaking : (refused : List (List ℕ)) → Given → (sender : Peer) → (place : ℕ) → (is_last : Bool)
    → List Item → Site → Fault → Type 0
StopsTaking refused here sender place is_last items site OutOfMemory = Unit {0}
StopsTaking refused here sender place is_last items site CountsExhausted =
    (take_state (here_of here) sender place is_last items (local_of here.tenant.now site)).fits ≡ false
StopsTaking refused here sender place is_last items site PatternNotBuilt =
    StopsCommitting refused items (local_in_node here.tenant.now site.node) PatternNotBuilt
StopsTaking refused here sender place is_last items site StoreRefused =
    StopsCommitting refused items (local_in_node here.tenant.now site.node) StoreRefused

-- .. where the tenant's groups then wait by the position of the instance: where the piece settles it, alerts are held
-- then, and a pattern of the routes that are in use then gave no answer
abbrev pub StopsSettling : (refused : List (List ℕ)) → Given → (sender : Peer) → (place : ℕ) → (is_last : Bool)
    → List Item → Site → Fault → Type 0
StopsSettling refused here sender place is_last items site OutOfMemory = Unit {0}
StopsSettling refused here sender place is_last items site CountsExhausted =
    StopsTaking refused here sender place is_last items site CountsExhausted
StopsSettling refused here sender place is_last items site PatternNotBuilt =
    StopsTaking refused here sender place is_last items site PatternNotBuilt
    ⊎ ((is_settled (here_of here) (local_of here.tenant.now site) ≡ false)
    × ((is_settled (here_of here)
    (take_state (here_of here) sender place is_last items (local_of here.tenant.now site)).local ≡ true)
    × ((0 < length (accepted here.moment items (local_of here.tenant.now site)).sinces)
    × HasUnanswered refused (patterns_of
    (route_matchers (configuration_in (all_joined (local_of here.tenant.now site).held items)).routes)))))
StopsSettling refused here sender place is_last items site StoreRefused =
    StopsTaking refused here sender place is_last items site StoreRefused
