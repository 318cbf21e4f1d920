-- Why an instance stops where it is settled for a tenant by force, as the site does it.
use Rattle.std.proofs.Common.{◌≡◌, ◌∙◌, ℕ, Bool, true, false, ◌&&◌, not, List, ap, refl, subst, if◌then◌else◌}
use Rattle.am_cluster.specs.Events.{Output}
use Rattle.am_cluster.specs.Here.{Here, is_replica_here}
use Rattle.am_cluster.specs.Local.{Local, is_settled, with_settling}
use Rattle.am_cluster.specs.Transfers.{forced}
use Rattle.am_item.specs.declared.fault.Fault.{Fault}
use Rattle.am_item.specs.declared.fault.Fault.TheVariants.{OutOfMemory, CountsExhausted, PatternNotBuilt, StoreRefused}
use Rattle.am_node.specs.Accepting.{StopsPositioning}
use Rattle.am_node.specs.Held.{local_of as local_in_node}
use Rattle.am_rows.specs.Rows.{stored_in}
use Rattle.am_site.specs.Here.{here_of}
use Rattle.am_site.specs.Learning.{StopsForcing}
use Rattle.am_site.specs.Locals.{local_of}
use Rattle.am_site.specs.declared.here.Here.{Here as Given}
use Rattle.am_tenant.specs.Names.{same}
use Rattle.am_transfer.specs.Settling.{now_settled}
use Rattle.am_instance.specs.Changing.{StopsForcing as StopsForcingHere}
use Rattle.am_instance.specs.Here.{Circumstances, IsGiven, here_on}
use Rattle.am_instance.specs.Instance.{local_in, node_local_in}
use Rattle.am_instance.specs.Reacting.{Reacts, reaction_on}
use Rattle.am_instance.specs.declared.instance.Instance.{Instance}
use Rattle.am_instance.proofs.Reacting.{whose}

module _ (around : Circumstances) (x : Instance) (tenant : List ℕ) (given : Given) (is : IsGiven around x tenant given) where
  pub stops_forcing : (refused : List (List ℕ)) (fault : Fault) → StopsForcing refused given x.site fault
      → StopsForcingHere around tenant x refused fault
  unfolding local_in node_local_in
  stops_forcing refused OutOfMemory stops = tt
  stops_forcing refused CountsExhausted stops = absurd stops
  stops_forcing refused PatternNotBuilt (replica, unsettled, stops) = (
    subst (λ h. is_replica_here h ≡ true) is.here replica,
    subst (λ h. is_settled h (local_of tenant x.site) ≡ false) is.here
        (subst (λ s. is_settled (here_of given) (local_of s x.site) ≡ false) (whose around x tenant given is) unsettled),
    subst (λ s. StopsPositioning refused (local_in_node s x.site.node) PatternNotBuilt) (whose around x tenant given is) stops,
  )
  stops_forcing refused StoreRefused stops = absurd stops

-- what is stored stays
forced_held : (here : Here) (l : Local) → (forced here l).local.held ≡ l.held
unfolding forced
forced_held here l = by (is_replica_here here && not (is_settled here l))
  where
    by : (b : Bool) → (if b then with_settling (now_settled l.settling) l else l).held ≡ l.held
    by true = refl
    by false = refl

pub forced_stored : (around : Circumstances) (x x' : Instance) (tenant : List ℕ) (before after : List Output)
    → Reacts around tenant forced x x' before after → (t : List ℕ)
    → stored_in (local_in t x').held ≡ stored_in (local_in t x).held
forced_stored around x x' tenant before after one t =
    ap (λ (l : Local). stored_in l.held) (one.local t) ∙ by (same t tenant)
  where
    by : (b : Bool) → stored_in (if b then (reaction_on around x t forced).local else local_in t x).held
        ≡ stored_in (local_in t x).held
    by true = ap stored_in (forced_held (here_on around x t) (local_in t x))
    by false = refl
