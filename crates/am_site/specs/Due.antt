-- What is due at a moment, of all tenants.
use Rattle.std.specs.Prelude.{◌≡◌, ℕ, List}
use Rattle.am_cluster.specs.Here.{Here}
use Rattle.am_cluster.specs.Ticking.{timers_of as all_timers}
use Rattle.am_node.specs.Held.{local_of as local_in_node}
use Rattle.am_node.specs.Plans.{IsPlanned}
use Rattle.am_timer.specs.Queue.{due_at, timers_of}
use Rattle.am_timer.specs.Timer.{Timer}
use Rattle.am_site.specs.InOrder.{IsInOrder}
use Rattle.am_site.specs.Locals.{local_of}
use Rattle.am_site.specs.declared.site.Site.{Site}

-- the timers of a tenant can be told by what the instance has of it
pub record IsTimely (here : Here) (site : Site) : Type 0 where
  pub order : IsInOrder here site
  pub planned : IsPlanned (local_in_node here.tenant site.node)

-- these are due at the moment: of each tenant those of its timers that are
abbrev pub AreDue : (moment : ℕ) → Site → List Timer → Type 0
AreDue moment site due =
    (here : Here) → here.moment ≡ moment → IsTimely here site
    → timers_of here.tenant due ≡ due_at moment (all_timers here (local_of here.tenant site))
