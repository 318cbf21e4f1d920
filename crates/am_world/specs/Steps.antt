-- One event: for every tenant at once it is what the tenant's private cluster makes of it.
use Rattle.std.specs.Prelude.{◌≡◌, ◌⊎◌, ℕ, true, List, [], ◌∷◌, ◌++◌, Some, if◌then◌else◌}
use Rattle.am_cluster.specs.Patterns.{AreAllBuilt, IsRefusedBuild}
use Rattle.am_cluster.specs.Deciding.{Deciding, Decision, deciding_at}
use Rattle.am_cluster.specs.Arriving.{arrive}
use Rattle.am_cluster.specs.Courses.{after_all, course_by, fits_all, told_all}
use Rattle.am_cluster.specs.Events.{Event, Limits, Tick, Deliver, Output}
use Rattle.am_cluster.specs.Happening.{Happening}
use Rattle.am_cluster.specs.Moments.{effective, is_refused_tick}
use Rattle.am_cluster.specs.Operations.{Operation}
use Rattle.am_cluster.specs.Outputs.{are_owned, front_outputs, front_told, outputs_of}
use Rattle.am_cluster.specs.PrivateCluster.{PrivateCluster}
use Rattle.am_cluster.specs.Roster.{IsSameRoster}
use Rattle.am_cluster.specs.View.{AskedAs, FrontAnswered, Watch, adds, look, opens_new, watch}
use Rattle.am_item.specs.declared.item.Item.{Item}
use Rattle.am_limit.specs.Books.{limits_of}
use Rattle.am_limit.specs.declared.limits.Limits.{Limits as TenantLimits}
use Rattle.am_messages.specs.Posted.{posted_at}
use Rattle.am_messages.specs.declared.messages.Posted.{Posted}
use Rattle.am_messages.specs.declared.name.MessageName.{MessageName}
use Rattle.am_muting.specs.Failing.{AddsAmong}
use Rattle.am_instance.specs.Here.{IsGiven}
use Rattle.am_instance.specs.Instance.{local_in}
use Rattle.am_instance.specs.Reacting.{outputs_at, reaction_on}
use Rattle.am_instance.specs.declared.instance.Instance.{Instance}
use Rattle.am_world.specs.Changes.{OpensClean, roster_then}
use Rattle.am_world.specs.Consistent.{Contents, around_at}
use Rattle.am_world.specs.Places.{instance_at}
use Rattle.am_world.specs.Simulation.{AreAsked, Follows, StandsOver, fault_count, put_out, refused_by, roster_of}
use Rattle.am_world.specs.declared.state.State.{State}
use Rattle.am_instance.specs.Site.{Given, asked_on, decided_by}
use Rattle.am_tenant.specs.Names.{same}

-- what an event needs, of a tenant: what is known is so, who waits for a reply had asked, and the cluster has what the
-- world and its stores have
pub record Premises (t : List ℕ) (v : Watch) (p : PrivateCluster) (c : Contents) : Type 0 where
  pub follows : Follows v c.state
  pub asked : AreAsked v c.state
  pub stands : StandsOver t c p

-- what was decided of connections stays so
pub record Later (v u : Watch) : Type 0 where
  pub asked : (c : ℕ) (t : List ℕ) → look c v.table ≡ Some (AskedAs t) → look c u.table ≡ Some (AskedAs t)
  pub answered : (c : ℕ) → look c v.table ≡ Some FrontAnswered → look c u.table ≡ Some FrontAnswered

-- the tenant gets of an event what its private cluster makes of it: of these outputs its own are the cluster's, the
-- world has of it what the cluster has, no count passed the greatest and no message was too long, and what was accepted
-- has only patterns that were built
pub record IsAsAlone (t : List ℕ) (v : Watch) (p : PrivateCluster) (e : Event) (outs : List Output) (c' : Contents) :
    Type 0 where
  pub stands : StandsOver t c' (after_all p (adds t v e))
  pub told : (u : Watch) → Later (watch v e) u → outputs_of t u outs ≡ told_all p (adds t v e)
  pub fits : fits_all p (adds t v e) ≡ true
  pub built : AreAllBuilt p (adds t v e)

-- .. where this is decided on a request
abbrev pub when_decided : Decision → PrivateCluster → Happening → PrivateCluster
when_decided decision p h = (course_by (λ _ _ _ _. decision) p h).cluster

abbrev pub told_when_decided : Decision → PrivateCluster → Happening → List Output
told_when_decided decision p h = (course_by (λ _ _ _ _. decision) p h).outputs

-- The event decides a request of the tenant, which is refused, since a pattern of its own was refused its build: the
-- tenant gets what its cluster makes of the event that decides so.
pub record IsRefusedAlone (t : List ℕ) (v : Watch) (p : PrivateCluster) (c : Contents) (e : Event)
    (outs : List Output) (c' : Contents) : Type 0 where
  pub happening : Happening
  pub is_added : adds t v e ≡ happening ∷ []
  pub deciding : Deciding
  pub decides : deciding_at p happening ≡ Some deciding
  pub decision : Decision
  pub refused : IsRefusedBuild (refused_by c.state deciding.here.instance)
      (refused_by c'.state deciding.here.instance) deciding.operation.request deciding.here.limits decision
  pub stands : StandsOver t c' (when_decided decision p happening)
  pub told : (u : Watch) → Later (watch v e) u → outputs_of t u outs ≡ told_when_decided decision p happening
  pub fits : (course_by (λ _ _ _ _. decision) p happening).fits ≡ true

-- ---- what is refused a build

-- A message reached the instance of a number, and decided a request there of which a pattern was refused its build: the
-- request is refused for it, and what is put out is what the message comes to where it is so decided. The instance was
-- refused no texts but those that are asked for this decision.
pub record RefusesBuild (w : State) (name : MessageName) (moment i : ℕ) (outs : List Output) (w' : State) :
    Type 0 where
  pub posted : Posted
  pub found : posted_at name w.messages ≡ Some posted
  pub receiver : posted.message.to ≡ i
  pub instance : Instance
  pub is_at : instance_at i w.instances ≡ Some instance
  pub given : Given
  pub is_given : IsGiven (around_at (effective moment w.clock) w) instance posted.message.tenant given
  pub operation : Operation
  pub list : List Item
  pub decides : decided_by given posted.message (local_in posted.message.tenant instance) ≡ Some (operation, list)
  pub decision : Decision
  pub refused : IsRefusedBuild (refused_by w i) (refused_by w' i) operation.request given.limits decision
  pub told : outs ≡ outputs_at instance posted.message.tenant
      (reaction_on (around_at (effective moment w.clock) w) instance posted.message.tenant
      (λ here. arrive (λ _ _ _ _. decision) here posted.message)).said
  pub adds : AddsAmong (asked_on given operation.request list) (refused_by w i) (refused_by w' i)

-- the instance of a number is refused builds only so
abbrev pub KeepsBuilds : State → Event → ℕ → List Output → State → Type 0
KeepsBuilds w (Deliver name moment) i outs w' =
    (refused_by w' i ≡ refused_by w i) ⊎ RefusesBuild w name moment i outs w'
KeepsBuilds w e i outs w' = refused_by w' i ≡ refused_by w i

-- ---- beside tenants

-- the clock after an event: that of a tick that isn't refused
abbrev pub clock_after : Event → ℕ → ℕ
clock_after (Tick moment) clock = if is_refused_tick moment clock then clock else moment
clock_after e clock = clock

-- a tenant's limits after an event
abbrev pub limits_after : Event → List ℕ → TenantLimits → TenantLimits
limits_after (Limits tenant new) t limits = if same t tenant then new else limits
limits_after e t limits = limits

-- An event that was handled, or refused: for every tenant at once. What is put out is each tenant's, as its cluster
-- says, or the front's, as the bytes of the connections say, and nobody else's; of what an instance found in a store
-- that it opened this is so where the disk had returned what was written. No build is refused but where a request is
-- refused for it.
pub record Kept (c : Contents) (e : Event) (c' : Contents) : Type 0 where
  pub follows : (v : Watch) → Follows v c.state → Follows (watch v e) c'.state
  pub asked : OpensClean (roster_of c.state) e c'.shelves → (v : Watch) → Follows v c.state → opens_new v e →
      AreAsked v c.state → AreAsked (watch v e) c'.state
  pub outs : List Output
  pub appended : put_out c'.state ≡ put_out c.state ++ outs
  pub tenants : OpensClean (roster_of c.state) e c'.shelves → (t : List ℕ) (v : Watch) (p : PrivateCluster) →
      Premises t v p c → IsAsAlone t v p e outs c' ⊎ IsRefusedAlone t v p c e outs c'
  pub front : (v : Watch) → Follows v c.state → AreAsked v c.state → (u : Watch) → Later (watch v e) u →
      front_outputs u outs ≡ front_told v e
  pub owned : (v : Watch) → Follows v c.state → AreAsked v c.state → (u : Watch) → Later (watch v e) u →
      are_owned u outs ≡ true
  pub roster : IsSameRoster (roster_of c'.state) (roster_then e (roster_of c.state))
  pub clock : c'.state.clock ≡ clock_after e c.state.clock
  pub limits : (t : List ℕ) →
      limits_of t c'.state.common.limits ≡ limits_after e t (limits_of t c.state.common.limits)
  pub service_key : c'.state.common.service_key ≡ c.state.common.service_key
  pub refused : (i : ℕ) → KeepsBuilds c.state e i outs c'.state
  pub faults : fault_count c'.state ≡ fault_count c.state
