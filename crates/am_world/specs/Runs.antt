-- Whole runs: whatever the other tenants do, each tenant is as if alone.
use Rattle.std.specs.Prelude.{ℕ, ◌≡◌, ◌⊎◌, true, List, [], ◌∷◌, ◌++◌, length, take, drop}
use Rattle.std.specs.List.{flat_map}
use Rattle.am_cluster.specs.Courses.{after_all, fits_all, told_all}
use Rattle.am_cluster.specs.Events.{Event, Output}
use Rattle.am_cluster.specs.Happening.{Happening}
pub use Rattle.am_setup.specs.Setup.{Origin}
use Rattle.am_cluster.specs.Outputs.{are_owned, front_outputs, front_told_all, outputs_of}
use Rattle.am_cluster.specs.Patterns.{patterns_brought, patterns_open}
use Rattle.am_cluster.specs.PrivateCluster.{PrivateCluster, opened}
pub use Rattle.am_cluster.specs.View.{first_watch, names_once}
use Rattle.am_cluster.specs.View.{Watch, view, watch_all}
use Rattle.am_item.specs.declared.item.Item.{Item}
use Rattle.am_world.specs.Changes.{AreOpenedClean}
use Rattle.am_world.specs.Consistent.{Contents}
use Rattle.am_world.specs.Opening.{Opens}
use Rattle.am_world.specs.Places.{AreBuilt}
use Rattle.am_world.specs.Shelves.{NeverCleaner}
use Rattle.am_world.specs.Simulation.{AreAsked, Follows, IsSameBeside, StandsOver, fault_count, put_out, refused_by}
use Rattle.am_world.specs.Simulation.{roster_of}
use Rattle.am_world.specs.Stopping.{Faulted, Step}
use Rattle.am_world.specs.declared.state.State.{State}

-- one step for each event
abbrev pub Run : Contents → List Event → Contents → Type 0
Run c [] c' = c' ≡ c
Run c (e ∷ es) c' = (mid : Contents) × Step c e mid × Run mid es c'

-- one step for each event, from an opening on
abbrev pub RunsFrom : Origin → (rows : List ℕ → ℕ → List Item) → List Event → Contents → Type 0
RunsFrom origin rows es c' = (c : Contents) × Opens origin rows c × Run c es c'

-- the outputs that a run added
abbrev pub added : State → State → List Output
added w w' = drop (length (put_out w)) (put_out w')

-- the patterns that requests among these bring
abbrev pub patterns_asked : List Happening → List (List ℕ)
patterns_asked happenings = flat_map patterns_brought happenings

-- what a run needs, of a tenant: what is known is so, who waits for a reply had asked, the cluster has what the world
-- has, no name is used twice, and no pattern of the tenant's, of requests that wait or come, was refused a build by its
-- end
pub record RunPremises (t : List ℕ) (v : Watch) (p : PrivateCluster) (c : Contents) (es : List Event) (c' : Contents) :
    Type 0 where
  pub follows : Follows v c.state
  pub asked : AreAsked v c.state
  pub stands : StandsOver t c p
  pub once : names_once v es
  pub built : AreBuilt (refused_by c'.state) (patterns_open p ++ patterns_asked (view t v es))

-- what the tenant has of a run: of the outputs that were added its own are the private cluster's, the others are other
-- tenants' or the front's, no count of the tenant's passed the greatest and no message of its was too long, and a
-- further run can go on from here
pub record Isolated (t : List ℕ) (v : Watch) (p : PrivateCluster) (c : Contents) (es : List Event) (c' : Contents) :
    Type 0 where
  pub told : outputs_of t (watch_all v es) (added c.state c'.state) ≡ told_all p (view t v es)
  pub front : front_outputs (watch_all v es) (added c.state c'.state) ≡ front_told_all v es
  pub owned : are_owned (watch_all v es) (added c.state c'.state) ≡ true
  pub stay : take (length (put_out c.state)) (put_out c'.state) ≡ put_out c.state
  pub fits : fits_all p (view t v es) ≡ true
  pub follows : Follows (watch_all v es) c'.state
  pub asked : AreAsked (watch_all v es) c'.state
  pub stands : StandsOver t c' (after_all p (view t v es))

-- whatever the other tenants do, each tenant is as if alone, where each store that was opened on the way is in memory
-- or its disk has returned what was written
abbrev pub Headline : Contents → List Event → Contents → Type 0
Headline c es c' = fault_count c'.state ≡ 0 → AreOpenedClean (roster_of c.state) es c'.shelves →
    (t : List ℕ) (v : Watch) (p : PrivateCluster) → RunPremises t v p c es c' → Isolated t v p c es c'

-- a run that met a fault: what was put out before its first is each tenant's as if alone, and stays; a store whose disk
-- has returned what was written by the end had done so before that too
pub record Broken (c : Contents) (es : List Event) (c' : Contents) : Type 0 where
  pub before : List Event
  pub event : Event
  pub after : List Event
  pub events : es ≡ before ++ event ∷ after
  pub mid : Contents
  pub unbroken : fault_count mid.state ≡ fault_count c.state
  pub run : Run c before mid
  pub alone : Headline c before mid
  pub clean : NeverCleaner mid.shelves c'.shelves
  pub stopped : Contents
  pub fault : Faulted mid event stopped
  pub rest : Run stopped after c'
  pub outs : List Output
  pub appended : put_out c'.state ≡ put_out mid.state ++ outs

-- a run met no fault, or is told up to its first
abbrev pub Prefixes : Contents → List Event → Contents → Type 0
Prefixes c es c' = (fault_count c'.state ≡ fault_count c.state) ⊎ Broken c es c'

-- ---- where what a world put out is taken away event by event

-- the same world, but what it had put out is forgotten
pub record Forgets (w w' : State) : Type 0 where
  pub outputs : put_out w' ≡ []
  pub instances : w'.instances ≡ w.instances
  pub messages : w'.messages ≡ w.messages
  pub faults : fault_count w' ≡ fault_count w
  pub beside : IsSameBeside w w'

-- .. and its stores are as they were
pub record ForgetsOver (c c' : Contents) : Type 0 where
  pub forgets : Forgets c.state c'.state
  pub shelves : c'.shelves ≡ c.shelves

-- of all that was put out since the opening, each tenant's outputs are those of its private cluster, which begins with
-- the tenant's rows and sees what the events are to the tenant, unless a pattern of the tenant's is among those that
-- were refused a build; the others are the front's, and what it says to bytes alone
pub record Alone (origin : Origin) (rows : List ℕ → ℕ → List Item) (es : List Event) (refused : ℕ → List (List ℕ))
    (outs : List Output) : Type 0 where
  pub tenants : (t : List ℕ) → AreBuilt refused (patterns_asked (view t (first_watch origin) es)) →
      outputs_of t (watch_all (first_watch origin) es) outs ≡
      told_all (opened origin t (rows t)) (view t (first_watch origin) es)
  pub front : front_outputs (watch_all (first_watch origin) es) outs ≡ front_told_all (first_watch origin) es
  pub owned : are_owned (watch_all (first_watch origin) es) outs ≡ true
